-- A list of items read from the right: the shapes that stand side by side. From this: a list of items is the reading of at
-- most one shape, and exactly the whole lists are.
use Rattle.std.proofs.Common.{◌≡◌, ℕ, zero, suc, ◌+◌, true, List, [], ◌∷◌, ◌++◌, length, sym, refl, ap, ◌∙◌, append_assoc, append-nil, zero-add, arith}
use Rattle.std.proofs.lemmas.Bool.{eqb-true, false≢true}
use Rattle.pattern.specs.declared.items.Item.{Item}
use Rattle.pattern.specs.declared.items.Item.TheVariants.{Operand, Unary, Binary, Constant, Variable}
use Rattle.pattern.specs.Items.{item_parts, whole_from}
use Rattle.pattern.specs.Shapes.{Shape, operand_shape, constant_shape, variable_shape, unary_shape, binary_shape, reading, OneShapeAtMost, WholeIsShape}

-- the first shape, and the others
abbrev pub foremost : List Shape → Shape
foremost [] = variable_shape
foremost (p ∷ ps) = p

abbrev pub others : List Shape → List Shape
others [] = []
others (p ∷ ps) = ps

-- what an item makes of the shapes after it
abbrev pub joined_shapes : Item → List Shape → List Shape
joined_shapes (Operand a) ps = operand_shape a ∷ ps
joined_shapes (Constant i) ps = constant_shape i ∷ ps
joined_shapes Variable ps = variable_shape ∷ ps
joined_shapes (Unary o) ps = unary_shape o (foremost ps) ∷ others ps
joined_shapes (Binary o) ps = binary_shape o (foremost ps) (foremost (others ps)) ∷ others (others ps)

abbrev pub shapes_from : List Item → List Shape
shapes_from [] = []
shapes_from (x ∷ xs) = joined_shapes x (shapes_from xs)

-- reading a shape's items adds that shape
pub shapes_reading : (p : Shape) (xs : List Item) → shapes_from (reading p ++ xs) ≡ p ∷ shapes_from xs
shapes_reading (operand_shape a) xs = refl
shapes_reading (constant_shape i) xs = refl
shapes_reading variable_shape xs = refl
shapes_reading (unary_shape o p) xs = ap (joined_shapes (Unary o)) (shapes_reading p xs)
shapes_reading (binary_shape o p q) xs =
    ap (λ l. joined_shapes (Binary o) (shapes_from l)) (append_assoc (reading p) (reading q) xs)
    ∙ ap (joined_shapes (Binary o)) (shapes_reading p (reading q ++ xs) ∙ ap (λ ps. p ∷ ps) (shapes_reading q xs))

-- the shape of a list of items, if it is one
abbrev pub shape_from : List Item → Shape
shape_from xs = foremost (shapes_from xs)

pub shape_reading : (p : Shape) (xs : List Item) → reading p ≡ xs → shape_from xs ≡ p
shape_reading p xs e = ap shape_from (sym e ∙ sym (append-nil (reading p))) ∙ ap foremost (shapes_reading p [])

pub one_shape_at_most_lem : OneShapeAtMost
one_shape_at_most_lem p q e = sym (shape_reading p (reading q) e) ∙ shape_reading q (reading q) refl

-- the items of shapes side by side
abbrev readings : List Shape → List Item
readings [] = []
readings (p ∷ ps) = reading p ++ readings ps

record Standing (n : ℕ) (xs : List Item) (ps : List Shape) : Type 0 where
  count : length ps ≡ n
  items : readings ps ≡ xs

joins : (x : Item) (n : ℕ) (xs : List Item) (ps : List Shape) → Standing (item_parts x + n) xs ps → Standing (suc n) (x ∷ xs) (joined_shapes x ps)
joins (Operand a) n xs ps s = record { count = omega (arith, s.count); items = ap (λ l. Operand a ∷ l) s.items }
joins (Constant i) n xs ps s = record { count = omega (arith, s.count); items = ap (λ l. Constant i ∷ l) s.items }
joins Variable n xs ps s = record { count = omega (arith, s.count); items = ap (λ l. Variable ∷ l) s.items }
joins (Unary o) n xs [] s = absurd (omega (arith, s.count))
joins (Unary o) n xs (p ∷ ps) s = record { count = omega (arith, s.count); items = ap (λ l. Unary o ∷ l) s.items }
joins (Binary o) n xs [] s = absurd (omega (arith, s.count))
joins (Binary o) n xs (p ∷ []) s = absurd (omega (arith, s.count))
joins (Binary o) n xs (p ∷ q ∷ ps) s = record {
  count = omega (arith, s.count);
  items = ap (λ l. Binary o ∷ l) (append_assoc (reading p) (reading q) (readings ps) ∙ s.items);
}

standing : (n : ℕ) (xs : List Item) → whole_from n xs ≡ true → Standing n xs (shapes_from xs)
standing n [] w = record { count = sym (eqb-true n 0 w); items = refl }
standing zero (x ∷ xs) w = absurd (false≢true w)
standing (suc n) (x ∷ xs) w = joins x n xs (shapes_from xs) (standing (item_parts x + n) xs w)

only : (ps : List Shape) (xs : List Item) → Standing 1 xs ps → reading (foremost ps) ≡ xs
only [] xs s = absurd (omega (arith, s.count))
only (p ∷ []) xs s = sym (append-nil (reading p)) ∙ s.items
only (p ∷ q ∷ ps) xs s = absurd (omega (arith, s.count))

-- a whole list is the reading of its shape
pub reading_shape : (xs : List Item) → whole_from 1 xs ≡ true → reading (shape_from xs) ≡ xs
reading_shape xs w = only (shapes_from xs) xs (standing 1 xs w)

-- the other way: after a shape's items one pattern less is wanted
pub whole_reading : (p : Shape) (n : ℕ) (xs : List Item) → whole_from (suc n) (reading p ++ xs) ≡ whole_from n xs
whole_reading (operand_shape a) n xs = ap (λ k. whole_from k xs) (zero-add n)
whole_reading (constant_shape i) n xs = ap (λ k. whole_from k xs) (zero-add n)
whole_reading variable_shape n xs = ap (λ k. whole_from k xs) (zero-add n)
whole_reading (unary_shape o p) n xs =
    let one : 1 + n ≡ suc n = omega arith in
    ap (λ k. whole_from k (reading p ++ xs)) one ∙ whole_reading p n xs
whole_reading (binary_shape o p q) n xs =
    let two : 2 + n ≡ suc (suc n) = omega arith in
    ap (λ k. whole_from k ((reading p ++ reading q) ++ xs)) two
    ∙ ap (whole_from (suc (suc n))) (append_assoc (reading p) (reading q) xs)
    ∙ whole_reading p (suc n) (reading q ++ xs) ∙ whole_reading q n xs

pub whole_is_shape_lem : WholeIsShape
whole_is_shape_lem xs = (
  λ w. (shape_from xs, reading_shape xs w),
  λ p e. ap (whole_from 1) (sym e ∙ sym (append-nil (reading p))) ∙ whole_reading p 0 [],
)
