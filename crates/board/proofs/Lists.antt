-- The operands and the leaves of a pattern, by its items and by its shape.
use Rattle.std.proofs.Common.{◌≡◌, ℕ, ◌<◌, true, false, ◌&&◌, ltb, List, [], ◌∷◌, ◌++◌, length, get_or, sym, refl, ap, ◌∙◌, append_assoc, append-nil, arith}
use Rattle.std.proofs.lemmas.Bool.{false≢true}
use Rattle.pattern.specs.declared.items.Item.{Item}
use Rattle.pattern.specs.declared.items.Item.TheVariants.{Operand, Unary, Binary, Constant, Variable}
use Rattle.pattern.specs.Items.{count_of_operands, count_of_leaves, leaves_in}
use Rattle.pattern.specs.Shapes.{Shape, operand_shape, constant_shape, variable_shape, unary_shape, binary_shape, reading, operands_of, leaves_of}
use Rattle.board.specs.Instructions.{operand_list, leaf_list, item_admits}
use Rattle.board.specs.Payloads.{admits_all}
use Rattle.board.proofs.Fronts.{front, rest_of}

pub operands_counted : (xs : List Item) → length (operand_list xs) ≡ count_of_operands xs
operands_counted [] = refl
operands_counted (Operand a ∷ xs) = omega (arith, operands_counted xs)
operands_counted (Unary o ∷ xs) = omega (arith, operands_counted xs)
operands_counted (Binary o ∷ xs) = omega (arith, operands_counted xs)
operands_counted (Constant i ∷ xs) = omega (arith, operands_counted xs)
operands_counted (Variable ∷ xs) = omega (arith, operands_counted xs)

pub leaves_counted : (xs : List Item) → length (leaf_list xs) ≡ count_of_leaves xs
leaves_counted [] = refl
leaves_counted (Operand a ∷ xs) = omega (arith, leaves_counted xs)
leaves_counted (Unary o ∷ xs) = omega (arith, leaves_counted xs)
leaves_counted (Binary o ∷ xs) = omega (arith, leaves_counted xs)
leaves_counted (Constant i ∷ xs) = omega (arith, leaves_counted xs)
leaves_counted (Variable ∷ xs) = omega (arith, leaves_counted xs)

operands_reading : (p : Shape) (xs : List Item) → operand_list (reading p ++ xs) ≡ operands_of p ++ operand_list xs
operands_reading (operand_shape a) xs = refl
operands_reading (constant_shape i) xs = refl
operands_reading variable_shape xs = refl
operands_reading (unary_shape o p) xs = operands_reading p xs
operands_reading (binary_shape o p q) xs =
    ap operand_list (append_assoc (reading p) (reading q) xs) ∙ operands_reading p (reading q ++ xs)
    ∙ ap (λ l. operands_of p ++ l) (operands_reading q xs) ∙ sym (append_assoc (operands_of p) (operands_of q) (operand_list xs))

leaves_reading : (p : Shape) (xs : List Item) → leaf_list (reading p ++ xs) ≡ leaves_of p ++ leaf_list xs
leaves_reading (operand_shape a) xs = refl
leaves_reading (constant_shape i) xs = refl
leaves_reading variable_shape xs = refl
leaves_reading (unary_shape o p) xs = leaves_reading p xs
leaves_reading (binary_shape o p q) xs =
    ap leaf_list (append_assoc (reading p) (reading q) xs) ∙ leaves_reading p (reading q ++ xs)
    ∙ ap (λ l. leaves_of p ++ l) (leaves_reading q xs) ∙ sym (append_assoc (leaves_of p) (leaves_of q) (leaf_list xs))

pub operands_read : (p : Shape) → operand_list (reading p) ≡ operands_of p
operands_read p = ap operand_list (sym (append-nil (reading p))) ∙ operands_reading p [] ∙ append-nil (operands_of p)

pub leaves_read : (p : Shape) → leaf_list (reading p) ≡ leaves_of p
leaves_read p = ap leaf_list (sym (append-nil (reading p))) ∙ leaves_reading p [] ∙ append-nil (leaves_of p)

-- a leaf takes the first payload
pub leaf_front : (x : Item) (xs : List Item) (ws : List ℕ) → ltb 0 (leaves_in x) ≡ true → 0 < length ws → admits_all (leaf_list (x ∷ xs)) ws ≡ (item_admits x (get_or ws 0 0) && admits_all (leaf_list xs) (rest_of ws))
leaf_front (Operand a) xs ws l h = absurd (false≢true l)
leaf_front (Unary o) xs ws l h = absurd (false≢true l)
leaf_front (Binary o) xs ws l h = absurd (false≢true l)
leaf_front (Constant i) xs ws l h = ap (admits_all (leaf_list (Constant i ∷ xs))) (front ws h)
leaf_front Variable xs ws l h = ap (admits_all (leaf_list (Variable ∷ xs))) (front ws h)

pub leaf_missing : (x : Item) (xs : List Item) (ws : List ℕ) → ltb 0 (leaves_in x) ≡ true → length ws < 1 → admits_all (leaf_list (x ∷ xs)) ws ≡ false
leaf_missing (Operand a) xs ws l h = absurd (false≢true l)
leaf_missing (Unary o) xs ws l h = absurd (false≢true l)
leaf_missing (Binary o) xs ws l h = absurd (false≢true l)
leaf_missing (Constant i) xs [] l h = refl
leaf_missing (Constant i) xs (w ∷ ws) l h = absurd (omega arith)
leaf_missing Variable xs [] l h = refl
leaf_missing Variable xs (w ∷ ws) l h = absurd (omega arith)

pub no_leaf : (x : Item) (xs : List Item) (ws : List ℕ) → ltb 0 (leaves_in x) ≡ false → admits_all (leaf_list (x ∷ xs)) ws ≡ admits_all (leaf_list xs) ws
no_leaf (Operand a) xs ws l = refl
no_leaf (Unary o) xs ws l = refl
no_leaf (Binary o) xs ws l = refl
no_leaf (Constant i) xs ws l = absurd (false≢true (sym l))
no_leaf Variable xs ws l = absurd (false≢true (sym l))
