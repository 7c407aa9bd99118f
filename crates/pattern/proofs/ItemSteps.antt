-- Items one by one.
use Rattle.std.proofs.Common.{◌≡◌, ℕ, zero, suc, ◌+◌, ◌-◌, ◌<◌, ◌≤◌, List, [], ◌∷◌, ◌++◌, length, get_or, drop, sym, refl, ap, ◌∙◌, arith}
use Rattle.std.proofs.lemmas.List.{at_drop_more}
use Rattle.pattern.specs.declared.items.Item.{Item}
use Rattle.pattern.specs.declared.items.Item.TheVariants.{Operand, Unary, Binary, Constant, Variable}
use Rattle.pattern.specs.Items.{item_parts, whole_from, operands_in, leaves_in, count_of_operands, count_of_leaves}

-- a function of what is left of the items, one item on
pub step : {Y : Type 0} (F : List Item → Y) (xs : List Item) (i : ℕ) (x : Item) → i < length xs → x ≡ get_or xs i x → F (drop i xs) ≡ F (x ∷ drop (i + 1) xs)
step F xs i x h is = at_drop_more F xs i x h ∙ ap (λ y. F (y ∷ drop (i + 1) xs)) (sym is)

pub whole_step : (n : ℕ) (x : Item) (xs : List Item) → (n ≡ 0 → ⊥) → whole_from n (x ∷ xs) ≡ whole_from (item_parts x + (n - 1)) xs
whole_step zero x xs h = absurd (h refl)
whole_step (suc n) x xs h = let back : n ≡ suc n - 1 = omega arith in ap (λ k. whole_from (item_parts x + k) xs) back

pub parts_few : (x : Item) → item_parts x ≤ 2
parts_few (Operand a) = omega arith
parts_few (Unary o) = omega arith
parts_few (Binary o) = omega arith
parts_few (Constant i) = omega arith
parts_few Variable = omega arith

pub operands_few : (x : Item) → operands_in x ≤ 1
operands_few (Operand a) = omega arith
operands_few (Unary o) = omega arith
operands_few (Binary o) = omega arith
operands_few (Constant i) = omega arith
operands_few Variable = omega arith

pub leaves_few : (x : Item) → leaves_in x ≤ 1
leaves_few (Operand a) = omega arith
leaves_few (Unary o) = omega arith
leaves_few (Binary o) = omega arith
leaves_few (Constant i) = omega arith
leaves_few Variable = omega arith

-- one item more at the end
pub operands_push : (xs : List Item) (x : Item) → count_of_operands (xs ++ x ∷ []) ≡ count_of_operands xs + operands_in x
operands_push [] x = omega arith
operands_push (y ∷ ys) x = omega (arith, operands_push ys x)

pub leaves_push : (xs : List Item) (x : Item) → count_of_leaves (xs ++ x ∷ []) ≡ count_of_leaves xs + leaves_in x
leaves_push [] x = omega arith
leaves_push (y ∷ ys) x = omega (arith, leaves_push ys x)
