-- The items and the brackets of a rule while it is read.
use Rattle.std.proofs.Common.{◌≡◌, ℕ, ◌+◌, ◌-◌, ◌<◌, ◌≤◌, true, false, leb, List, [], ◌∷◌, ◌++◌, length, take, sym, refl, ap, ◌∙◌, arith}
use Rattle.std.proofs.lemmas.List.{length_push, take_at}
use Rattle.std.proofs.lemmas.Bool.{and_from, and_left, and_right, le-leb, lt-leb}
use Rattle.pattern.specs.declared.items.Item.{Item}
use Rattle.pattern.specs.declared.items.Item.TheVariants.{Operand, Unary, Binary, Constant, Variable}
use Rattle.pattern.specs.Items.{operands_in, leaves_in}
use Rattle.description.specs.Outlines.{Part, operand, one_sided, two_sided, constant, variable, part_of}
use Rattle.reader.specs.Reading.{operands_among, leaves_among, within_limits, last_replaced}
use Rattle.reader.specs.States.{EndsInConstant}

pub operands_append : (xs ys : List Part) → operands_among (xs ++ ys) ≡ operands_among xs + operands_among ys
operands_append [] ys = omega arith
operands_append (operand a ∷ xs) ys = omega (arith, operands_append xs ys)
operands_append (one_sided o ∷ xs) ys = operands_append xs ys
operands_append (two_sided o ∷ xs) ys = operands_append xs ys
operands_append (constant l h ∷ xs) ys = operands_append xs ys
operands_append (variable ∷ xs) ys = operands_append xs ys

pub leaves_append : (xs ys : List Part) → leaves_among (xs ++ ys) ≡ leaves_among xs + leaves_among ys
leaves_append [] ys = omega arith
leaves_append (operand a ∷ xs) ys = leaves_append xs ys
leaves_append (one_sided o ∷ xs) ys = leaves_append xs ys
leaves_append (two_sided o ∷ xs) ys = leaves_append xs ys
leaves_append (constant l h ∷ xs) ys = omega (arith, leaves_append xs ys)
leaves_append (variable ∷ xs) ys = omega (arith, leaves_append xs ys)

pub operands_few : (xs : List Part) → operands_among xs ≤ length xs
operands_few [] = omega arith
operands_few (operand a ∷ xs) = omega (arith, operands_few xs)
operands_few (one_sided o ∷ xs) = omega (arith, operands_few xs)
operands_few (two_sided o ∷ xs) = omega (arith, operands_few xs)
operands_few (constant l h ∷ xs) = omega (arith, operands_few xs)
operands_few (variable ∷ xs) = omega (arith, operands_few xs)

pub leaves_few : (xs : List Part) → leaves_among xs ≤ length xs
leaves_few [] = omega arith
leaves_few (operand a ∷ xs) = omega (arith, leaves_few xs)
leaves_few (one_sided o ∷ xs) = omega (arith, leaves_few xs)
leaves_few (two_sided o ∷ xs) = omega (arith, leaves_few xs)
leaves_few (constant l h ∷ xs) = omega (arith, leaves_few xs)
leaves_few (variable ∷ xs) = omega (arith, leaves_few xs)

-- an item counts as its part
pub operand_is : (x : Item) → operands_in x ≡ operands_among (part_of x ∷ [])
operand_is (Operand a) = refl
operand_is (Unary o) = refl
operand_is (Binary o) = refl
operand_is (Constant i) = refl
operand_is Variable = refl

pub leaf_is : (x : Item) → leaves_in x ≡ leaves_among (part_of x ∷ [])
leaf_is (Operand a) = refl
leaf_is (Unary o) = refl
leaf_is (Binary o) = refl
leaf_is (Constant i) = refl
leaf_is Variable = refl

module _ (xs : List Part) (x : Part) where
  pub limits_kept : length xs < 7 → operands_among xs + operands_among (x ∷ []) ≤ 2 → leaves_among xs + leaves_among (x ∷ []) ≤ 2 → within_limits (xs ++ x ∷ []) ≡ true
  limits_kept a b c =
      let items : length (xs ++ x ∷ []) ≤ 7 = omega (arith, length_push xs x) in
      let operands : operands_among (xs ++ x ∷ []) ≤ 2 = omega (arith, operands_append xs (x ∷ [])) in
      let leaves : leaves_among (xs ++ x ∷ []) ≤ 2 = omega (arith, leaves_append xs (x ∷ [])) in
      and_from _ _ (le-leb _ 7 items) (and_from _ _ (le-leb _ 2 operands) (le-leb _ 2 leaves))

  pub too_many_items : 7 ≤ length xs → within_limits (xs ++ x ∷ []) ≡ false
  too_many_items a =
      let items : 7 < length (xs ++ x ∷ []) = omega (arith, length_push xs x) in
      and_left _ _ (lt-leb _ 7 items)

  pub too_many_operands : 2 < operands_among xs + operands_among (x ∷ []) → within_limits (xs ++ x ∷ []) ≡ false
  too_many_operands a =
      let operands : 2 < operands_among (xs ++ x ∷ []) = omega (arith, operands_append xs (x ∷ [])) in
      and_right (leb (length (xs ++ x ∷ [])) 7) _ (and_left _ _ (lt-leb _ 2 operands))

  pub too_many_leaves : 2 < leaves_among xs + leaves_among (x ∷ []) → within_limits (xs ++ x ∷ []) ≡ false
  too_many_leaves a =
      let leaves : 2 < leaves_among (xs ++ x ∷ []) = omega (arith, leaves_append xs (x ∷ [])) in
      and_right (leb (length (xs ++ x ∷ [])) 7) _ (and_right (leb (operands_among (xs ++ x ∷ [])) 2) _ (lt-leb _ 2 leaves))

-- the last part replaced
pub replaced_last : (ys : List Part) (c x : Part) → last_replaced (ys ++ c ∷ []) x ≡ ys ++ x ∷ []
replaced_last ys c x =
    let less : length (ys ++ c ∷ []) - 1 ≡ length ys = omega (arith, length_push ys c) in
    ap (λ zs. zs ++ x ∷ []) (ap (λ k. take k (ys ++ c ∷ [])) less ∙ take_at ys (c ∷ []) (length ys) refl)

pub replaced_end : (xs : List Part) (some : EndsInConstant xs) (x : Part) → last_replaced xs x ≡ some.0 ++ x ∷ []
replaced_end xs some x = ap (λ zs. last_replaced zs x) some.3 ∙ replaced_last some.0 (constant some.1 some.2) x

pub operands_replaced : (xs : List Part) (some : EndsInConstant xs) (l h : ℕ) → operands_among (last_replaced xs (constant l h)) ≡ operands_among xs
operands_replaced xs some l h =
    ap operands_among (replaced_end xs some (constant l h)) ∙ operands_append some.0 (constant l h ∷ [])
    ∙ sym (ap operands_among some.3 ∙ operands_append some.0 (constant some.1 some.2 ∷ []))

pub leaves_replaced : (xs : List Part) (some : EndsInConstant xs) (l h : ℕ) → leaves_among (last_replaced xs (constant l h)) ≡ leaves_among xs
leaves_replaced xs some l h =
    ap leaves_among (replaced_end xs some (constant l h)) ∙ leaves_append some.0 (constant l h ∷ [])
    ∙ sym (ap leaves_among some.3 ∙ leaves_append some.0 (constant some.1 some.2 ∷ []))
