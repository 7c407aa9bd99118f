-- The limits of a pattern hold of its fronts, and do not see a constant's range.
use Rattle.std.proofs.Common.{◌≡◌, ℕ, ◌+◌, ◌-◌, true, ◌&&◌, leb, List, [], ◌∷◌, ◌++◌, length, sym, ap, ◌∙◌, arith, length-append}
use Rattle.std.proofs.lemmas.List.{take_at, length_push}
use Rattle.std.proofs.lemmas.Bool.{and_from, and_parts, le-leb, leb-true}
use Rattle.description.specs.Outlines.{Part, operand, one_sided, two_sided, constant, variable}
use Rattle.reader.specs.Reading.{operands_among, leaves_among, within_limits, last_replaced}

operands_append : (xs ys : List Part) → operands_among (xs ++ ys) ≡ operands_among xs + operands_among ys
operands_append [] ys = omega arith
operands_append (operand a ∷ xs) ys = omega (arith, operands_append xs ys)
operands_append (one_sided o ∷ xs) ys = operands_append xs ys
operands_append (two_sided o ∷ xs) ys = operands_append xs ys
operands_append (constant l h ∷ xs) ys = operands_append xs ys
operands_append (variable ∷ xs) ys = operands_append xs ys

leaves_append : (xs ys : List Part) → leaves_among (xs ++ ys) ≡ leaves_among xs + leaves_among ys
leaves_append [] ys = omega arith
leaves_append (operand a ∷ xs) ys = leaves_append xs ys
leaves_append (one_sided o ∷ xs) ys = leaves_append xs ys
leaves_append (two_sided o ∷ xs) ys = leaves_append xs ys
leaves_append (constant l h ∷ xs) ys = omega (arith, leaves_append xs ys)
leaves_append (variable ∷ xs) ys = omega (arith, leaves_append xs ys)

pub front_within : (xs ys : List Part) → within_limits (xs ++ ys) ≡ true → within_limits xs ≡ true
front_within xs ys e =
    let first = and_parts (leb (length (xs ++ ys)) 7) _ e in
    let second = and_parts (leb (operands_among (xs ++ ys)) 2) _ first.1 in
    and_from _ _ (le-leb (length xs) 7 (omega (arith, leb-true _ 7 first.0, length-append xs ys)))
    (and_from _ _ (le-leb (operands_among xs) 2 (omega (arith, leb-true _ 2 second.0, operands_append xs ys)))
    (le-leb (leaves_among xs) 2 (omega (arith, leb-true _ 2 second.1, leaves_append xs ys))))

-- another range at the end
pub other_range : (xs : List Part) (a b c d : ℕ) → within_limits (xs ++ constant a b ∷ []) ≡ within_limits (xs ++ constant c d ∷ [])
other_range xs a b c d = λ i. leb (lengths i) 7 && (leb (operand_counts i) 2 && leb (leaf_counts i) 2)
  where
    lengths : length (xs ++ constant a b ∷ []) ≡ length (xs ++ constant c d ∷ [])
    lengths = length-append xs (constant a b ∷ []) ∙ sym (length-append xs (constant c d ∷ []))

    operand_counts : operands_among (xs ++ constant a b ∷ []) ≡ operands_among (xs ++ constant c d ∷ [])
    operand_counts = operands_append xs (constant a b ∷ []) ∙ sym (operands_append xs (constant c d ∷ []))

    leaf_counts : leaves_among (xs ++ constant a b ∷ []) ≡ leaves_among (xs ++ constant c d ∷ [])
    leaf_counts = leaves_append xs (constant a b ∷ []) ∙ sym (leaves_append xs (constant c d ∷ []))

pub replaced : (xs : List Part) (x y : Part) → last_replaced (xs ++ x ∷ []) y ≡ xs ++ y ∷ []
replaced xs x y =
    let long : length xs ≡ length (xs ++ x ∷ []) - 1 = omega (arith, length_push xs x) in
    ap (λ zs. zs ++ y ∷ []) (take_at xs (x ∷ []) (length (xs ++ x ∷ []) - 1) long)
