-- Digits read on from the left.
use Rattle.std.proofs.Common.{◌≡◌, ℕ, ◌+◌, ◌-◌, ◌*◌, ◌<◌, ◌≤◌, List, [], ◌∷◌, length, get_or, drop, sym, ◌∙◌, arith}
use Rattle.std.proofs.lemmas.List.{at_drop_more}
use Rattle.lexer.specs.Bytes.{read_on, base_ten}

-- a number too large stays so
read_on_grows : (n : ℕ) (ds : List ℕ) → n ≤ read_on n ds
read_on_grows n [] = omega arith
read_on_grows n (d ∷ ds) = omega (arith, read_on_grows (n * 10 + (d - 48)) ds)

-- what has been read with one digit more is at most the whole
pub read_within : (n i : ℕ) (ds : List ℕ) → read_on n (drop i ds) ≡ base_ten ds → i < length ds → n * 10 + (get_or ds i 0 - 48) ≤ base_ten ds
read_within n i ds same h =
    omega (arith, sym (at_drop_more (read_on n) ds i 0 h) ∙ same, read_on_grows (n * 10 + (get_or ds i 0 - 48)) (drop (i + 1) ds))
