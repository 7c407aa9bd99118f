-- Texts of lower-case letters and digits: what a walk over the bytes tells of the whole, and that such a text is ASCII.
use Rattle.std.proofs.Common.{◌≡◌, ℕ, zero, suc, ◌<◌, Bool, true, false, ◌||◌, List, [], ◌∷◌, length, slice_index, slice_index_or, MatchBool, refl, sym, arith}
use Rattle.std.specs.List.{AllWithin, HoldsAt}
use Rattle.std.specs.Prelude.{nat_le}
use Rattle.std.specs.Str.{IsAscii}
use Rattle.std.proofs.lemmas.Bool.{and_from, and_left, and_parts, and_right, leb-true}
use Rattle.std.proofs.lemmas.List.{get_or_past}
use Rattle.pattern.specs.Names.{is_lower, is_digit, all_plain}

all_true : (bs : List ℕ) → ((k d : ℕ) → k < length bs → (is_lower (slice_index_or bs k d) || is_digit (slice_index_or bs k d)) ≡ true) → all_plain bs ≡ true
all_true [] each = refl
all_true (b ∷ bs) each =
    and_from (is_lower b || is_digit b) _ (each 0 0 (omega arith)) (all_true bs (λ k d h. each (suc k) d (omega (arith, h))))

one_false : (bs : List ℕ) (k : ℕ) → k < length bs → ((d : ℕ) → (is_lower (slice_index_or bs k d) || is_digit (slice_index_or bs k d)) ≡ false) → all_plain bs ≡ false
one_false [] k h at = absurd (omega (arith, h))
one_false (b ∷ bs) zero h at = and_left (is_lower b || is_digit b) _ (at 0)
one_false (b ∷ bs) (suc k) h at = and_right (is_lower b || is_digit b) _ (one_false bs k (omega (arith, h)) at)

pub all_plain_by : (bs : List ℕ) (r : Bool) → MatchBool r (AllWithin (λ b. (is_lower b || is_digit b) ≡ true) bs 0 (length bs)) ((k : ℕ) × (k < length bs) × HoldsAt (λ b. (is_lower b || is_digit b) ≡ false) bs k) → r ≡ all_plain bs
all_plain_by bs true each = sym (all_true bs (λ k d h. each k d (omega arith) h))
all_plain_by bs false one = sym (one_false bs one.0 one.1 one.2)

-- lower-case letters and digits are ASCII
plain_is_ascii : (b : ℕ) → (is_lower b || is_digit b) ≡ true → b < 128
plain_is_ascii b e = go (is_lower b) refl e
  where
    go : (l : Bool) → is_lower b ≡ l → (l || is_digit b) ≡ true → b < 128
    go true h e = omega (arith, leb-true b 122 (and_parts (nat_le 97 b) (nat_le b 122) h).1)
    go false h e = omega (arith, leb-true b 57 (and_parts (nat_le 48 b) (nat_le b 57) e).1)

pub all_plain_is_ascii : (bs : List ℕ) → all_plain bs ≡ true → IsAscii bs
all_plain_is_ascii [] e i = let none : slice_index [] i ≡ 0 = get_or_past {X = ℕ} [] i 0 (omega arith) in omega (arith, none)
all_plain_is_ascii (b ∷ bs) e zero = plain_is_ascii b (and_parts (is_lower b || is_digit b) (all_plain bs) e).0
all_plain_is_ascii (b ∷ bs) e (suc i) = all_plain_is_ascii bs (and_parts (is_lower b || is_digit b) (all_plain bs) e).1 i
