-- Which texts are short names. A text is the list of its bytes, in ASCII.
use Rattle.std.specs.Prelude.{ℕ, Bool, true, ◌&&◌, ◌||◌, List, [], ◌∷◌, length, nat_le, slice_index}

abbrev pub is_lower : ℕ → Bool
is_lower b = nat_le 97 b && nat_le b 122

abbrev pub is_digit : ℕ → Bool
is_digit b = nat_le 48 b && nat_le b 57

-- lower-case letters and digits only
abbrev pub all_plain : List ℕ → Bool
all_plain [] = true
all_plain (b ∷ bs) = (is_lower b || is_digit b) && all_plain bs

-- 1 to 8 lower-case letters or digits, a letter first (an empty list counts as having 0 there)
abbrev pub short_name : List ℕ → Bool
short_name bs = is_lower (slice_index bs 0) && (nat_le (length bs) 8 && all_plain bs)
