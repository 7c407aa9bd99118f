-- Bytes by what they are to a token, and the runs of them.
-- A text is the list of its bytes; a byte is a number from 0 to 255, below 128 a character's code in ASCII.
use Rattle.std.specs.Prelude.{ℕ, ◌+◌, ◌-◌, ◌*◌, Bool, ◌&&◌, ◌||◌, List, [], ◌∷◌, ◌==◌, nat_le}
use Rattle.std.specs.List.{prefix_len}
use Rattle.lexer.specs.declared.runs.Class.{Class}
use Rattle.lexer.specs.declared.runs.Class.TheVariants.{Space, Digit, Capital, LowerOrDigit}

abbrev pub is_space : ℕ → Bool
is_space b = b == 32

-- 0 to 9
abbrev pub is_digit : ℕ → Bool
is_digit b = nat_le 48 b && nat_le b 57

-- A to Z
abbrev pub is_capital : ℕ → Bool
is_capital b = nat_le 65 b && nat_le b 90

-- a to z
abbrev pub is_lower : ℕ → Bool
is_lower b = nat_le 97 b && nat_le b 122

abbrev pub is_lower_or_digit : ℕ → Bool
is_lower_or_digit b = is_lower b || is_digit b

-- what a class of bytes asks of a byte
abbrev pub is_in : Class → ℕ → Bool
is_in Space = is_space
is_in Digit = is_digit
is_in Capital = is_capital
is_in LowerOrDigit = is_lower_or_digit

-- the length of the longest front whose bytes all pass a test
abbrev pub longest_run : (ℕ → Bool) → List ℕ → ℕ
longest_run test bs = prefix_len test bs

-- digits read on from the left, in base ten, where n has been read before them
abbrev pub read_on : ℕ → List ℕ → ℕ
read_on n [] = n
read_on n (d ∷ ds) = read_on (n * 10 + (d - 48)) ds

-- the number that digits write
abbrev pub base_ten : List ℕ → ℕ
base_ten ds = read_on 0 ds
