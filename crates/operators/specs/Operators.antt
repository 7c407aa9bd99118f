-- Words, and the fourteen operators: their numbers, their names, how many parts each has and what each gives.
-- A word is a number from 0 to 4294967295, and every result is taken modulo 2 ^ 32.
use Rattle.std.specs.Prelude.{◌≡◌, ℕ, suc, ◌+◌, ◌-◌, ◌*◌, ◌/◌, ◌%◌, ◌^◌, ◌<◌, ◌≤◌, cond, List, [], ◌∷◌, ℤ, pos, negsuc, ◌+ℤ◌, Some, None, codes, Option, ◌==◌, bit_and, bit_or, bit_xor, int_lt, nat_lt}
use Rattle.operators.specs.declared.Unary.{Unary}
use Rattle.operators.specs.declared.Unary.TheVariants.{Neg, Not}
use Rattle.operators.specs.declared.Binary.{Binary}
use Rattle.operators.specs.declared.Binary.TheVariants.{Add, Sub, Mul, And, Or, Xor, Shl, Shr, Sar, Lt}
use Rattle.operators.specs.declared.Operator.{Operator}
use Rattle.operators.specs.declared.Operator.TheVariants.{Cnst, Var, One, Two}

-- the signed reading of a word: w below 2 ^ 31, and w - 2 ^ 32 from there on (`negsuc n` is the integer - (n + 1))
abbrev pub signed : ℕ → ℤ
signed w = cond (nat_lt w (2 ^ 31)) (pos w) (negsuc (2 ^ 32 - suc w))

-- the floor of an integer divided by a number
abbrev pub floor_over : ℤ → ℕ → ℤ
floor_over (pos n) d = pos (n / d)
floor_over (negsuc n) d = negsuc (n / d)

-- an integer modulo 2 ^ 32
abbrev pub modulo : ℤ → ℕ
modulo (pos n) = n % 2 ^ 32
modulo (negsuc n) = 2 ^ 32 - suc (n % 2 ^ 32)

-- what an operator with one part gives
abbrev pub unary : Unary → ℕ → ℕ
unary Neg a = (2 ^ 32 - a) % 2 ^ 32
unary Not a = 2 ^ 32 - 1 - a

-- what an operator with two parts gives; a shift goes by b modulo 32
abbrev pub binary : Binary → ℕ → ℕ → ℕ
binary Add a b = (a + b) % 2 ^ 32
binary Sub a b = (a + (2 ^ 32 - b)) % 2 ^ 32
binary Mul a b = (a * b) % 2 ^ 32
binary And a b = bit_and a b
binary Or a b = bit_or a b
binary Xor a b = bit_xor a b
binary Shl a b = (a * 2 ^ (b % 32)) % 2 ^ 32
binary Shr a b = a / 2 ^ (b % 32)
binary Sar a b = modulo (floor_over (signed a) (2 ^ (b % 32)))
binary Lt a b = cond (int_lt (signed a) (signed b)) 1 0

-- an operator's number
abbrev pub operator_number : Operator → ℕ
operator_number Cnst = 1
operator_number Var = 2
operator_number (One Neg) = 3
operator_number (One Not) = 4
operator_number (Two Add) = 5
operator_number (Two Sub) = 6
operator_number (Two Mul) = 7
operator_number (Two And) = 8
operator_number (Two Or) = 9
operator_number (Two Xor) = 10
operator_number (Two Shl) = 11
operator_number (Two Shr) = 12
operator_number (Two Sar) = 13
operator_number (Two Lt) = 14

abbrev pub all_operators : List Operator
all_operators =
    Cnst ∷ Var ∷ One Neg ∷ One Not ∷ Two Add ∷ Two Sub ∷ Two Mul ∷ Two And ∷ Two Or ∷ Two Xor ∷ Two Shl ∷ Two Shr ∷ Two Sar ∷ Two Lt ∷ []

abbrev pub numbered_among : List Operator → ℕ → Option Operator
numbered_among [] n = None
numbered_among (o ∷ os) n = cond (n == operator_number o) (Some o) (numbered_among os n)

-- the operator of a number, if there is one
abbrev pub operator_of : ℕ → Option Operator
operator_of n = numbered_among all_operators n

-- how many parts an operator has
abbrev pub operator_arity : Operator → ℕ
operator_arity Cnst = 0
operator_arity Var = 0
operator_arity (One o) = 1
operator_arity (Two o) = 2

-- an operator's name
abbrev pub operator_name : Operator → List ℕ
operator_name Cnst = codes "CNST"
operator_name Var = codes "VAR"
operator_name (One Neg) = codes "NEG"
operator_name (One Not) = codes "NOT"
operator_name (Two Add) = codes "ADD"
operator_name (Two Sub) = codes "SUB"
operator_name (Two Mul) = codes "MUL"
operator_name (Two And) = codes "AND"
operator_name (Two Or) = codes "OR"
operator_name (Two Xor) = codes "XOR"
operator_name (Two Shl) = codes "SHL"
operator_name (Two Shr) = codes "SHR"
operator_name (Two Sar) = codes "SAR"
operator_name (Two Lt) = codes "LT"

-- the signed reading by integers: the word itself below 2 ^ 31, and 2 ^ 32 less from there on
abbrev pub SignedReading : Type 0
SignedReading =
    (w : ℕ) → w < 2 ^ 32 → (w < 2 ^ 31 → signed w ≡ pos w) × (2 ^ 31 ≤ w → signed w +ℤ pos (2 ^ 32) ≡ pos w)

-- numbers and operators belong together one to one
abbrev pub NumberedOnce : Type 0
NumberedOnce = (n : ℕ) (o : Operator) → (operator_of n ≡ Some o → operator_number o ≡ n) × (operator_number o ≡ n → operator_of n ≡ Some o)
