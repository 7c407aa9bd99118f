-- What the reader asks of a token: its kind, its value as a number, its text.
use Rattle.std.specs.Prelude.{ℕ, suc, ◌^◌, Bool, cond, ◌||◌, List, [], ◌∷◌, Some, None, Option, ◌==◌}
use Rattle.operators.specs.declared.Operator.{Operator}
use Rattle.operators.specs.Operators.{operator_name, all_operators}
use Rattle.lexer.specs.declared.Token.{Token}
use Rattle.lexer.specs.declared.Token.TheVariants.{LineEnd, Number, HugeNumber, Name, Capitals, Percent, Dots, Colon, Open, Close, Comma, Equals, Minus, End}
use Rattle.description.specs.Names.{same_text}
use Rattle.description.specs.Outlines.{Declaration}

abbrev pub kind_number : Token → ℕ
kind_number LineEnd = 0
kind_number (Number v) = 1
kind_number HugeNumber = 2
kind_number Name = 3
kind_number Capitals = 4
kind_number Percent = 5
kind_number Dots = 6
kind_number Colon = 7
kind_number Open = 8
kind_number Close = 9
kind_number Comma = 10
kind_number Equals = 11
kind_number Minus = 12
kind_number End = 13

-- whether a token is of that kind
abbrev pub is : Token → Token → Bool
is k t = kind_number t == kind_number k

abbrev pub is_number : Token → Bool
is_number t = is (Number 0) t || is HugeNumber t

-- a number's value; one too large for a word counts as 2 ^ 32, which is over every limit
abbrev pub value_in : Token → ℕ
value_in LineEnd = 0
value_in (Number v) = v
value_in HugeNumber = 2 ^ 32
value_in Name = 0
value_in Capitals = 0
value_in Percent = 0
value_in Dots = 0
value_in Colon = 0
value_in Open = 0
value_in Close = 0
value_in Comma = 0
value_in Equals = 0
value_in Minus = 0
value_in End = 0

-- the number of the first declaration with that text, where the list's first has the number k
abbrev pub declared_from : ℕ → List ℕ → List Declaration → Option ℕ
declared_from k t [] = None
declared_from k t (d ∷ ds) = cond (same_text d.spelled t) (Some k) (declared_from (suc k) t ds)

-- the operator of a name, if there is one
abbrev pub called_among : List Operator → List ℕ → Option Operator
called_among [] t = None
called_among (o ∷ os) t = cond (same_text (operator_name o) t) (Some o) (called_among os t)

abbrev pub operator_called : List ℕ → Option Operator
operator_called t = called_among all_operators t
