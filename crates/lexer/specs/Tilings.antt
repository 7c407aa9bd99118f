-- The tokens of a whole text, and how they cover it.
use Rattle.std.specs.Prelude.{◌≡◌, ℕ, zero, suc, ◌+◌, Bool, true, false, cond, List, [], ◌∷◌, length, Ok, Err, MatchBool}
use Rattle.lexer.specs.declared.Token.{Token}
use Rattle.lexer.specs.declared.Token.TheVariants.{LineEnd, Number, HugeNumber, Name, Capitals, Percent, Dots, Colon, Open, Close, Comma, Equals, Minus, End}
use Rattle.lexer.specs.declared.LexicalFault.{LexicalFault}
use Rattle.lexer.specs.Tokens.{Answer, token_at}
use Rattle.lexer.specs.Meanings.{NextIs, NextFails}

abbrev pub is_end : Token → Bool
is_end LineEnd = false
is_end (Number v) = false
is_end HugeNumber = false
is_end Name = false
is_end Capitals = false
is_end Percent = false
is_end Dots = false
is_end Colon = false
is_end Open = false
is_end Close = false
is_end Comma = false
is_end Equals = false
is_end Minus = false
is_end End = true

-- a token's kind, its place and its length
abbrev pub Placed : Type 0
Placed = Token × (ℕ × ℕ)

-- a token and, unless it is the text's end, those read from just past it on; none at a fault
abbrev pub read_then : Answer → (ℕ → List Placed) → List Placed
read_then (Ok x) rest = x ∷ cond (is_end x.0) [] (rest (x.1.0 + x.1.1))
read_then (Err f) rest = []

-- the tokens that reading one after the other from offset o gives, in at most so many turns
abbrev pub tokens_from : ℕ → List ℕ → ℕ → List Placed
tokens_from zero bs o = []
tokens_from (suc turns) bs o = read_then (token_at bs o) (λ next. tokens_from turns bs next)

-- the tokens of a text: all but its end take some byte, so there are turns enough
abbrev pub tokens_of : List ℕ → List Placed
tokens_of bs = tokens_from (suc (length bs)) bs 0

-- the tokens cover the text from offset o on: spaces alone stand before each, from where the one before it ends;
-- the last is the text's end, at its length, or else a fault follows the last
abbrev pub Tiles : List ℕ → ℕ → List Placed → Type 0
Tiles bs o [] = (f : LexicalFault) × NextFails bs o f
Tiles bs o (x ∷ xs) =
    NextIs bs o x.0 x.1.0 x.1.1 × MatchBool (is_end x.0) ((xs ≡ []) × (x.1.0 ≡ length bs)) (Tiles bs (x.1.0 + x.1.1) xs)

-- the tokens of every text cover it
abbrev pub TokensTile : Type 0
TokensTile = (bs : List ℕ) → Tiles bs 0 (tokens_of bs)
