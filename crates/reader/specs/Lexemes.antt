-- How the bytes of a token are spelled.
use Rattle.std.specs.Prelude.{ℕ, Bool, true, ◌&&◌, List, [], ◌∷◌, length, ◌==◌}
use Rattle.lexer.specs.declared.Token.{Token}
use Rattle.lexer.specs.declared.Token.TheVariants.{LineEnd, Number, HugeNumber, Name, Capitals, Percent, Dots, Colon, Open, Close, Comma, Equals, Minus, End}
use Rattle.lexer.specs.Bytes.{is_capital}
use Rattle.pattern.specs.Names.{short_name}

abbrev pub all_capital : List ℕ → Bool
all_capital [] = true
all_capital (b ∷ bs) = is_capital b && all_capital bs

-- whether the bytes can be a token of this kind, as far as it matters here: a line end is one byte,
-- a name is a short name, capitals are capitals
abbrev pub well_spelled : Token → List ℕ → Bool
well_spelled LineEnd t = length t == 1
well_spelled (Number v) t = true
well_spelled HugeNumber t = true
well_spelled Name t = short_name t
well_spelled Capitals t = all_capital t
well_spelled Percent t = true
well_spelled Dots t = true
well_spelled Colon t = true
well_spelled Open t = true
well_spelled Close t = true
well_spelled Comma t = true
well_spelled Equals t = true
well_spelled Minus t = true
well_spelled End t = true
