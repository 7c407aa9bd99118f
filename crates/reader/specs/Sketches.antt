-- The open brackets of a rule while it is read.
use Rattle.std.specs.Prelude.{ℕ, ◌+◌, List, [], ◌∷◌, map, reverse}
use Rattle.reader.specs.declared.sketches.Opened.{Opened}
use Rattle.reader.specs.Reading.{Bracket}

-- what stands in the unused places of a row of brackets
abbrev pub blank_bracket : Opened
blank_bracket = record { head = record { arity = 0; place = 0 }; done = 0 }

abbrev pub bracket_of : Opened → Bracket
bracket_of b = record { wants = b.head.arity; stands = b.head.place; filled = b.done }

-- the brackets with the innermost first, of a row that has it last
abbrev pub brackets_of : List Opened → List Bracket
brackets_of bs = map bracket_of (reverse bs)

-- how many items the brackets take at least: each its operator and the parts that are read
abbrev pub items_taken : List Bracket → ℕ
items_taken [] = 0
items_taken (b ∷ bs) = 1 + b.filled + items_taken bs
