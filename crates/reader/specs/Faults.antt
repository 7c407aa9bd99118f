-- The number and the place of each refusal of a text.
use Rattle.std.specs.Prelude.{ℕ}
use Rattle.lexer.specs.Tokens.{lexical_place}
use Rattle.reader.specs.declared.faults.ReadFault.{ReadFault}
use Rattle.reader.specs.declared.faults.ReadFault.TheVariants.{NoMark, Version, Lexical, Unexpected, Unknown, WrongParts, OverLimit, TooMany, Repeated, NotRename}

abbrev pub fault_number : ReadFault → ℕ
fault_number NoMark = 1
fault_number (Version p) = 2
fault_number (Lexical f) = 3
fault_number (Unexpected p) = 3
fault_number (Unknown p) = 4
fault_number (WrongParts p) = 5
fault_number (OverLimit p) = 6
fault_number (TooMany p) = 7
fault_number (Repeated p) = 8
fault_number (NotRename p) = 8

-- the offset of the byte at which it is told
abbrev pub fault_place : ReadFault → ℕ
fault_place NoMark = 0
fault_place (Version p) = p
fault_place (Lexical f) = lexical_place f
fault_place (Unexpected p) = p
fault_place (Unknown p) = p
fault_place (WrongParts p) = p
fault_place (OverLimit p) = p
fault_place (TooMany p) = p
fault_place (Repeated p) = p
fault_place (NotRename p) = p
