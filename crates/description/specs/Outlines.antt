-- A description as plain data: what two descriptions have in common exactly if they are the same.
use Rattle.std.specs.Prelude.{ℕ, List, map, Some, None, Option}
use Rattle.operators.specs.declared.Unary.{Unary as OneSided}
use Rattle.operators.specs.declared.Binary.{Binary as TwoSided}
use Rattle.pattern.specs.declared.items.Item.{Item}
use Rattle.pattern.specs.declared.items.Item.TheVariants.{Operand, Unary, Binary, Constant, Variable}
use Rattle.pattern.specs.declared.names.ShortName.{ShortName}
use Rattle.pattern.specs.Letters.{letters_of}
use Rattle.pattern.specs.Patterns.{items_of}
use Rattle.description.specs.declared.rules.Nonterminal.{Nonterminal}
use Rattle.description.specs.declared.rules.Rule.{Rule}
use Rattle.description.specs.declared.descriptions.Description.{Description}
use Rattle.description.specs.Descriptions.{names_of, rules_of, start_of}

-- an item of a pattern: an operand by its name's number, an operator, a constant from low to high, or a variable
pub data Part : Type 0 where
  operand : ℕ → Part
  one_sided : OneSided → Part
  two_sided : TwoSided → Part
  constant : ℕ → ℕ → Part
  variable : Part

-- a declared name: its text, and the letter of its PLACE
pub record Declaration : Type 0 where
  pub spelled : List ℕ
  pub lies_in : ℕ

-- a rule: the left name's number, the pattern's items in reading order, the mnemonic or none for a rename, and the numbers
pub record Production : Type 0 where
  pub derives : ℕ
  pub parts : List Part
  pub emits : Option (List ℕ)
  pub in_bytes : ℕ
  pub in_cycles : ℕ

pub record Outline : Type 0 where
  pub declarations : List Declaration
  pub begins : Option ℕ
  pub productions : List Production

abbrev pub part_of : Item → Part
part_of (Operand a) = operand a
part_of (Unary o) = one_sided o
part_of (Binary o) = two_sided o
part_of (Constant i) = constant i.low i.high
part_of Variable = variable

abbrev pub declaration_of : Nonterminal → Declaration
declaration_of n = record { spelled = letters_of n.name; lies_in = n.place.letter }

abbrev pub emitted : Option ShortName → Option (List ℕ)
emitted None = None
emitted (Some m) = Some (letters_of m)

abbrev pub production_of : Rule → Production
production_of r = record {
  derives = r.left;
  parts = map part_of (items_of r.pattern);
  emits = emitted r.mnemonic;
  in_bytes = r.figures.size;
  in_cycles = r.figures.cycles;
}

abbrev pub outline_of : Description → Outline
outline_of d = record {
  declarations = map declaration_of (names_of d);
  begins = start_of d;
  productions = map production_of (rules_of d);
}
