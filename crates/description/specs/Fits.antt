-- Which rules a description with given names takes.
use Rattle.std.specs.Prelude.{ℕ, Bool, true, false, ◌&&◌, List, [], ◌∷◌, length, Some, None, Option, ◌==◌, nat_lt}
use Rattle.pattern.specs.declared.items.Item.{Item}
use Rattle.pattern.specs.declared.items.Item.TheVariants.{Operand, Unary, Binary, Constant, Variable}
use Rattle.pattern.specs.declared.names.ShortName.{ShortName}
use Rattle.pattern.specs.Patterns.{items_of}
use Rattle.description.specs.declared.rules.Nonterminal.{Nonterminal}
use Rattle.description.specs.declared.rules.Rule.{Rule}
use Rattle.description.specs.Rules.{only_operand}
use Rattle.description.specs.Names.{place_letter}

-- whether every operand is one of the first n names
abbrev pub operand_below : ℕ → Item → Bool
operand_below n (Operand a) = nat_lt a n
operand_below n (Unary o) = true
operand_below n (Binary o) = true
operand_below n (Constant i) = true
operand_below n Variable = true

abbrev pub operands_below : ℕ → List Item → Bool
operands_below n [] = true
operands_below n (x ∷ xs) = operand_below n x && operands_below n xs

-- whether the pattern is one name, of the PLACE of name a
abbrev pub chain_at_place : List Nonterminal → ℕ → Option ℕ → Bool
chain_at_place ns a None = false
chain_at_place ns a (Some b) = place_letter ns a == place_letter ns b

-- whether a rule may emit this: nothing, only if it is a chain rule between names of equal PLACE
abbrev pub may_emit : List Nonterminal → Rule → Option ShortName → Bool
may_emit ns r None = chain_at_place ns r.left (only_operand (items_of r.pattern))
may_emit ns r (Some m) = true

-- whether a rule has only declared names and is a rename only as it may be
abbrev pub rule_fits : List Nonterminal → Rule → Bool
rule_fits ns r = nat_lt r.left (length ns) && (operands_below (length ns) (items_of r.pattern) && may_emit ns r r.mnemonic)

abbrev pub all_fit : List Nonterminal → List Rule → Bool
all_fit ns [] = true
all_fit ns (r ∷ rs) = rule_fits ns r && all_fit ns rs
