-- What every description keeps to, so that nothing later tests for it.
use Rattle.std.specs.Prelude.{◌≡◌, ℕ, ◌<◌, ◌≤◌, ◌⊎◌, List, [], ◌∷◌, length, Some, None, ◌≢◌}
use Rattle.std.specs.List.{AllByRecursion}
use Rattle.pattern.specs.declared.items.Item.{Item}
use Rattle.pattern.specs.declared.items.Item.TheVariants.{Operand, Unary, Binary, Constant, Variable}
use Rattle.pattern.specs.Patterns.{items_of}
use Rattle.description.specs.declared.rules.Nonterminal.{Nonterminal}
use Rattle.description.specs.declared.rules.Rule.{Rule}
use Rattle.description.specs.declared.descriptions.Description.{Description}
use Rattle.description.specs.Names.{text_of, place_letter}
use Rattle.description.specs.Descriptions.{names_of, rules_of, start_of}

-- no name has that text
abbrev pub Absent : List ℕ → List Nonterminal → Type 0
Absent t = AllByRecursion (λ n. text_of n ≢ t)

-- no two names have one text
abbrev pub Distinct : List Nonterminal → Type 0
Distinct [] = Unit {0}
Distinct (n ∷ ns) = Absent (text_of n) ns × Distinct ns

-- an operand is one of the first n names
abbrev pub OperandDeclared : ℕ → Item → Type 0
OperandDeclared n (Operand a) = a < n
OperandDeclared n (Unary o) = Unit {0}
OperandDeclared n (Binary o) = Unit {0}
OperandDeclared n (Constant i) = Unit {0}
OperandDeclared n Variable = Unit {0}

pub record RuleKeeps (ns : List Nonterminal) (r : Rule) : Type 0 where
  pub left_declared : r.left < length ns
  pub operands_declared : AllByRecursion (OperandDeclared (length ns)) (items_of r.pattern)
  -- a rename is a chain rule between names of equal PLACE
  pub renames : r.mnemonic ≡ None → (b : ℕ) × (items_of r.pattern ≡ Operand b ∷ []) × (place_letter ns r.left ≡ place_letter ns b)

pub record Keeps (d : Description) : Type 0 where
  pub at_most_16 : length (names_of d) ≤ 16
  pub at_most_128 : length (rules_of d) ≤ 128
  pub distinct : Distinct (names_of d)
  pub rules_keep : AllByRecursion (RuleKeeps (names_of d)) (rules_of d)
  -- there is a start exactly if there are names, and it is one of them
  pub starts : ((names_of d ≡ []) × (start_of d ≡ None)) ⊎ ((i : ℕ) × (start_of d ≡ Some i) × (i < length (names_of d)))

abbrev pub AllKeep : Type 0
AllKeep = (d : Description) → Keeps d
