-- What a description stands for: its names and its rules. Two descriptions are the same if these and the start are.
use Rattle.std.specs.Prelude.{◌≡◌, ℕ, ◌<◌, ◌≤◌, true, false, cond, List, [], ◌∷◌, ◌++◌, length, is_some, Some, None, Option, ◌==◌, slice_index_or}
use Rattle.pattern.specs.Patterns.{items_of}
use Rattle.description.specs.declared.refusals.NameRefusal.{NameRefusal}
use Rattle.description.specs.declared.refusals.NameRefusal.TheVariants.{TooMany as TooManyNames, Declared}
use Rattle.description.specs.declared.refusals.RuleRefusal.{RuleRefusal}
use Rattle.description.specs.declared.refusals.RuleRefusal.TheVariants.{TooMany, LeftUndeclared, OperandUndeclared, NotRename}
use Rattle.description.specs.declared.rules.Nonterminal.{Nonterminal}
use Rattle.description.specs.declared.rules.Rule.{Rule}
use Rattle.description.specs.Fits.{operands_below, may_emit}
use Rattle.description.specs.Names.{text_of, number_of_text}
use Rattle.description.specs.declared.descriptions.Description.{Description}

-- the declared names, in order
abbrev pub names_of : Description → List Nonterminal
names_of d = d.names

-- the rules, in order: number 1 first
abbrev pub rules_of : Description → List Rule
rules_of d = d.rules

-- the number of the start name; none where there is no name
abbrev pub start_of : Description → Option ℕ
start_of d = cond (length (names_of d) == 0) None (Some d.start)

-- x stands at place i of the list, from 0
pub record ItemAt {X : Type 0} (xs : List X) (i : ℕ) (x : X) : Type 0 where
  pub within : i < length xs
  pub is : (d : X) → slice_index_or xs i d ≡ x

-- the name stands at the end; the rules and, where there was one, the start are as before, and the first name is the start
pub record NameAdded (d : Description) (n : Nonterminal) (after : Description) : Type 0 where
  pub names_gained : names_of after ≡ names_of d ++ n ∷ []
  pub rules_kept : rules_of after ≡ rules_of d
  pub start_kept : after.start ≡ d.start

-- why a name is not taken
abbrev pub NameDenied : List Nonterminal → Nonterminal → NameRefusal → Type 0
NameDenied ns n TooManyNames = length ns ≡ 16
NameDenied ns n Declared = (length ns < 16) × (is_some (number_of_text (text_of n) ns) ≡ true)

pub record StartSet (d : Description) (i : ℕ) (after : Description) : Type 0 where
  pub declared : i < length (names_of d)
  pub start_is : after.start ≡ i
  pub names_kept : names_of after ≡ names_of d
  pub rules_kept : rules_of after ≡ rules_of d

-- the rule stands at the end, and all else is as before
pub record RuleAdded (d : Description) (r : Rule) (after : Description) : Type 0 where
  pub rules_gained : rules_of after ≡ rules_of d ++ r ∷ []
  pub names_kept : names_of after ≡ names_of d
  pub start_kept : after.start ≡ d.start

-- why a rule is not taken, in this order
abbrev pub RuleDenied : List Nonterminal → List Rule → Rule → RuleRefusal → Type 0
RuleDenied ns rs r TooMany = length rs ≡ 128
RuleDenied ns rs r LeftUndeclared = (length rs < 128) × (length ns ≤ r.left)
RuleDenied ns rs r OperandUndeclared =
    (length rs < 128) × (r.left < length ns) × (operands_below (length ns) (items_of r.pattern) ≡ false)
RuleDenied ns rs r NotRename =
    (length rs < 128) × (r.left < length ns) × (operands_below (length ns) (items_of r.pattern) ≡ true)
    × (may_emit ns r r.mnemonic ≡ false)
