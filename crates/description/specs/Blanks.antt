-- What stands in the unused places of a description's rows.
use Rattle.std.specs.Prelude.{[], ◌∷◌, None, refl}
use Rattle.std.proofs.lemmas.Bool.{leb-true}
use Rattle.pattern.specs.declared.items.Item.TheVariants.{Variable}
use Rattle.description.specs.declared.rules.Nonterminal.{Nonterminal}
use Rattle.description.specs.declared.rules.Rule.{Rule}

-- `a`, with values that lie in A
abbrev pub blank_name : Nonterminal
blank_name = record {
  name = record { letters = 97 ∷ []; formed = refl };
  place = record { letter = 65; from = leb-true 65 65 refl; to = leb-true 65 90 refl };
}

-- a variable is the first name, at no cost, and nothing is emitted
abbrev pub blank_rule : Rule
blank_rule = record {
  left = 0;
  pattern = record { items = Variable ∷ []; operands = 0; leaves = 1; formed = refl; counted = refl; tallied = refl };
  mnemonic = None;
  figures = record { size = 0; cycles = 0; light = leb-true 0 99 refl; quick = leb-true 0 999 refl };
}
