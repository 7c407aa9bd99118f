use Rattle.std.proofs.Common.{rules}
use Rattle.pattern.proofs.Same.{same_name}
use Rattle.description.specs.Blanks.{blank_name}
use Rattle.description.proofs.Blanks.{same_place}
use Rattle.description.proofs.rules.NonterminalEntry.blank.Goals as goal

pub returns : goal.returns
returns c =
    let name = same_name c.in-Ok-Ok.name blank_name.name c.in-Ok-Ok.ensures in
    let place = same_place c.in-Ok-Ok.place blank_name.place (search rules) in
    λ i. record { name = name i; place = place i }
