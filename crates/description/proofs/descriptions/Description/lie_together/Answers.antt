use Rattle.std.proofs.Common.{◌∙◌}
use Rattle.description.specs.Descriptions.{names_of}
use Rattle.description.proofs.Lying.{together}
use Rattle.description.proofs.descriptions.Description.lie_together.Goals as goal

pub returns : goal.returns
returns c = c.eq.ensures ∙ together (names_of c.args.self.now) c.args.first c.args.second _ _ c.place_of.ensures c.place_of-2.ensures
