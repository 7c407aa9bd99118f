use Rattle.matching.proofs.LeftParts.{parts_are_roots_lem}
use Rattle.matching.proofs.laws.parts_are_roots.Goals as goal

pub returns : goal.returns
returns c = parts_are_roots_lem
