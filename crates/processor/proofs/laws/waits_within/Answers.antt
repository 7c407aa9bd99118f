use Rattle.processor.proofs.Depths.{waits_within_lem}
use Rattle.processor.proofs.laws.waits_within.Goals as goal

pub returns : goal.returns
returns g c = waits_within_lem
