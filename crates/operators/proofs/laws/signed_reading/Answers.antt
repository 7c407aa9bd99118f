use Rattle.operators.proofs.Signs.{signed_reading_lem}
use Rattle.operators.proofs.laws.signed_reading.Goals as goal

pub returns : goal.returns
returns c = signed_reading_lem
