use Rattle.operators.proofs.Numbers.{numbered_once_lem}
use Rattle.operators.proofs.laws.numbered_once.Goals as goal

pub returns : goal.returns
returns c = numbered_once_lem
