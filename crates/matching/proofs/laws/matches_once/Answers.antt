use Rattle.matching.proofs.Matched.{matches_once_lem}
use Rattle.matching.proofs.laws.matches_once.Goals as goal

pub returns : goal.returns
returns c = matches_once_lem
