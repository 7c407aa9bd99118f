use Rattle.matching.proofs.Matched.{match_value_lem}
use Rattle.matching.proofs.laws.match_value.Goals as goal

pub returns : goal.returns
returns c = match_value_lem
