use Rattle.reader.proofs.Accepted.{one_at_most}
use Rattle.reader.proofs.laws.one_at_most.Goals as goal

pub returns : goal.returns
returns c = one_at_most
