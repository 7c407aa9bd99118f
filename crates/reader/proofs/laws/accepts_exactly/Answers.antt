use Rattle.reader.proofs.Accepted.{accepts_exactly_lem}
use Rattle.reader.proofs.laws.accepts_exactly.Goals as goal

pub returns : goal.returns
returns c = accepts_exactly_lem
