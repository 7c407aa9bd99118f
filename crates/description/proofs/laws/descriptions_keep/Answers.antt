use Rattle.description.proofs.Keeping.{all_keep}
use Rattle.description.proofs.laws.descriptions_keep.Goals as goal

pub returns : goal.returns
returns c = all_keep
