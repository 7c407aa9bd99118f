use Rattle.pattern.proofs.Shapes.{one_shape_at_most_lem}
use Rattle.pattern.proofs.laws.one_shape_at_most.Goals as goal

pub returns : goal.returns
returns c = one_shape_at_most_lem
