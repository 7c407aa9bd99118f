use Rattle.pattern.proofs.Shapes.{whole_is_shape_lem}
use Rattle.pattern.proofs.laws.whole_is_shape.Goals as goal

pub returns : goal.returns
returns c = whole_is_shape_lem
