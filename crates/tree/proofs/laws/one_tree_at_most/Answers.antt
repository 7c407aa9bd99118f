use Rattle.tree.proofs.Forests.{one_tree_at_most_lem}
use Rattle.tree.proofs.laws.one_tree_at_most.Goals as goal

pub returns : goal.returns
returns c = one_tree_at_most_lem
