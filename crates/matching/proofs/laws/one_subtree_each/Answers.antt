use Rattle.matching.proofs.Subtrees.{one_subtree_each_lem}
use Rattle.matching.proofs.laws.one_subtree_each.Goals as goal

pub returns : goal.returns
returns c = one_subtree_each_lem
