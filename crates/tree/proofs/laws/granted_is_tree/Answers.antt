use Rattle.tree.proofs.Grants.{granted_is_tree_lem}
use Rattle.tree.proofs.laws.granted_is_tree.Goals as goal

pub returns : goal.returns
returns c = granted_is_tree_lem
