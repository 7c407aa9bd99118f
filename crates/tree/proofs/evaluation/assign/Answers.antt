use Rattle.std.proofs.Common.{arith}
use Rattle.tree.specs.Checked.{nodes_of}
use Rattle.tree.proofs.Grants.{tree_of}
use Rattle.tree.proofs.evaluation.assign.Goals as goal

pub bounds-setting-statement : goal.bounds-setting-statement
bounds-setting-statement c =
    let s = c.args.statement.now in
    omega (arith, (tree_of s.target (nodes_of s) s.granted).1.target_within)
