use Rattle.std.proofs.Common.{◌≡◌, [], map, take}
use Rattle.tree.specs.Stacks.{held, capacity}
use Rattle.tree.specs.Trees.{value_of}
use Rattle.tree.proofs.Forests.{forest}
use Rattle.tree.proofs.evaluation.value.Given as goal

abbrev pub invariant-loop-node : goal.invariant-loop-node
invariant-loop-node l = (held l.stack ≡ map (value_of l.setting) (forest [] (take l.node-index l.nodes))) × (capacity l.stack ≡ 256)
