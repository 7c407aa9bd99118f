-- What a checked tree stands for.
use Rattle.std.specs.Prelude.{List}
use Rattle.tree.specs.declared.nodes.Node.{Node}
use Rattle.tree.specs.Checked.{nodes_of}
use Rattle.matching.specs.declared.trees.CheckedTree.{CheckedTree}

-- its nodes
abbrev pub tree_nodes : CheckedTree → List Node
tree_nodes t = nodes_of t.statement
