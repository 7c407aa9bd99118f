-- What a checked statement stands for.
use Rattle.std.specs.Prelude.{List}
use Rattle.tree.specs.declared.nodes.Node.{Node}
use Rattle.tree.specs.declared.checked.CheckedStatement.{CheckedStatement}

-- its nodes
abbrev pub nodes_of : CheckedStatement → List Node
nodes_of c = c.nodes
