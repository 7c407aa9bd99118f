-- The subtrees of a tree whose nodes stand in postfix order. Nodes are numbered from 0 in that order.
use Rattle.std.specs.Prelude.{◌≡◌, ℕ, ◌+◌, ◌-◌, ◌<◌, List, ◌++◌, length, take}
use Rattle.tree.specs.declared.nodes.Node.{Node}
use Rattle.tree.specs.Trees.{Tree, node_count, postfix}
use Rattle.tree.specs.Statements.{StatementGranted}

-- the number of the root of a tree whose first node has the number n
abbrev pub root_of : ℕ → Tree → ℕ
root_of n t = n + node_count t - 1

-- node i of the list is the root of the subtree t, whose first node has the number n
pub record SubtreeAt (xs : List Node) (i : ℕ) (t : Tree) (n : ℕ) : Type 0 where
  pub inside : i < length xs
  pub before : List Node
  pub split : take (i + 1) xs ≡ before ++ postfix t
  pub counted : length before ≡ n

-- each node of a granted statement is the root of exactly one subtree
abbrev pub OneSubtreeEach : Type 0
OneSubtreeEach =
    (v : ℕ) (xs : List Node) → StatementGranted v xs → (i : ℕ) → i < length xs
    → (t : Tree) × (n : ℕ) × SubtreeAt xs i t n × ((u : Tree) (m : ℕ) → SubtreeAt xs i u m → (u ≡ t) × (m ≡ n))
