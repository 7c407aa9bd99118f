-- The left part of each node of a list in postfix order. The right part of a node, or its only one, is the node before it.
use Rattle.std.specs.Prelude.{◌≡◌, ℕ, suc, ◌+◌, ◌-◌, cond, List, [], ◌∷◌, drop, ◌==◌, slice_index}
use Rattle.operators.specs.declared.Binary.{Binary}
use Rattle.operators.specs.declared.Unary.{Unary}
use Rattle.tree.specs.declared.nodes.Node.{Node}
use Rattle.tree.specs.Trees.{Tree, one, two, node_count}
use Rattle.tree.specs.Statements.{parts_taken}
use Rattle.matching.specs.Subtrees.{root_of, SubtreeAt}

-- the left part of a node, where the trees with the roots rs stand before it, the newest first: 0 if it has not two parts
abbrev pub left_part : List ℕ → Node → ℕ
left_part rs x = cond (parts_taken x == 2) (slice_index rs 1) 0

-- the roots after the node of number n: its own in the place of those of its parts
abbrev pub roots_after : ℕ → List ℕ → Node → List ℕ
roots_after n rs x = n ∷ drop (parts_taken x) rs

-- the left parts of the nodes from number n on, where the trees with the roots rs stand before them
abbrev pub left_parts_from : ℕ → List ℕ → List Node → List ℕ
left_parts_from n rs [] = []
left_parts_from n rs (x ∷ xs) = left_part rs x ∷ left_parts_from (suc n) (roots_after n rs x) xs

abbrev pub left_parts : List Node → List ℕ
left_parts xs = left_parts_from 0 [] xs

-- what left_parts means: at the root i of a subtree with two parts it is the root of the left one, and the node before i is the
-- root of the right one; at the root of a subtree with one part, the node before is the root of that
abbrev pub PartsAreRoots : Type 0
PartsAreRoots =
    (xs : List Node) (i n : ℕ)
    → ((o : Binary) (t u : Tree) → SubtreeAt xs i (two o t u) n → (slice_index (left_parts xs) i ≡ root_of n t) × (i - 1 ≡ root_of (n + node_count t) u))
    × ((o : Unary) (t : Tree) → SubtreeAt xs i (one o t) n → i - 1 ≡ root_of n t)
