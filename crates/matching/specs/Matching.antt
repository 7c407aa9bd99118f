-- What matching a pattern at a node of a checked tree answers.
use Rattle.std.specs.Prelude.{◌≡◌, ℕ, ◌≤◌, List, map, length, None, Option, MatchOption}
use Rattle.tree.specs.Trees.{Tree}
use Rattle.matching.specs.declared.matches.Match.{Match}
use Rattle.matching.specs.declared.matches.OperandAt.{OperandAt}
use Rattle.pattern.specs.declared.patterns.Pattern.{Pattern}
use Rattle.matching.specs.declared.trees.CheckedTree.{CheckedTree}
use Rattle.matching.specs.Checked.{tree_nodes}
use Rattle.matching.specs.Found.{operands_found, payloads_found}
use Rattle.matching.specs.Matches.{Subgoal, Matches}
use Rattle.pattern.specs.Patterns.{items_of}
use Rattle.pattern.specs.Shapes.{Shape, reading}
use Rattle.matching.specs.Subtrees.{root_of, SubtreeAt}

-- an operand with the number of the node it falls on, the root of its subtree
abbrev pub fallen : Subgoal → OperandAt
fallen g = record { operand = g.asked; node = root_of g.start g.subtree }

-- the answer is a match of the shape p at the tree u, whose first node has the number n
pub record Reports (p : Shape) (u : Tree) (n : ℕ) (m : Match) : Type 0 where
  pub goals : List Subgoal
  pub words : List ℕ
  pub holds : Matches p u n goals words
  pub operands_are : operands_found m ≡ map fallen goals
  pub payloads_are : payloads_found m ≡ words

-- no match of the shape there
abbrev pub NoMatch : Shape → Tree → ℕ → Type 0
NoMatch p u n = (gs : List Subgoal) (ws : List ℕ) → Matches p u n gs ws → ⊥

-- the answer for the pattern c at node i: none past the end; else, for the pattern's shape and the subtree with root i, the match
-- if there is one
pub record MatchedAt (c : Pattern) (t : CheckedTree) (i : ℕ) (r : Option Match) : Type 0 where
  pub past_end : length (tree_nodes t) ≤ i → r ≡ None
  pub at_node : (p : Shape) (u : Tree) (n : ℕ) → reading p ≡ items_of c → SubtreeAt (tree_nodes t) i u n → MatchOption r (NoMatch p u n) (λ m. Reports p u n m)
