-- Where a shape matches a tree. Nodes are numbered in postfix order; a subtree is named by the number of its first node.
use Rattle.std.specs.Prelude.{◌≡◌, ℕ, ◌+◌, List, [], ◌∷◌, ◌++◌, map}
use Rattle.operators.specs.declared.Unary.{Unary}
use Rattle.operators.specs.declared.Binary.{Binary}
use Rattle.tree.specs.Trees.{Tree, cnst, var, one, two, node_count, value_of}
use Rattle.pattern.specs.declared.intervals.Interval.{Interval}
use Rattle.pattern.specs.Ranges.{Admits}
use Rattle.pattern.specs.Shapes.{Shape, operand_shape, constant_shape, variable_shape, unary_shape, binary_shape, shape_value}

-- where an operand falls: the operand's number, the subtree, and the number of the subtree's first node
pub record Subgoal : Type 0 where
  pub asked : ℕ
  pub subtree : Tree
  pub start : ℕ

-- a shape at a tree whose first node has the number n: where its operands fall and the payloads of its leaves, from the left
pub data Matches : Shape → Tree → ℕ → List Subgoal → List ℕ → Type 0 where
  at_operand : {a : ℕ} {t : Tree} {n : ℕ} → Matches (operand_shape a) t n (record { asked = a; subtree = t; start = n } ∷ []) []
  at_constant : {i : Interval} {w n : ℕ} → Admits i w → Matches (constant_shape i) (cnst w) n [] (w ∷ [])
  at_variable : {v n : ℕ} → Matches variable_shape (var v) n [] (v ∷ [])
  at_unary : {o o' : Unary} {p : Shape} {t : Tree} {n : ℕ} {gs : List Subgoal} {ws : List ℕ} → o ≡ o' → Matches p t n gs ws → Matches (unary_shape o p) (one o' t) n gs ws
  at_binary : {o o' : Binary} {p q : Shape} {t u : Tree} {n : ℕ} {gs gs' : List Subgoal} {ws ws' : List ℕ} → o ≡ o' → Matches p t n gs ws → Matches q u (n + node_count t) gs' ws' → Matches (binary_shape o p q) (two o' t u) n (gs ++ gs') (ws ++ ws')

-- two matches of one shape at one tree are the same
abbrev pub MatchesOnce : Type 0
MatchesOnce =
    (p : Shape) (t : Tree) (n : ℕ) (gs gs' : List Subgoal) (ws ws' : List ℕ) → Matches p t n gs ws → Matches p t n gs' ws' → (gs ≡ gs') × (ws ≡ ws')

-- where a shape matches a tree, its value over the values of the subtrees is the value of the tree
abbrev pub MatchValue : Type 0
MatchValue =
    (p : Shape) (t : Tree) (n : ℕ) (gs : List Subgoal) (ws σ : List ℕ) → Matches p t n gs ws → shape_value p (map (λ g. value_of σ g.subtree) gs) ws σ ≡ value_of σ t
