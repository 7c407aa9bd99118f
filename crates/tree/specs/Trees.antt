-- Expression trees, their postfix order, their values, and what statements do to the variables.
use Rattle.std.specs.Prelude.{ℕ, ◌+◌, ◌≤◌, List, [], ◌∷◌, ◌++◌, slice_index, slice_set}
use Rattle.operators.specs.declared.Unary.{Unary}
use Rattle.operators.specs.declared.Binary.{Binary}
use Rattle.operators.specs.declared.Operator.{Operator}
use Rattle.operators.specs.declared.Operator.TheVariants.{Cnst, Var, One, Two}
use Rattle.tree.specs.declared.nodes.Node.{Node}
use Rattle.operators.specs.Operators.{unary, binary, operator_number}

-- a constant, a variable by its number, or an operator over one or two parts
pub data Tree : Type 0 where
  cnst : ℕ → Tree
  var : ℕ → Tree
  one : Unary → Tree → Tree
  two : Binary → Tree → Tree → Tree

abbrev pub node_count : Tree → ℕ
node_count (cnst w) = 1
node_count (var v) = 1
node_count (one o t) = node_count t + 1
node_count (two o t u) = node_count t + node_count u + 1

-- the node of an operator with a payload
abbrev pub node_of : Operator → ℕ → Node
node_of o w = record { operator = operator_number o; payload = w }

-- the nodes of a tree: those of its parts from the left, then its own
abbrev pub postfix : Tree → List Node
postfix (cnst w) = node_of Cnst w ∷ []
postfix (var v) = node_of Var v ∷ []
postfix (one o t) = postfix t ++ node_of (One o) 0 ∷ []
postfix (two o t u) = postfix t ++ (postfix u ++ node_of (Two o) 0 ∷ [])

-- every variable of the tree has a number up to 63
abbrev pub VariablesWithin : Tree → Type 0
VariablesWithin (cnst w) = Unit {0}
VariablesWithin (var v) = v ≤ 63
VariablesWithin (one o t) = VariablesWithin t
VariablesWithin (two o t u) = VariablesWithin t × VariablesWithin u

-- a setting is the list of the variables' words; the value of a tree in it
abbrev pub value_of : List ℕ → Tree → ℕ
value_of σ (cnst w) = w
value_of σ (var v) = slice_index σ v
value_of σ (one o t) = unary o (value_of σ t)
value_of σ (two o t u) = binary o (value_of σ t) (value_of σ u)

-- a statement as mathematics has it: a variable and the tree whose value it is given
pub record Assignment : Type 0 where
  pub assigned : ℕ
  pub expression : Tree

abbrev pub changed_by : Assignment → List ℕ → List ℕ
changed_by a σ = slice_set σ a.assigned (value_of σ a.expression)

-- assignments in order, each in the setting that those before it leave
abbrev pub evaluated : List Assignment → List ℕ → List ℕ
evaluated [] σ = σ
evaluated (a ∷ rest) σ = evaluated rest (changed_by a σ)
