-- Which statements are refused, with which number and at which place. A statement is a variable's number and a list of nodes.
use Rattle.std.specs.Prelude.{◌≡◌, ℕ, ◌+◌, ◌-◌, ◌<◌, ◌≤◌, List, [], ◌∷◌, length, take, Some, None, Option, ◌≢◌, slice_index_or}
use Rattle.operators.specs.declared.Operator.{Operator}
use Rattle.operators.specs.declared.Operator.TheVariants.{Var}
use Rattle.tree.specs.declared.nodes.Node.{Node}
use Rattle.operators.specs.Operators.{operator_number, operator_arity, operator_of}
use Rattle.tree.specs.Trees.{Tree, node_count, postfix, VariablesWithin}
use Rattle.tree.specs.Refusals.{RefusedBy, GrantedBy, FirstBelow, NoneBelow}

-- how many parts the node takes: an unknown operator takes none
abbrev pub parts_of : Option Operator → ℕ
parts_of None = 0
parts_of (Some o) = operator_arity o

abbrev pub parts_taken : Node → ℕ
parts_taken x = parts_of (operator_of x.operator)

-- how many trees stand side by side after the nodes, where n stood before them
abbrev pub standing : ℕ → List Node → ℕ
standing n [] = n
standing n (x ∷ xs) = standing (n - parts_taken x + 1) xs

-- a node with n trees before it is at fault: its operator is unknown, a part is missing, or it has parts and its payload is not 0
pub data Faulty (n : ℕ) (x : Node) : Type 0 where
  unknown : operator_of x.operator ≡ None → Faulty n x
  lacks_part : n < parts_taken x → Faulty n x
  has_payload : 0 < parts_taken x → (x.payload ≢ 0) → Faulty n x

-- what is read past a list of nodes
abbrev pub node_past : Node
node_past = record { operator = 0; payload = 0 }

-- node i of the list, counted from 0
abbrev pub node_at : List Node → ℕ → Node
node_at xs i = slice_index_or xs i node_past

abbrev pub FaultyAt : List Node → ℕ → Type 0
FaultyAt xs i = Faulty (standing 0 (take i xs)) (node_at xs i)

abbrev pub VariableOver : List Node → ℕ → Type 0
VariableOver xs i = ((node_at xs i).operator ≡ operator_number Var) × (63 < (node_at xs i).payload)

-- number k applies at place p of the statement that gives variable v the tree of the nodes xs
pub data StatementFails (v : ℕ) (xs : List Node) (k p : ℕ) : Type 0 where
  too_many : k ≡ 12 → p ≡ 256 → 256 < length xs → StatementFails v xs k p
  faulty : k ≡ 11 → FirstBelow (length xs) (FaultyAt xs) p → StatementFails v xs k p
  no_tree : k ≡ 11 → p ≡ length xs → NoneBelow (length xs) (FaultyAt xs) → (standing 0 xs ≢ 1) → StatementFails v xs k p
  variable_over : k ≡ 13 → FirstBelow (length xs) (VariableOver xs) p → StatementFails v xs k p
  target_over : k ≡ 13 → p ≡ length xs → NoneBelow (length xs) (VariableOver xs) → 63 < v → StatementFails v xs k p

-- the order of checks
abbrev pub statement_order : List ℕ
statement_order = 12 ∷ 11 ∷ 13 ∷ []

abbrev pub StatementDenied : ℕ → List Node → ℕ → ℕ → Type 0
StatementDenied v xs = RefusedBy statement_order (StatementFails v xs)

abbrev pub StatementGranted : ℕ → List Node → Type 0
StatementGranted v xs = GrantedBy (StatementFails v xs)

-- a statement's nodes are the postfix of this tree, and the statement keeps every limit
pub record Stands (v : ℕ) (xs : List Node) (t : Tree) : Type 0 where
  pub nodes_are : postfix t ≡ xs
  pub short : node_count t ≤ 256
  pub variables_within : VariablesWithin t
  pub target_within : v ≤ 63

-- a list of nodes is the postfix of at most one tree
abbrev pub OneTreeAtMost : Type 0
OneTreeAtMost = (t u : Tree) → postfix t ≡ postfix u → t ≡ u

-- a statement is granted exactly if its nodes are a tree within the limits
abbrev pub GrantedIsTree : Type 0
GrantedIsTree =
    (v : ℕ) (xs : List Node) → (StatementGranted v xs → (t : Tree) × Stands v xs t) × ((t : Tree) → Stands v xs t → StatementGranted v xs)
