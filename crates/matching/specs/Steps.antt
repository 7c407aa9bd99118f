-- Matching item by item: the items are taken in reading order, each at the next node that waits for one.
use Rattle.std.specs.Prelude.{ℕ, ◌-◌, Bool, true, cond, ◌&&◌, List, [], ◌∷◌, ◌++◌, drop, Some, None, Option, ◌==◌, slice_index}
use Rattle.operators.specs.declared.Operator.TheVariants.{Cnst, Var, One, Two}
use Rattle.operators.specs.Operators.{operator_number}
use Rattle.tree.specs.declared.nodes.Node.{Node}
use Rattle.tree.specs.Statements.{node_at}
use Rattle.pattern.specs.declared.items.Item.{Item}
use Rattle.pattern.specs.declared.items.Item.TheVariants.{Operand, Unary, Binary, Constant, Variable}
use Rattle.matching.specs.declared.matches.OperandAt.{OperandAt}
use Rattle.matching.specs.declared.trees.CheckedTree.{CheckedTree}
use Rattle.matching.specs.Checked.{tree_nodes}
use Rattle.pattern.specs.Ranges.{admitted}

-- whether the item can stand at this node
abbrev pub fits_node : Item → Node → Bool
fits_node (Operand a) x = true
fits_node (Unary o) x = x.operator == operator_number (One o)
fits_node (Binary o) x = x.operator == operator_number (Two o)
fits_node (Constant i) x = x.operator == operator_number Cnst && admitted i x.payload
fits_node Variable x = x.operator == operator_number Var

-- the nodes of its parts from the left, where it stands at node k with the left part l
abbrev pub part_nodes : Item → ℕ → ℕ → List ℕ
part_nodes (Operand a) k l = []
part_nodes (Unary o) k l = (k - 1) ∷ []
part_nodes (Binary o) k l = l ∷ (k - 1) ∷ []
part_nodes (Constant i) k l = []
part_nodes Variable k l = []

-- the operand found at node k
abbrev pub operand_there : Item → ℕ → List OperandAt
operand_there (Operand a) k = record { operand = a; node = k } ∷ []
operand_there (Unary o) k = []
operand_there (Binary o) k = []
operand_there (Constant i) k = []
operand_there Variable k = []

-- the payload found at a node with the payload w
abbrev pub payload_there : Item → ℕ → List ℕ
payload_there (Operand a) w = []
payload_there (Unary o) w = []
payload_there (Binary o) w = []
payload_there (Constant i) w = w ∷ []
payload_there Variable w = w ∷ []

-- the node that waits first, 0 where none waits, and what is known of it
abbrev pub next_node : List ℕ → ℕ
next_node ks = slice_index ks 0

abbrev pub node_there : CheckedTree → List ℕ → Node
node_there t ks = node_at (tree_nodes t) (next_node ks)

abbrev pub parts_there : CheckedTree → Item → List ℕ → List ℕ
parts_there t x ks = part_nodes x (next_node ks) (slice_index t.left (next_node ks)) ++ drop 1 ks

-- what is found in all, where the items xs are still to come at the waiting nodes ks, and os and ws were found before
abbrev pub found_from : CheckedTree → List Item → List ℕ → List OperandAt → List ℕ → Option (List OperandAt × List ℕ)
found_from t [] ks os ws = Some (os, ws)
found_from t (x ∷ xs) ks os ws =
    cond (fits_node x (node_there t ks))
    (found_from t xs (parts_there t x ks) (os ++ operand_there x (next_node ks)) (ws ++ payload_there x (node_there t ks).payload))
    None
