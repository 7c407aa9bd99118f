-- Evaluation node by node: what a node in postfix order makes of the values of the trees before it, the newest first.
use Rattle.std.specs.Prelude.{ℕ, List, [], ◌∷◌, Some, None, Option, slice_index}
use Rattle.operators.specs.declared.Operator.{Operator}
use Rattle.operators.specs.declared.Operator.TheVariants.{Cnst, Var, One, Two}
use Rattle.tree.specs.declared.nodes.Node.{Node}
use Rattle.operators.specs.Operators.{operator_of, unary, binary}

-- the newest value, 0 where there is none, and the others
abbrev pub top : List ℕ → ℕ
top [] = 0
top (v ∷ vs) = v

abbrev pub under : List ℕ → List ℕ
under [] = []
under (v ∷ vs) = vs

abbrev pub values_by : Option Operator → ℕ → List ℕ → List ℕ → List ℕ
values_by None w σ vs = vs
values_by (Some Cnst) w σ vs = w ∷ vs
values_by (Some Var) w σ vs = slice_index σ w ∷ vs
values_by (Some (One o)) w σ vs = unary o (top vs) ∷ under vs
values_by (Some (Two o)) w σ vs = binary o (top (under vs)) (top vs) ∷ under (under vs)

-- what a node makes of the values before it
abbrev pub values_after : List ℕ → Node → List ℕ → List ℕ
values_after σ x vs = values_by (operator_of x.operator) x.payload σ vs
