-- Patterns as trees: how one is read as a list of items, and its value.
use Rattle.std.specs.Prelude.{◌≡◌, ℕ, true, List, [], ◌∷◌, ◌++◌, length, drop, slice_index}
use Rattle.operators.specs.declared.Unary.{Unary as UnaryOperator}
use Rattle.operators.specs.declared.Binary.{Binary as BinaryOperator}
use Rattle.operators.specs.Operators.{unary, binary}
use Rattle.pattern.specs.declared.intervals.Interval.{Interval}
use Rattle.pattern.specs.declared.items.Item.{Item}
use Rattle.pattern.specs.declared.items.Item.TheVariants.{Operand, Unary, Binary, Constant, Variable}
use Rattle.pattern.specs.Items.{whole_from}

-- an operand by its number, a constant of a range, a variable, or an operator over one or two parts
pub data Shape : Type 0 where
  operand_shape : ℕ → Shape
  constant_shape : Interval → Shape
  variable_shape : Shape
  unary_shape : UnaryOperator → Shape → Shape
  binary_shape : BinaryOperator → Shape → Shape → Shape

-- the items of a shape in reading order: an operator, then its parts from the left
abbrev pub reading : Shape → List Item
reading (operand_shape a) = Operand a ∷ []
reading (constant_shape i) = Constant i ∷ []
reading variable_shape = Variable ∷ []
reading (unary_shape o p) = Unary o ∷ reading p
reading (binary_shape o p q) = Binary o ∷ (reading p ++ reading q)

-- the numbers of its operands, from the left
abbrev pub operands_of : Shape → List ℕ
operands_of (operand_shape a) = a ∷ []
operands_of (constant_shape i) = []
operands_of variable_shape = []
operands_of (unary_shape o p) = operands_of p
operands_of (binary_shape o p q) = operands_of p ++ operands_of q

-- a leaf: a constant of a range, or the number of a variable
pub data Leaf : Type 0 where
  word_within : Interval → Leaf
  variable_number : Leaf

-- its leaves, from the left
abbrev pub leaves_of : Shape → List Leaf
leaves_of (operand_shape a) = []
leaves_of (constant_shape i) = word_within i ∷ []
leaves_of variable_shape = variable_number ∷ []
leaves_of (unary_shape o p) = leaves_of p
leaves_of (binary_shape o p q) = leaves_of p ++ leaves_of q

-- its value in the setting σ, where its operands have the values vs and its leaves the payloads ws:
-- both are used up from the left, and what is missing counts as 0
abbrev pub shape_value : Shape → List ℕ → List ℕ → List ℕ → ℕ
shape_value (operand_shape a) vs ws σ = slice_index vs 0
shape_value (constant_shape i) vs ws σ = slice_index ws 0
shape_value variable_shape vs ws σ = slice_index σ (slice_index ws 0)
shape_value (unary_shape o p) vs ws σ = unary o (shape_value p vs ws σ)
shape_value (binary_shape o p q) vs ws σ =
    binary o (shape_value p vs ws σ) (shape_value q (drop (length (operands_of p)) vs) (drop (length (leaves_of p)) ws) σ)

-- a list of items is the reading of at most one shape
abbrev pub OneShapeAtMost : Type 0
OneShapeAtMost = (p q : Shape) → reading p ≡ reading q → p ≡ q

-- a list of items is whole exactly if it is the reading of a shape
abbrev pub WholeIsShape : Type 0
WholeIsShape =
    (xs : List Item) → (whole_from 1 xs ≡ true → (p : Shape) × (reading p ≡ xs)) × ((p : Shape) → reading p ≡ xs → whole_from 1 xs ≡ true)
