-- Chain rules. A rule's pattern is the list of its items in reading order.
use Rattle.std.specs.Prelude.{ℕ, List, [], ◌∷◌, Some, None, Option}
use Rattle.pattern.specs.declared.items.Item.{Item}
use Rattle.pattern.specs.declared.items.Item.TheVariants.{Operand, Unary, Binary, Constant, Variable}

-- the name that a chain rule's pattern is, and none for any other pattern
abbrev pub only_operand : List Item → Option ℕ
only_operand [] = None
only_operand (Operand a ∷ []) = Some a
only_operand (Operand a ∷ x ∷ xs) = None
only_operand (Unary o ∷ xs) = None
only_operand (Binary o ∷ xs) = None
only_operand (Constant i ∷ xs) = None
only_operand (Variable ∷ xs) = None
