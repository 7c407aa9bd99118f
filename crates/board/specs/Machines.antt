-- What is fixed for a board: its depth limit, its store PLACE and its operations. A PLACE goes by the code of its letter.
use Rattle.std.specs.Prelude.{ℕ, cond, List, [], ◌∷◌, length, Some, None, Option, ◌==◌}
use Rattle.pattern.specs.Shapes.{Shape, Leaf, operands_of, leaves_of}

-- an operation: its opcode, the letters of its mnemonic, the PLACE of its result, and its meaning, a pattern whose operands are PLACES
pub record Operation : Type 0 where
  pub opcode_number : ℕ
  pub letters : List ℕ
  pub result_letter : ℕ
  pub shape : Shape

pub record Machine : Type 0 where
  pub deepest : ℕ
  pub store_letter : ℕ
  pub operations : List Operation

-- the PLACES of an operation's operands, and its leaves, both from the left
abbrev pub operand_letters : Operation → List ℕ
operand_letters o = operands_of o.shape

abbrev pub operation_leaves : Operation → List Leaf
operation_leaves o = leaves_of o.shape

-- how many operands it takes, and how many payloads
abbrev pub arity : Operation → ℕ
arity o = length (operand_letters o)

abbrev pub leaf_total : Operation → ℕ
leaf_total o = length (operation_leaves o)

-- the first of a list with the number n
abbrev pub first_numbered : {O : Type 0} → (O → ℕ) → List O → ℕ → Option O
first_numbered f [] n = None
first_numbered f (o ∷ os) n = cond (n == f o) (Some o) (first_numbered f os n)

abbrev pub operation_among : List Operation → ℕ → Option Operation
operation_among os n = first_numbered (λ o. o.opcode_number) os n

-- the operation of an opcode, if there is one
abbrev pub operation_of : Machine → ℕ → Option Operation
operation_of m n = operation_among m.operations n
