-- How a board that keeps its code as words is built: what is fixed, how instructions are written as words, and its processor.
-- The processor's own words, such as a stack or registers, are a list. A first word is opcode × 256 + low byte.
use Rattle.std.specs.Prelude.{ℕ, ◌+◌, ◌*◌, Bool, List}
use Rattle.board.specs.Machines.{Machine}

pub record Design : Type 0 where
  pub fixed_part : Machine
  -- the low byte, from the depth of the result (or of the operand stored) and how many operands there are
  pub low_of : ℕ → ℕ → ℕ
  -- the processor's words at the start
  pub at_start : List ℕ
  -- whether a first word cannot be carried out here, with so many operands and so many results
  pub misplaced_at : ℕ → ℕ → ℕ → List ℕ → Bool
  -- the operands in these PLACES that a first word asks for
  pub operands_at : ℕ → List ℕ → List ℕ → List ℕ
  -- what the first word of an operation with so many operands leaves, with a value for the result PLACE
  pub with_result : ℕ → ℕ → ℕ → ℕ → List ℕ → List ℕ
  -- what the first word of a store leaves
  pub after_store : ℕ → List ℕ → List ℕ
  -- the values of the operands that wait in these PLACES, the deepest first, and whether the processor's words can hold such
  pub values_at : List ℕ → List ℕ → List ℕ
  pub holds : List ℕ → List ℕ → Bool

-- the opcode of a store, which no operation has
abbrev pub store_opcode : ℕ
store_opcode = 63

abbrev pub first_word : Design → ℕ → ℕ → ℕ → ℕ
first_word d op depth operands = op * 256 + d.low_of depth operands
