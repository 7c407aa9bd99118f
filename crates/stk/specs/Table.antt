-- The instructions of the STK board: number, mnemonic and meaning of each. Every operand and result lies in PLACE S.
use Rattle.std.specs.Prelude.{ℕ, ◌-◌, ◌^◌, List, [], ◌∷◌, map, codes, Option}
use Rattle.std.proofs.Common.{arith}
use Rattle.operators.specs.declared.Unary.TheVariants.{Neg, Not}
use Rattle.operators.specs.declared.Binary.TheVariants.{Add, Sub, Mul, And, Or, Xor, Shl, Shr, Sar, Lt}
use Rattle.pattern.specs.declared.intervals.Interval.{Interval}
use Rattle.pattern.specs.Shapes.{Shape, operand_shape, constant_shape, variable_shape, unary_shape, binary_shape}
use Rattle.board.specs.Machines.{Operation, Machine, first_numbered}
use Rattle.stk.specs.declared.opcodes.Opcode.{Opcode}
use Rattle.processor.specs.Mnemonics.{pair_letters, single_letters}
use Rattle.stk.specs.declared.opcodes.Opcode.TheVariants.{Push, Load, Pair, Single, Inc, Addv, Madd}

-- the letter S
abbrev pub stack_place : ℕ
stack_place = 83

abbrev pub number_of : Opcode → ℕ
number_of Push = 1
number_of Load = 2
number_of (Pair Add) = 3
number_of (Pair Sub) = 4
number_of (Pair Mul) = 5
number_of (Pair And) = 6
number_of (Pair Or) = 7
number_of (Pair Xor) = 8
number_of (Pair Shl) = 9
number_of (Pair Shr) = 10
number_of (Pair Sar) = 11
number_of (Pair Lt) = 12
number_of (Single Neg) = 13
number_of (Single Not) = 14
number_of Inc = 15
number_of Addv = 16
number_of Madd = 17

abbrev pub all_opcodes : List Opcode
all_opcodes =
    Push ∷ Load ∷ Pair Add ∷ Pair Sub ∷ Pair Mul ∷ Pair And ∷ Pair Or ∷ Pair Xor ∷ Pair Shl ∷ Pair Shr ∷ Pair Sar ∷ Pair Lt ∷ Single Neg ∷ Single Not ∷ Inc ∷ Addv ∷ Madd ∷ []

-- the opcode of a number, if there is one
abbrev pub opcode_of : ℕ → Option Opcode
opcode_of n = first_numbered number_of all_opcodes n

abbrev pub mnemonic_of : Opcode → List ℕ
mnemonic_of Push = codes "push"
mnemonic_of Load = codes "load"
mnemonic_of (Pair o) = pair_letters o
mnemonic_of (Single o) = single_letters o
mnemonic_of Inc = codes "inc"
mnemonic_of Addv = codes "addv"
mnemonic_of Madd = codes "madd"

-- every word, and the word 1 alone
abbrev pub every_word : Interval
every_word = record { low = 0; high = 2 ^ 32 - 1; ordered = omega arith; bounded = omega arith }

abbrev pub one_alone : Interval
one_alone = record { low = 1; high = 1; ordered = omega arith; bounded = omega arith }

-- the meaning, as a pattern over PLACE S
abbrev pub in_stack : Shape
in_stack = operand_shape stack_place

abbrev pub meaning_of : Opcode → Shape
meaning_of Push = constant_shape every_word
meaning_of Load = variable_shape
meaning_of (Pair o) = binary_shape o in_stack in_stack
meaning_of (Single o) = unary_shape o in_stack
meaning_of Inc = binary_shape Add in_stack (constant_shape one_alone)
meaning_of Addv = binary_shape Add in_stack variable_shape
meaning_of Madd = binary_shape Add in_stack (binary_shape Mul in_stack (constant_shape every_word))

-- the operation of an opcode
abbrev pub operation_for : Opcode → Operation
operation_for o = record { opcode_number = number_of o; letters = mnemonic_of o; result_letter = stack_place; shape = meaning_of o }

unfoldable pub stk_operations : List Operation
stk_operations = map operation_for all_opcodes

-- what is fixed: at most 64 values wait, and a store takes one from PLACE S
abbrev pub stk_machine : Machine
stk_machine = record { deepest = 64; store_letter = stack_place; operations = stk_operations }
