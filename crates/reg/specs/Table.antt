-- The instructions of the REG board: number, mnemonic, PLACE of the result and meaning of each. PLACES are the letters D and A.
use Rattle.std.specs.Prelude.{ℕ, ◌-◌, ◌^◌, ◌<◌, List, [], ◌∷◌, map, codes, Option}
use Rattle.std.proofs.Common.{arith}
use Rattle.operators.specs.declared.Unary.TheVariants.{Neg, Not}
use Rattle.operators.specs.declared.Binary.TheVariants.{Add, Sub, Mul, And, Or, Xor, Shl, Shr, Sar, Lt}
use Rattle.pattern.specs.declared.intervals.Interval.{Interval}
use Rattle.pattern.specs.Shapes.{Shape, operand_shape, constant_shape, variable_shape, unary_shape, binary_shape}
use Rattle.board.specs.Machines.{Operation, Machine, first_numbered}
use Rattle.reg.specs.declared.opcodes.Opcode.{Opcode}
use Rattle.processor.specs.Mnemonics.{pair_letters, single_letters}
use Rattle.reg.specs.declared.opcodes.Opcode.TheVariants.{Ldi, Ldq, Ldv, Pair, Single, Addi, Shli, Mova, Movd, Lea, Adda}

-- the letter D, for data registers, and the letter A, for address registers
abbrev pub data_place : ℕ
data_place = 68

abbrev pub address_place : ℕ
address_place = 65

abbrev pub number_of : Opcode → ℕ
number_of Ldi = 1
number_of Ldq = 2
number_of Ldv = 3
number_of (Pair Add) = 4
number_of (Pair Sub) = 5
number_of (Pair Mul) = 6
number_of (Pair And) = 7
number_of (Pair Or) = 8
number_of (Pair Xor) = 9
number_of (Pair Shl) = 10
number_of (Pair Shr) = 11
number_of (Pair Sar) = 12
number_of (Pair Lt) = 13
number_of (Single Neg) = 14
number_of (Single Not) = 15
number_of Addi = 16
number_of Shli = 17
number_of Mova = 18
number_of Movd = 19
number_of Lea = 20
number_of Adda = 21

abbrev pub all_opcodes : List Opcode
all_opcodes =
    Ldi ∷ Ldq ∷ Ldv ∷ Pair Add ∷ Pair Sub ∷ Pair Mul ∷ Pair And ∷ Pair Or ∷ Pair Xor ∷ Pair Shl ∷ Pair Shr ∷ Pair Sar ∷ Pair Lt ∷ Single Neg ∷ Single Not ∷ Addi ∷ Shli ∷ Mova ∷ Movd ∷ Lea ∷ Adda ∷ []

-- the opcode of a number, if there is one
abbrev pub opcode_of : ℕ → Option Opcode
opcode_of n = first_numbered number_of all_opcodes n

abbrev pub mnemonic_of : Opcode → List ℕ
mnemonic_of Ldi = codes "ldi"
mnemonic_of Ldq = codes "ldq"
mnemonic_of Ldv = codes "ldv"
mnemonic_of (Pair o) = pair_letters o
mnemonic_of (Single o) = single_letters o
mnemonic_of Addi = codes "addi"
mnemonic_of Shli = codes "shli"
mnemonic_of Mova = codes "mova"
mnemonic_of Movd = codes "movd"
mnemonic_of Lea = codes "lea"
mnemonic_of Adda = codes "adda"

-- the PLACE of the result
abbrev pub result_of : Opcode → ℕ
result_of Ldi = data_place
result_of Ldq = data_place
result_of Ldv = data_place
result_of (Pair o) = data_place
result_of (Single o) = data_place
result_of Addi = data_place
result_of Shli = data_place
result_of Mova = address_place
result_of Movd = data_place
result_of Lea = address_place
result_of Adda = address_place

-- the words from 0 to the top, which is a word itself
abbrev pub words_to : (top : ℕ) → top < 2 ^ 32 → Interval
words_to top word = record { low = 0; high = top; ordered = omega arith; bounded = word }

-- a constant of every word, and constants from 0 to 255, to 31 and to 3
abbrev pub every_word : Shape
every_word = constant_shape (words_to (2 ^ 32 - 1) (omega arith))

abbrev pub to_255 : Shape
to_255 = constant_shape (words_to 255 (omega arith))

abbrev pub to_31 : Shape
to_31 = constant_shape (words_to 31 (omega arith))

abbrev pub to_3 : Shape
to_3 = constant_shape (words_to 3 (omega arith))

-- the meaning, as a pattern over the PLACES D and A
abbrev pub in_data : Shape
in_data = operand_shape data_place

abbrev pub in_address : Shape
in_address = operand_shape address_place

abbrev pub meaning_of : Opcode → Shape
meaning_of Ldi = every_word
meaning_of Ldq = to_255
meaning_of Ldv = variable_shape
meaning_of (Pair o) = binary_shape o in_data in_data
meaning_of (Single o) = unary_shape o in_data
meaning_of Addi = binary_shape Add in_data every_word
meaning_of Shli = binary_shape Shl in_data to_31
meaning_of Mova = in_data
meaning_of Movd = in_address
meaning_of Lea = binary_shape Add in_address (binary_shape Shl in_data to_3)
meaning_of Adda = binary_shape Add in_address to_255

-- the operation of an opcode
abbrev pub operation_for : Opcode → Operation
operation_for o = record { opcode_number = number_of o; letters = mnemonic_of o; result_letter = result_of o; shape = meaning_of o }

unfoldable pub reg_operations : List Operation
reg_operations = map operation_for all_opcodes

-- what is fixed: at most 8 operands wait, and a store takes its operand from PLACE D
abbrev pub reg_machine : Machine
reg_machine = record { deepest = 8; store_letter = data_place; operations = reg_operations }
