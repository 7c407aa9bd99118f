-- Which operation an instruction is, and the instruction of a mnemonic.
use Rattle.std.specs.Prelude.{◌≡◌, ℕ, Bool, true, List, [], ◌∷◌, Some, None, Option, MatchOption, ◌≢◌}
use Rattle.std.specs.List.{ContainsAt as Has, AllByRecursion}
use Rattle.pattern.specs.declared.items.Item.{Item}
use Rattle.pattern.specs.declared.items.Item.TheVariants.{Operand, Unary, Binary, Constant, Variable}
use Rattle.pattern.specs.Letters.{letters_of}
use Rattle.pattern.specs.Patterns.{items_of}
use Rattle.pattern.specs.Shapes.{Leaf, word_within, variable_number, reading}
use Rattle.board.specs.declared.instructions.Instruction.{Instruction}
use Rattle.board.specs.Payloads.{leaf_admits}
use Rattle.board.specs.Machines.{Machine, Operation, operation_of}

-- the PLACES of the operands among items, from the left
abbrev pub operand_list : List Item → List ℕ
operand_list [] = []
operand_list (Operand a ∷ xs) = a ∷ operand_list xs
operand_list (Unary o ∷ xs) = operand_list xs
operand_list (Binary o ∷ xs) = operand_list xs
operand_list (Constant i ∷ xs) = operand_list xs
operand_list (Variable ∷ xs) = operand_list xs

-- the leaves among items, from the left
abbrev pub leaf_list : List Item → List Leaf
leaf_list [] = []
leaf_list (Operand a ∷ xs) = leaf_list xs
leaf_list (Unary o ∷ xs) = leaf_list xs
leaf_list (Binary o ∷ xs) = leaf_list xs
leaf_list (Constant i ∷ xs) = word_within i ∷ leaf_list xs
leaf_list (Variable ∷ xs) = variable_number ∷ leaf_list xs

-- whether a leaf admits a payload; what is no leaf admits all
abbrev pub item_admits : Item → ℕ → Bool
item_admits (Operand a) w = true
item_admits (Unary o) w = true
item_admits (Binary o) w = true
item_admits (Constant i) w = leaf_admits (word_within i) w
item_admits Variable w = leaf_admits variable_number w

-- the operands and leaves of an instruction's meaning
abbrev pub instruction_operands : Instruction → List ℕ
instruction_operands i = operand_list (items_of i.meaning)

abbrev pub instruction_leaves : Instruction → List Leaf
instruction_leaves i = leaf_list (items_of i.meaning)

-- the instruction is this operation
pub record Denotes (i : Instruction) (o : Operation) : Type 0 where
  pub opcode_is : i.opcode ≡ o.opcode_number
  pub mnemonic_is : letters_of i.mnemonic ≡ o.letters
  pub result_is : i.result.letter ≡ o.result_letter
  pub meaning_is : items_of i.meaning ≡ reading o.shape

-- the instruction with that mnemonic, and none where no operation has it
abbrev pub InstructionNamed : Machine → List ℕ → Option Instruction → Type 0
InstructionNamed m name r =
    MatchOption r (AllByRecursion (λ o. o.letters ≢ name) m.operations) (λ i. (o : Operation) × Has m.operations o × (o.letters ≡ name) × Denotes i o)

-- the instruction with that opcode, and none where there is none
abbrev pub InstructionNumbered : Machine → ℕ → Option Instruction → Type 0
InstructionNumbered m n r = MatchOption r (operation_of m n ≡ None) (λ i. (o : Operation) × (operation_of m n ≡ Some o) × Denotes i o)
