use Rattle.std.proofs.Common.{◌≡◌, ◌+◌, ◌++◌, length, drop}
use Rattle.pattern.specs.Items.{count_of_operands}
use Rattle.board.specs.Instructions.{operand_list}
use Rattle.reg.specs.Designs.{registers_from}
use Rattle.reg.proofs.register_files.RegisterProcessor.operands.Given as goal

abbrev pub invariant-loop-item : goal.invariant-loop-item
invariant-loop-item l =
    (length l.values + count_of_operands (drop l.item-index l.items) ≡ count_of_operands l.items)
    × (l.values ++ registers_from (l.from + length l.values) (operand_list (drop l.item-index l.items)) (l.self.«data» ++ l.self.address) ≡ registers_from l.from (operand_list l.items) (l.self.«data» ++ l.self.address))
