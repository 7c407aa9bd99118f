use Rattle.std.proofs.Common.{◌≡◌, drop}
use Rattle.std.specs.Str.{bytes_eq}
use Rattle.board.specs.Instructions.{operand_list}
use Rattle.board.proofs.instructions.checks.letters_match.Given as goal

abbrev pub invariant-loop-item : goal.invariant-loop-item
invariant-loop-item l = bytes_eq l.letters (operand_list l.items) ≡ bytes_eq l.rest (operand_list (drop l.item-index l.items))
