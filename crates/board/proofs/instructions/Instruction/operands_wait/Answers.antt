use Rattle.std.proofs.Common.{◌≡◌, ◌-◌, length, drop, sym, ap, ◌∙◌}
use Rattle.std.specs.Str.{bytes_eq}
use Rattle.std.proofs.lemmas.List.{take_rest}
use Rattle.pattern.specs.Patterns.{items_of}
use Rattle.board.specs.Instructions.{operand_list, instruction_operands}
use Rattle.board.proofs.Lists.{operands_counted}
use Rattle.board.proofs.instructions.Instruction.operands_wait.Goals as goal

pub returns : goal.returns
returns c =
    let i = c.args.self.now in
    let w = c.args.waiting.now in
    let from = c.saturating_sub-from.result in
    let asked : i.meaning.operands ≡ length (instruction_operands i) = i.meaning.counted ∙ sym (operands_counted (items_of i.meaning)) in
    let start : from ≡ length w - length (instruction_operands i) = c.saturating_sub-from.ensures ∙ ap (λ k. length w - k) asked in
    c.letters_match.ensures ∙ (λ j. bytes_eq (take_rest w from j) (operand_list (c.as_slice.ensures.value j))) ∙ ap (λ k. bytes_eq (drop k w) (instruction_operands i)) start
