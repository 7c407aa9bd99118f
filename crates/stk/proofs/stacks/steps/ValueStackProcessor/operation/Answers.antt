use Rattle.std.proofs.Common.{sym, ◌∙◌}
use Rattle.processor.proofs.Tables.{line_missing, line_found, numbered, tried}
use Rattle.stk.specs.Table.{all_opcodes, opcode_of, operation_for, stk_operations, stk_machine}
use Rattle.stk.proofs.stacks.steps.ValueStackProcessor.operation.Goals as goal

pub returns-in_err-ok : goal.returns-in_err-ok
unfolding stk_operations
returns-in_err-ok c =
    rw c.from_residual.ensures (line_missing operation_for c.args.opcode all_opcodes (tried (opcode_of c.args.opcode) _ c.try_from.ensures ∙ sym c.ok.ensures.value ∙ c.in_err-ok.was))

pub returns : goal.returns
unfolding stk_operations
returns c =
    let o = c.in_ok-ok.field-0 in
    let listed = line_found operation_for c.args.opcode all_opcodes o (tried (opcode_of c.args.opcode) _ c.try_from.ensures ∙ sym c.ok.ensures.value ∙ c.in_ok-ok.was) in
    numbered stk_machine c.args.opcode (operation_for o) listed c.instruction.result c.instruction.ensures
