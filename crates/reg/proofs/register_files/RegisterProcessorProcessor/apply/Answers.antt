use Rattle.std.proofs.Common.{◌≡◌, ◌++◌, set, sym, refl, ap, ◌∙◌}
use Rattle.pattern.specs.Shapes.{shape_value}
use Rattle.board.specs.Instructions.{operand_list}
use Rattle.board.specs.Machines.{operand_letters}
use Rattle.processor.proofs.Judging.{operands_are}
use Rattle.processor.proofs.Steps.{asked_at}
use Rattle.reg.specs.Designs.{slot, registers_from, i_of, reg_design}
use Rattle.reg.proofs.register_files.RegisterProcessorProcessor.apply.Goals as goal

pub returns-then-misplaced : goal.returns-then-misplaced
returns-then-misplaced c o is =
    let p = c.args.self.now in
    (asked_at reg_design c.args.instruction.now o is c.args.first (p.«data» ++ p.address) c.misplaced.ensures c.if-misplaced.true, refl)

pub returns : goal.returns
returns c o is =
    let i = c.args.instruction.now in
    let p = c.args.self.now in
    let own = p.«data» ++ p.address in
    let depth = c.result_depth-depth.ensures in
    let found : c.as_slice-2.result.now ≡ registers_from (i_of c.args.first) (operand_letters o) own =
    c.as_slice-2.ensures.value ∙ c.operands-operands.ensures
    ∙ ap (λ xs. registers_from c.result_depth-depth.result (operand_list xs) own) c.as_slice.ensures.value ∙ (λ x. registers_from (depth x) (operands_are i o is x) own) in
    let value = c.value-value.ensures o.shape (sym is.meaning_is)
    ∙ ap (λ vs. shape_value o.shape vs c.args.payloads.now c.args.setting.now) found in
    c.set_register.ensures ∙ (λ x. set own (slot (is.result_is x) (depth x)) (value x))
