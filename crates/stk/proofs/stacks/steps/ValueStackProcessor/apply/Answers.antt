use Rattle.std.proofs.Common.{◌≡◌, ◌-◌, [], ◌∷◌, ◌++◌, take, drop, sym, refl, ap, ◌∙◌}
use Rattle.pattern.specs.Shapes.{shape_value}
use Rattle.board.specs.Machines.{arity}
use Rattle.board.specs.Acts.{last_of, before_last}
use Rattle.processor.proofs.Judging.{arity_is}
use Rattle.processor.proofs.Steps.{asked_at}
use Rattle.stk.specs.Designs.{stk_design}
use Rattle.stk.specs.Stacks.{stacked}
use Rattle.stk.proofs.stacks.steps.ValueStackProcessor.apply.Goals as goal

pub returns-then-misplaced : goal.returns-then-misplaced
returns-then-misplaced c o is =
    (asked_at stk_design c.args.instruction.now o is c.args.first (stacked c.args.self.now) c.misplaced.ensures c.if-misplaced.true, refl)

pub returns : goal.returns
returns c o is =
    let own = stacked c.args.self.now in
    let count = arity_is c.args.instruction.now o is in
    let below : c.truncate.new.self ≡ before_last (arity o) own =
    c.truncate.ensures ∙ (λ j. take (c.len.ensures.value j - count j) own) in
    let operands : c.split_at.result.1.now ≡ last_of (arity o) own =
    c.split_at.ensures.back ∙ (λ j. drop (c.len.ensures.value j - count j) (c.as_slice.ensures.value j)) in
    let value = c.value-value.ensures o.shape (sym is.meaning_is)
    ∙ ap (λ vs. shape_value o.shape vs c.args.payloads.now c.args.setting.now) operands in
    c.in-Ok.ensures ∙ (λ j. below j ++ value j ∷ [])
