use Rattle.std.proofs.Common.{sym, ◌∙◌}
use Rattle.pattern.proofs.ItemValues.{value_whole}
use Rattle.pattern.proofs.patterns.Pattern.value.Goals as goal

pub returns : goal.returns
returns c q e =
    c.value_of.ensures
    ∙ value_whole c.args.setting.now q _ c.args.operands.now c.args.payloads.now (e ∙ sym c.as_slice.ensures.value)
