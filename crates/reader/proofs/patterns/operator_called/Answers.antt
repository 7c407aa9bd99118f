use Rattle.std.proofs.Common.{ap, ◌∙◌}
use Rattle.reader.specs.Words.{operator_called}
use Rattle.reader.proofs.Called.{parsed_is, no_text, text_is}
use Rattle.reader.proofs.patterns.operator_called.Goals as goal

pub returns-in_err-ok : goal.returns-in_err-ok
returns-in_err-ok c = c.from_residual.ensures ∙ no_text _ _ c.args.letters.now c.from_utf8.result c.from_utf8.ensures.cases c.in_err-ok.ensures.variant

pub returns : goal.returns
returns c =
    let same = text_is _ _ c.args.letters.now c.from_utf8.result c.in_ok-ok.field-0 c.from_utf8.ensures.cases c.in_ok-ok.ensures.value in
    c.ok-2.ensures.value ∙ parsed_is _ _ c.parse.ensures.value ∙ ap operator_called same
