use Rattle.std.proofs.Common.{None, rules}
use Rattle.description.specs.Blanks.{blank_rule}
use Rattle.description.proofs.Blanks.{same_pattern, same_figures}
use Rattle.description.proofs.rules.RuleEntry.blank.Goals as goal

pub returns : goal.returns
returns c =
    let pattern = same_pattern c.in-Ok-Some.pattern blank_rule.pattern (search rules) in
    let figures = same_figures c.in-Ok-Some.figures blank_rule.figures (search rules) (search rules) in
    λ i. record { left = 0; pattern = pattern i; mnemonic = None; figures = figures i }
