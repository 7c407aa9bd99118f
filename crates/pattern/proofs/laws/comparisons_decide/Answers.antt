use Rattle.pattern.proofs.Comparisons.{intervals_decide, items_decide, patterns_decide}
use Rattle.pattern.proofs.laws.comparisons_decide.Goals as goal

pub returns-clause-ranges : goal.returns-clause-ranges
returns-clause-ranges c = intervals_decide

pub returns-clause-items : goal.returns-clause-items
returns-clause-items c = items_decide

pub returns-clause-patterns : goal.returns-clause-patterns
returns-clause-patterns c = patterns_decide
