use Rattle.std.proofs.Common.{◌≤◌, length}
use Rattle.paper.proofs.text.Lines.until_end.Given as goal

abbrev pub invariant-loop-line : goal.invariant-loop-line
invariant-loop-line l = (length l.self.rest.now ≤ length l.initial.self.rest.now) × (l.passed ≤ length l.text)
