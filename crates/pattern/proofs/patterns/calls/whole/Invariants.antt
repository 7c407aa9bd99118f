use Rattle.std.proofs.Common.{◌≡◌, ◌+◌, ◌≤◌, drop}
use Rattle.pattern.specs.Items.{whole_from}
use Rattle.pattern.proofs.patterns.calls.whole.Given as goal

abbrev pub invariant-loop-item : goal.invariant-loop-item
invariant-loop-item l = (whole_from 1 l.items ≡ whole_from l.wanted (drop l.item-index l.items)) × (l.wanted ≤ l.item-index + 1)
