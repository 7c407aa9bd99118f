use Rattle.std.proofs.Common.{◌≡◌, ◌+◌, ◌≤◌, drop}
use Rattle.pattern.specs.Items.{count_of_operands, count_of_leaves}
use Rattle.pattern.proofs.patterns.counts.counts.Given as goal

abbrev pub invariant-loop-item : goal.invariant-loop-item
invariant-loop-item l =
    (l.operands + count_of_operands (drop l.item-index l.items) ≡ count_of_operands l.items)
    × (l.leaves + count_of_leaves (drop l.item-index l.items) ≡ count_of_leaves l.items)
    × (l.operands ≤ l.item-index) × (l.leaves ≤ l.item-index)
