use Rattle.std.proofs.Common.{◌≡◌, List, ◌++◌, ◌≤◌, length, drop}
use Rattle.tree.specs.Stacks.{held, capacity}
use Rattle.pattern.specs.declared.items.Item.{Item}
use Rattle.pattern.specs.ItemValues.{values_from}
use Rattle.pattern.specs.Items.{count_of_leaves, count_of_operands}
use Rattle.pattern.proofs.values.value_of.Given as goal

-- the items after those that the iterator still has stand as values on the stack
abbrev pub invariant-loop-item : goal.invariant-loop-item
invariant-loop-item l =
    let front = l.item-iterator.iter.rest.now in
    (after : List Item) × (l.items ≡ front ++ after)
    × (held l.stack ≡ values_from l.setting after (drop l.operand l.operands) (drop l.leaf l.payloads))
    × (l.operand ≡ count_of_operands front) × (l.leaf ≡ count_of_leaves front)
    × (length (held l.stack) ≤ length after) × (capacity l.stack ≡ 7)
