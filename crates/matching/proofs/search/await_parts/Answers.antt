use Rattle.std.proofs.Common.{length, ap, arith}
use Rattle.pattern.specs.Items.{item_parts}
use Rattle.matching.proofs.Steps.{left_each, before_parts}
use Rattle.matching.proofs.search.await_parts.Goals as goal

pub overflow_sub-node : goal.overflow_sub-node
overflow_sub-node c =
    before_parts c.args.tree.now c.args.item c.args.node c.requires.inside c.requires.fit (omega (arith, ap item_parts c.in-Unary.is))

pub overflow_sub-right : goal.overflow_sub-right
overflow_sub-right c =
    before_parts c.args.tree.now c.args.item c.args.node c.requires.inside c.requires.fit (omega (arith, ap item_parts c.in-Binary.is))

pub offset_bounds-as_slice-node : goal.offset_bounds-as_slice-node
offset_bounds-as_slice-node c = omega (arith, left_each c.args.tree.now, c.requires.inside, c.as_slice.ensures.within)

pub bounds-as_slice-node : goal.bounds-as_slice-node
bounds-as_slice-node c = omega (arith, ap length c.as_slice.ensures.value, left_each c.args.tree.now, c.requires.inside)
