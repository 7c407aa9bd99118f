use Rattle.std.proofs.Common.{arith}
use Rattle.std.proofs.lemmas.List.{at_drop_all}
use Rattle.pattern.specs.Items.{count_of_operands, count_of_leaves}
use Rattle.pattern.proofs.ItemSteps.{step, operands_few, leaves_few}
use Rattle.pattern.proofs.patterns.counts.counts.Goals as goal

pub loop-item-preserved : goal.loop-item-preserved
loop-item-preserved c =
    let xs = c.args.items.now in
    let i = c.loop-item.item-index in
    let x = c.item-item.result in
    let more = step count_of_operands xs i x c.loop-item-test.true c.item-item.is in
    let more' = step count_of_leaves xs i x c.loop-item-test.true c.item-item.is in
    let few = operands_few x in
    let few' = leaves_few x in
    (omega arith, omega arith, omega arith, omega arith)

pub returns : goal.returns
returns c =
    let xs = c.args.items.now in
    let i = c.loop-item.item-index in
    let done = at_drop_all count_of_operands xs i c.loop-item-test.false in
    let done' = at_drop_all count_of_leaves xs i c.loop-item-test.false in
    (omega arith, omega arith)
