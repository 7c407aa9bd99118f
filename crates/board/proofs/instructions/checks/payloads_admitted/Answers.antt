use Rattle.std.proofs.Common.{◌+◌, drop, sym, ◌∙◌}
use Rattle.std.proofs.lemmas.List.{at_drop_all}
use Rattle.pattern.proofs.ItemSteps.{step}
use Rattle.board.specs.Instructions.{leaf_list}
use Rattle.board.specs.Payloads.{admits_all}
use Rattle.board.proofs.instructions.checks.payloads_admitted.Goals as goal

pub returns-in_default : goal.returns-in_default
returns-in_default c =
    let xs = c.args.items.now in
    let i = c.loop-item.item-index in
    sym (c.loop-item.invariant
    ∙ step (λ ys. admits_all (leaf_list ys) c.loop-item.rest.now) xs i c.item-item.result c.loop-item-test.true c.item-item.is
    ∙ c.in_default.ensures (drop (i + 1) xs))

pub loop-item-preserved : goal.loop-item-preserved
loop-item-preserved c =
    let xs = c.args.items.now in
    let i = c.loop-item.item-index in
    c.loop-item.invariant
    ∙ step (λ ys. admits_all (leaf_list ys) c.loop-item.rest.now) xs i c.item-item.result c.loop-item-test.true c.item-item.is
    ∙ c.in-Some.ensures (drop (i + 1) xs)

pub returns : goal.returns
returns c =
    sym (c.loop-item.invariant ∙ at_drop_all (λ ys. admits_all (leaf_list ys) c.loop-item.rest.now) c.args.items.now c.loop-item.item-index c.loop-item-test.false)
