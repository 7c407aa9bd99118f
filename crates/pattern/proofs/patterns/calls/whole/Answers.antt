use Rattle.std.proofs.Common.{◌≡◌, ◌+◌, ◌-◌, drop, sym, ap, ◌∙◌, arith}
use Rattle.std.proofs.lemmas.List.{at_drop_all}
use Rattle.pattern.specs.Items.{whole_from, item_parts}
use Rattle.pattern.proofs.ItemSteps.{step, whole_step, parts_few}
use Rattle.pattern.proofs.patterns.calls.whole.Goals as goal

pub loop-item-preserved : goal.loop-item-preserved
loop-item-preserved c =
    let xs = c.args.items.now in
    let i = c.loop-item.item-index in
    let x = c.item-item.result in
    let n = c.loop-item.wanted in
    let few = parts_few x in
    let more : item_parts x + (n - 1) ≡ n - 1 + c.arity.result = omega arith in (
      c.loop-item.invariant.0 ∙ step (whole_from n) xs i x c.loop-item-test.true c.item-item.is
          ∙ whole_step n x (drop (i + 1) xs) c.if-wanted-eq0.false ∙ ap (λ k. whole_from k (drop (i + 1) xs)) more,
      omega arith,
    )

pub returns : goal.returns
returns c =
    let xs = c.args.items.now in
    let i = c.loop-item.item-index in
    sym (c.loop-item.invariant.0 ∙ at_drop_all (whole_from c.loop-item.wanted) xs i c.loop-item-test.false)

pub returns-then-wanted-eq0 : goal.returns-then-wanted-eq0
returns-then-wanted-eq0 c =
    let xs = c.args.items.now in
    let i = c.loop-item.item-index in
    sym (c.loop-item.invariant.0 ∙ ap (λ n. whole_from n (drop i xs)) c.if-wanted-eq0.true
    ∙ step (whole_from 0) xs i c.item-item.result c.loop-item-test.true c.item-item.is)
