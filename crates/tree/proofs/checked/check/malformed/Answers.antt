use Rattle.std.proofs.Common.{◌+◌, ◌-◌, sym, refl, ap, ◌∙◌, subst, arith, below_more}
use Rattle.std.proofs.lemmas.List.{take_all}
use Rattle.tree.specs.Statements.{Faulty, standing, faulty, no_tree, parts_taken, node_at}
use Rattle.tree.proofs.Conditions.{none_11, standing_more}
use Rattle.tree.proofs.checked.check.malformed.Goals as goal

pub returns-in-None : goal.returns-in-None
returns-in-None c =
    let xs = c.args.statement.nodes.now in
    faulty refl (record {
      within = c.loop-i-test.true;
      holds = subst (λ n. Faulty n (node_at xs c.loop-i.i)) c.loop-i.invariant.1 c.in-None.ensures;
      none_before = c.loop-i.invariant.0;
    })

pub loop-i-preserved : goal.loop-i-preserved
loop-i-preserved c =
    let xs = c.args.statement.nodes.now in
    let i = c.loop-i.i in
    let sound = c.in-Some.ensures.0 in
    let after = c.in-Some.ensures.1 in (
      below_more _ _ c.loop-i.invariant.0 (λ f. sound (subst (λ n. Faulty n (node_at xs i)) (sym c.loop-i.invariant.1) f)),
      after ∙ ap (λ n. n - parts_taken (node_at xs i) + 1) c.loop-i.invariant.1 ∙ sym (standing_more xs i c.loop-i-test.true),
      omega arith,
    )

pub returns-then-standing-eq1 : goal.returns-then-standing-eq1
returns-then-standing-eq1 c =
    let xs = c.args.statement.nodes.now in
    none_11 c.args.statement.target xs
    (λ j h. c.loop-i.invariant.0 j (omega arith))
    (ap (standing 0) (sym (take_all c.loop-i.i xs c.loop-i-test.false)) ∙ sym c.loop-i.invariant.1 ∙ c.if-standing-eq1.true)

pub returns-else-standing-eq1 : goal.returns-else-standing-eq1
returns-else-standing-eq1 c =
    let xs = c.args.statement.nodes.now in
    no_tree refl refl (λ j h. c.loop-i.invariant.0 j (omega arith))
    (λ e. c.if-standing-eq1.false (c.loop-i.invariant.1 ∙ ap (standing 0) (take_all c.loop-i.i xs c.loop-i-test.false) ∙ e))
