use Rattle.std.proofs.Common.{map, refl, ap, ◌∙◌, subst}
use Rattle.std.proofs.lemmas.List.{take_all}
use Rattle.std.specs.List.{AllByRecursion}
use Rattle.tree.specs.Evaluations.{Granted, in_statement}
use Rattle.tree.specs.Trees.{evaluated}
use Rattle.tree.proofs.Programs.{assignment_of, say_all, first_denied, granted_more, evaluated_more}
use Rattle.tree.proofs.evaluation.evaluate.Goals as goal

pub returns-in-Err : goal.returns-in-Err
returns-in-Err c = (
  refl,
  in_statement c.loop-i.i c.if-variables-ne-VARIABLES.false refl
      (first_denied c.args.statements.now c.loop-i.i _ c.loop-i-test.true c.loop-i.invariant.0 _ _ c.in-Err.ensures),
)

pub loop-i-preserved : goal.loop-i-preserved
loop-i-preserved c =
    let ss = c.args.statements.now in
    let i = c.loop-i.i in
    let h = c.loop-i-test.true in
    let before = c.loop-i.invariant.0 in
    let same = c.in-Ok.ensures in (
      granted_more ss i _ h before c.in-Ok.checked same,
      evaluated_more ss i _ h before c.in-Ok.checked same c.args.variables.now c.assign.new.setting c.loop-i.setting c.loop-i.invariant.1 c.assign.ensures,
    )

pub returns : goal.returns
returns c =
    let all = take_all c.loop-i.i c.args.statements.now c.loop-i-test.false in
    record {
      counted = c.if-variables-ne-VARIABLES.false;
      assignments = map assignment_of c.args.statements.now;
      says = say_all c.args.statements.now (subst (AllByRecursion Granted) all c.loop-i.invariant.0);
      leaves = c.copy_from_slice-2.ensures.after ∙ c.loop-i.invariant.1 ∙ ap (λ l. evaluated (map assignment_of l) c.args.variables.now) all;
    }
