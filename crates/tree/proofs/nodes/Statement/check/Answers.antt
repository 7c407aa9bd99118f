use Rattle.std.proofs.Common.{sym, subst}
use Rattle.tree.specs.Statements.{StatementGranted}
use Rattle.tree.proofs.Conditions.{denied_13, granted}
use Rattle.tree.proofs.nodes.Statement.check.Goals as goal

pub returns-in-Some-variable_over : goal.returns-in-Some-variable_over
returns-in-Some-variable_over c = denied_13 _ _ c.if-self-gt-NODE_LIMIT.false c.in_default.ensures _ c.in-Some-variable_over.ensures

pub invariant_of-result : goal.invariant_of-result
invariant_of-result c = record {
  granted = subst (StatementGranted c.args.self.target) (sym c.in-Ok.ensures.0)
      (granted _ _ c.if-self-gt-NODE_LIMIT.false c.in_default.ensures c.in_default-variable_over.ensures);
}
