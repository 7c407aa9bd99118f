use Rattle.std.proofs.Common.{arith}
use Rattle.rows.proofs.Fields.{Kept-push}
use Rattle.rows.proofs.Row.push.Goals as goal

pub invariant_of-self : goal.invariant_of-self
invariant_of-self g c = Kept-push _ _ _ c.self.inside c.self.invariant (omega (arith, c.if-self.false, c.self.invariant.few))
