use Rattle.std.proofs.Common.{arith}
use Rattle.rows.proofs.Fields.{Kept-from}
use Rattle.rows.proofs.RowTryFromRefSlice.try_from.Goals as goal

pub invariant_of-result : goal.invariant_of-result
invariant_of-result g c = rw (c.copy_from_slice.ensures.after, c.blank-all.ensures) (Kept-from _ _ _ _ (omega arith) (omega (arith, c.if-len.false)))
