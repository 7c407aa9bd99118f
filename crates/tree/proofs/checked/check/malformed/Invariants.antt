use Rattle.std.proofs.Common.{◌≡◌, ◌≤◌, take}
use Rattle.tree.specs.Refusals.{NoneBelow}
use Rattle.tree.specs.Statements.{FaultyAt, standing}
use Rattle.tree.proofs.checked.check.malformed.Given as goal

abbrev pub invariant-loop-i : goal.invariant-loop-i
invariant-loop-i l = NoneBelow l.i (FaultyAt l.nodes) × (l.standing ≡ standing 0 (take l.i l.nodes)) × (l.standing ≤ l.i)
