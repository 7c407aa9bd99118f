use Rattle.std.proofs.Common.{◌≡◌, map, take}
use Rattle.std.specs.List.{AllByRecursion}
use Rattle.tree.specs.Evaluations.{Granted}
use Rattle.tree.specs.Trees.{evaluated}
use Rattle.tree.proofs.Programs.{assignment_of}
use Rattle.tree.proofs.evaluation.evaluate.Given as goal

abbrev pub invariant-loop-i : goal.invariant-loop-i
invariant-loop-i l =
    AllByRecursion Granted (take l.i l.statements)
    × (l.setting ≡ evaluated (map assignment_of (take l.i l.statements)) l.variables)
