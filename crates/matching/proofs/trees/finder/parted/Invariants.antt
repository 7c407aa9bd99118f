use Rattle.std.proofs.Common.{◌≡◌, ◌≤◌, [], length, take}
use Rattle.tree.specs.Stacks.{held, capacity}
use Rattle.matching.specs.Parts.{left_parts}
use Rattle.matching.proofs.LeftParts.{roots_from}
use Rattle.matching.proofs.trees.finder.parted.Given as goal

abbrev pub invariant-loop-i : goal.invariant-loop-i
invariant-loop-i l = record {
  roots : held l.roots ≡ roots_from 0 [] (take l.i l.nodes);
  left : l.left ≡ left_parts (take l.i l.nodes);
  room : length l.nodes ≤ capacity l.roots;
}
