use Rattle.std.proofs.Common.{◌≡◌, ◌+◌, ◌≤◌, [], ◌∷◌, length, drop}
use Rattle.tree.specs.Stacks.{held, capacity}
use Rattle.matching.specs.Found.{operands_found, payloads_found}
use Rattle.pattern.specs.Items.{count_of_leaves, count_of_operands}
use Rattle.matching.specs.Steps.{found_from}
use Rattle.matching.proofs.Steps.{Nodes}
use Rattle.matching.proofs.search.found_at.Given as goal

abbrev pub invariant-loop-item : goal.invariant-loop-item
invariant-loop-item l = record {
  same : found_from l.tree l.items (l.node ∷ []) [] [] ≡ found_from l.tree (drop l.item-index l.items) (held l.waiting) (operands_found l.found) (payloads_found l.found);
  inside : Nodes l.tree (held l.waiting);
  few : length (held l.waiting) ≤ l.item-index + 1;
  size : capacity l.waiting ≡ 8;
  operands_fit : length (operands_found l.found) + count_of_operands (drop l.item-index l.items) ≤ 2;
  leaves_fit : length (payloads_found l.found) + count_of_leaves (drop l.item-index l.items) ≤ 2;
}
