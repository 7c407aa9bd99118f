use Rattle.std.proofs.Common.{◌≡◌, drop}
use Rattle.board.specs.Instructions.{leaf_list}
use Rattle.board.specs.Payloads.{admits_all}
use Rattle.board.proofs.instructions.checks.payloads_admitted.Given as goal

abbrev pub invariant-loop-item : goal.invariant-loop-item
invariant-loop-item l = admits_all (leaf_list l.items) l.payloads ≡ admits_all (leaf_list (drop l.item-index l.items)) l.rest
