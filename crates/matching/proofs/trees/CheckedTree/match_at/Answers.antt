use Rattle.std.proofs.Common.{sym, ◌∙◌, arith}
use Rattle.matching.proofs.Steps.{answered}
use Rattle.matching.proofs.trees.CheckedTree.match_at.Goals as goal

pub returns : goal.returns
returns c = record {
  past_end = λ h. absurd (omega (arith, c.if-node-len.false));
  at_node = λ q u n e s. answered c.args.self.now q _ (e ∙ sym c.as_slice.ensures.value) s c.found_at.result c.found_at.ensures;
}
