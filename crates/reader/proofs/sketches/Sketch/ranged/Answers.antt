use Rattle.std.proofs.Common.{sym, ap, ◌∙◌, arith}
use Rattle.reader.specs.Reading.{operands_among, leaves_among}
use Rattle.reader.specs.States.{draft_of}
use Rattle.reader.proofs.Parts.{operands_replaced, leaves_replaced}
use Rattle.reader.proofs.Rowed.{swapped}
use Rattle.reader.proofs.sketches.Sketch.ranged.Goals as goal

pub invariant_of-self : goal.invariant_of-self
invariant_of-self c =
    let d = c.args.self in
    let i = c.args.interval in
    let same = swapped c.pop.result c.push.result _ _ _ _ c.pop.ensures c.push.ensures c.requires d.few in record {
      few = omega (arith, same.count, d.few);
      counted = d.counted ∙ sym (ap operands_among same.parts ∙ operands_replaced _ c.requires i.low i.high);
      tallied = d.tallied ∙ sym (ap leaves_among same.parts ∙ leaves_replaced _ c.requires i.low i.high);
      laid = omega (arith, same.count, d.laid);
    }

pub returns : goal.returns
returns c =
    let d = c.args.self in
    let same = (swapped c.pop.result c.push.result _ _ _ _ c.pop.ensures c.push.ensures c.requires d.few).parts in
    λ i. record { left_name = d.left; so_far = same i; brackets = (draft_of d).brackets }
