use Rattle.std.proofs.Common.{[], ◌∷◌, ap, ◌∙◌, arith}
use Rattle.std.proofs.lemmas.List.{length-map}
use Rattle.description.specs.Outlines.{part_of}
use Rattle.reader.specs.Reading.{operands_among, leaves_among}
use Rattle.reader.specs.States.{draft_of}
use Rattle.reader.proofs.Parts.{operand_is, leaf_is, operands_append, leaves_append, operands_few, leaves_few, limits_kept, too_many_items, too_many_operands, too_many_leaves}
use Rattle.reader.proofs.Rowed.{grown}
use Rattle.reader.proofs.sketches.Sketch.gain.Goals as goal
use Rattle.reader.proofs.sketches.Sketch.gain.Goals.{then-len-eq-ITEM_LIMIT-via-then-len-eq-ITEM_LIMIT, then-len-eq-ITEM_LIMIT-via-else-len-eq-ITEM_LIMIT+then-operands-gt-OPERAND_LIMIT, then-len-eq-ITEM_LIMIT-via-else-len-eq-ITEM_LIMIT+else-operands-gt-OPERAND_LIMIT+then-leaves-gt-LEAF_LIMIT}

pub overflow_add-operands : goal.overflow_add-operands
overflow_add-operands c =
    let d = c.args.self in
    omega (arith, operand_is c.args.item, operands_few (draft_of d).so_far, operands_few (part_of c.args.item ∷ []), length-map d.items part_of)

pub overflow_add-leaves : goal.overflow_add-leaves
overflow_add-leaves c =
    let d = c.args.self in
    omega (arith, leaf_is c.args.item, leaves_few (draft_of d).so_far, leaves_few (part_of c.args.item ∷ []), length-map d.items part_of)

pub returns-then-len-eq-ITEM_LIMIT-clause-limits : goal.returns-then-len-eq-ITEM_LIMIT-clause-limits
returns-then-len-eq-ITEM_LIMIT-clause-limits c =
    let d = c.args.self in
    let x = part_of c.args.item in
    elim c.then-len-eq-ITEM_LIMIT.branch [
      | then-len-eq-ITEM_LIMIT-via-then-len-eq-ITEM_LIMIT w ↦ too_many_items (draft_of d).so_far x (omega (arith, w.if-len-eq-ITEM_LIMIT.true, c.len.ensures.value, length-map d.items part_of))
      | then-len-eq-ITEM_LIMIT-via-else-len-eq-ITEM_LIMIT+then-operands-gt-OPERAND_LIMIT w ↦ too_many_operands (draft_of d).so_far x (omega (arith, operand_is c.args.item, w.if-operands-gt-OPERAND_LIMIT.true))
      | then-len-eq-ITEM_LIMIT-via-else-len-eq-ITEM_LIMIT+else-operands-gt-OPERAND_LIMIT+then-leaves-gt-LEAF_LIMIT w ↦ too_many_leaves (draft_of d).so_far x (omega (arith, leaf_is c.args.item, w.if-leaves-gt-LEAF_LIMIT.true))
    ]

pub invariant_of-self : goal.invariant_of-self
invariant_of-self c =
    let d = c.args.self in
    let more = grown c.push.result _ _ _ c.push.ensures (λ full. c.if-len-eq-ITEM_LIMIT.false (c.len.ensures.value ∙ full)) in record {
      few = omega (arith, more.count, c.len.ensures.value, c.len.ensures.within, c.if-len-eq-ITEM_LIMIT.false);
      counted = omega (arith, d.counted, ap operands_among more.parts, operands_append (draft_of d).so_far (part_of c.args.item ∷ []), operand_is c.args.item);
      tallied = omega (arith, d.tallied, ap leaves_among more.parts, leaves_append (draft_of d).so_far (part_of c.args.item ∷ []), leaf_is c.args.item);
      laid = omega (arith, more.count, d.laid);
    }

pub returns : goal.returns
returns c =
    let d = c.args.self in
    let more = grown c.push.result _ _ _ c.push.ensures (λ full. c.if-len-eq-ITEM_LIMIT.false (c.len.ensures.value ∙ full)) in
    let parts = more.parts in record {
      limits = (
        limits_kept (draft_of d).so_far (part_of c.args.item) (omega (arith, c.len.ensures.value, c.len.ensures.within, c.if-len-eq-ITEM_LIMIT.false, length-map d.items part_of))
            (omega (arith, d.counted, operand_is c.args.item)) (omega (arith, d.tallied, leaf_is c.args.item)),
        λ i. record { left_name = d.left; so_far = parts i; brackets = (draft_of d).brackets },
      );
      room = omega (arith, more.count, d.laid);
    }
