use Rattle.std.proofs.Common.{[], ◌∷◌, sym, arith}
use Rattle.std.proofs.lemmas.Bool.{ltb-true, ltb-false}
use Rattle.board.specs.Machines.{operand_letters}
use Rattle.processor.proofs.Judging.{arity_is, leaf_total_is, waits_from, lacks_from, admits_at, enough_wait, refused_operands, refused_payload, refused_depth, refused_room}
use Rattle.processor.proofs.requests.Room.allowed.Goals as goal

pub returns-then-not-operands_wait : goal.returns-then-not-operands_wait
returns-then-not-operands_wait g c =
    let found = c.in-Some.ensures in
    let w = c.args.self.now.waiting.now in
    refused_operands _ w c.args.self.now.free c.args.request.opcode c.args.request.first c.args.request.second found.0 found.1
    (lacks_from c.in-Some.instruction found.0 found.2 w (sym c.if-not-operands_wait.ensures))

pub returns-then-not-admits : goal.returns-then-not-admits
returns-then-not-admits g c =
    let found = c.in-Some.ensures in
    let w = c.args.self.now.waiting.now in
    let i = c.in-Some.instruction in
    refused_payload _ w c.args.self.now.free c.args.request.opcode c.args.request.first c.args.request.second found.0 found.1
    (waits_from i found.0 found.2 w (sym c.if-not-operands_wait.ensures))
    (admits_at i found.0 found.2 (c.args.request.first ∷ c.args.request.second ∷ []) c.admits.ensures c.if-not-admits.true)

pub overflow_sub-depth : goal.overflow_sub-depth
overflow_sub-depth g c =
    let found = c.in-Some.ensures in
    let w = c.args.self.now.waiting.now in
    let i = c.in-Some.instruction in
    let o = found.0 in
    let enough = enough_wait w (operand_letters o) (waits_from i o found.2 w (sym c.if-not-operands_wait.ensures)) in
    omega (arith, enough, arity_is i o found.2)

pub returns-then-beyond_limit : goal.returns-then-beyond_limit
returns-then-beyond_limit g c =
    let found = c.in-Some.ensures in
    let w = c.args.self.now.waiting.now in
    let i = c.in-Some.instruction in
    refused_depth _ w c.args.self.now.free c.args.request.opcode c.args.request.first c.args.request.second found.0 found.1
    (waits_from i found.0 found.2 w (sym c.if-not-operands_wait.ensures))
    (admits_at i found.0 found.2 (c.args.request.first ∷ c.args.request.second ∷ []) c.admits.ensures c.if-not-admits.false)
    (omega (arith, arity_is i found.0 found.2, ltb-true _ _ (sym c.if-beyond_limit.ensures)))

pub returns-then-lacks_room : goal.returns-then-lacks_room
returns-then-lacks_room g c =
    let found = c.in-Some.ensures in
    let w = c.args.self.now.waiting.now in
    let i = c.in-Some.instruction in
    refused_room _ w c.args.self.now.free c.args.request.opcode c.args.request.first c.args.request.second found.0 found.1
    (waits_from i found.0 found.2 w (sym c.if-not-operands_wait.ensures))
    (admits_at i found.0 found.2 (c.args.request.first ∷ c.args.request.second ∷ []) c.admits.ensures c.if-not-admits.false)
    (omega (arith, arity_is i found.0 found.2, ltb-false _ _ (sym c.if-beyond_limit.ensures)))
    (omega (arith, leaf_total_is i found.0 found.2, ltb-true _ _ (sym c.if-lacks_room.ensures)))

pub returns : goal.returns
returns g c =
    let found = c.in-Some.ensures in
    let w = c.args.self.now.waiting.now in
    let i = c.in-Some.instruction in
    record {
      by = found.0;
      allowed = record {
        is = found.1;
        operands_wait = waits_from i found.0 found.2 w (sym c.if-not-operands_wait.ensures);
        admitted_both = admits_at i found.0 found.2 (c.args.request.first ∷ c.args.request.second ∷ []) c.admits.ensures c.if-not-admits.false;
        shallow = omega (arith, arity_is i found.0 found.2, ltb-false _ _ (sym c.if-beyond_limit.ensures));
        room = omega (arith, leaf_total_is i found.0 found.2, ltb-false _ _ (sym c.if-lacks_room.ensures));
      };
      is = found.2;
    }
