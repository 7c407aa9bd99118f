use Rattle.std.proofs.Common.{ap, ◌∙◌, ◌++◌, ◌∷◌, []}
use Rattle.processor.proofs.Growth.{emits_here, issue_grows, issue_done}
use Rattle.processor.proofs.boards.calls.CodedBoardBoard.issue.Goals as goal

pub append-requires-clause-belongs : goal.append-requires-clause-belongs
append-requires-clause-belongs g c =
    let b = c.args.self.now in
    let e = c.in_ok-emission.emission in
    issue_grows g.met.P.Processor.sound b c.args.opcode c.args.first c.args.second e
    (emits_here g.met.P.Processor.sound b _ _ c.room.ensures.waiting c.room.ensures.free _ _ _ e c.in_ok-emission.ensures)
    _ _ c.as_slice.ensures.value (c.in-Ok.ensures ∙ ap (λ ws. ws ++ e.result ∷ []) c.truncate.ensures)

pub returns-clause-outcome : goal.returns-clause-outcome
returns-clause-outcome g c =
    let b = c.args.self.now in
    let e = c.in_ok-emission.emission in
    issue_done g.met.P.Processor.sound b c.args.opcode c.args.first c.args.second e
    (emits_here g.met.P.Processor.sound b _ _ c.room.ensures.waiting c.room.ensures.free _ _ _ e c.in_ok-emission.ensures)
    _ _ c.as_slice.ensures.value (c.in-Ok.ensures ∙ ap (λ ws. ws ++ e.result ∷ []) c.truncate.ensures) c.append.new.self c.append.ensures
