use Rattle.processor.proofs.Growth.{emits_store_here, popped, store_grows, store_done}
use Rattle.processor.proofs.boards.calls.CodedBoardBoard.store.Goals as goal

pub append-requires-clause-belongs : goal.append-requires-clause-belongs
append-requires-clause-belongs g c =
    let b = c.args.self.now in
    store_grows g.met.P.Processor.sound b c.args.variable c.in_ok-words.words
    (emits_store_here g.met.P.Processor.sound b _ _ c.room.ensures.waiting c.room.ensures.free _ _ c.in_ok-words.ensures)
    _ (popped _ _ c.pop.result c.pop.ensures)

pub returns-clause-outcome : goal.returns-clause-outcome
returns-clause-outcome g c =
    let b = c.args.self.now in
    store_done g.met.P.Processor.sound b c.args.variable c.in_ok-words.words
    (emits_store_here g.met.P.Processor.sound b _ _ c.room.ensures.waiting c.room.ensures.free _ _ c.in_ok-words.ensures)
    _ (popped _ _ c.pop.result c.pop.ensures) c.append.new.self c.append.ensures
