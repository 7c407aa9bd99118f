use Rattle.std.proofs.Common.{sym, subst}
use Rattle.board.specs.Acts.{RunFails}
use Rattle.processor.specs.Faults.{simulator_number, simulator_place}
use Rattle.processor.specs.Simulations.{SimulationDenied}
use Rattle.processor.specs.CodedBoards.{code_words, waiting_places}
use Rattle.processor.proofs.Keeping.{run_refused}
use Rattle.processor.proofs.boards.calls.CodedBoardBoard.run.Goals as goal

pub returns-in-Err : goal.returns-in-Err
returns-in-Err g c =
    let b = c.args.self.now in
    let d = g.P.Processor.design in
    let σ = c.args.variables.now in
    let f = c.in-Err.fault in
    let denied = c.in-Err.ensures in
    let as-held = subst (λ ws. SimulationDenied d ws σ (simulator_number f) (simulator_place f)) c.words.ensures.value denied.1 in
    (denied.0, subst (λ p. RunFails σ 34 p) (sym c.place.ensures) (run_refused d g.met.P.Processor.sound (code_words b) (waiting_places b) b.belongs σ (simulator_number f) (simulator_place f) as-held))
