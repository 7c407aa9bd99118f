use Rattle.std.proofs.Common.{◌≡◌, ◌+◌, ◌<◌, [], ◌∷◌, length, get_or, sym, ap, ◌∙◌, arith, ltb-false, ltb-true}
use Rattle.std.proofs.lemmas.Bool.{both_ways}
use Rattle.std.proofs.lemmas.List.{nil_from_length}
use Rattle.board.specs.Machines.{leaf_total}
use Rattle.board.proofs.Fronts.{front, rest_of}
use Rattle.processor.specs.Simulations.{operation_entry, running, simulated}
use Rattle.processor.proofs.Judging.{leaf_total_is, admits_at}
use Rattle.processor.proofs.Steps.{misplaced_stops, payload_missing, payload_stops, goes_with, goes_alone, on_alone, on_with, carried, asked_at}
use Rattle.processor.proofs.simulation.Simulator.operation_step.Goals as goal

pub returns-then-misplaced : goal.returns-then-misplaced
returns-then-misplaced g c =
    let d = g.P.Processor.design in
    let o = c.requires.0 in
    let own = g.P.Processor.own c.args.self.now.processor in
    misplaced_stops d c.args.fetched.place c.args.fetched.first (running c.args.self.now.setting own) (operation_entry o) c.requires.1 c.args.fetched.after.now
    (asked_at d c.args.instruction.now o c.requires.2 c.args.fetched.first own c.misplaced.ensures c.if-misplaced.true)

pub returns-then-instruction-eq0 : goal.returns-then-instruction-eq0
returns-then-instruction-eq0 g c =
    let d = g.P.Processor.design in
    let o = c.requires.0 in
    let f = c.args.fetched.first in
    let own = g.P.Processor.own c.args.self.now.processor in
    let σ = c.args.self.now.setting in
    let placed = asked_at d c.args.instruction.now o c.requires.2 f own c.misplaced.ensures c.if-misplaced.false in
    let none : leaf_total o ≡ 0 = sym (leaf_total_is c.args.instruction.now o c.requires.2) ∙ c.if-instruction-eq0.true in
    let done = carried c.apply.result _ _ _ (c.apply.ensures o c.requires.2) (both_ways _ placed) in
    on_alone d c.args.fetched.place f (running σ own) _ c.args.fetched.after.now
    (goes_alone d c.args.fetched.place f (running σ own) (operation_entry o) c.requires.1 placed c.args.fetched.after.now none
    ∙ ap (λ w. simulated d (c.args.fetched.place + 1) c.args.fetched.after.now (running σ w)) (sym done))

pub returns-in_default : goal.returns-in_default
returns-in_default g c =
    let d = g.P.Processor.design in
    let o = c.requires.0 in
    let f = c.args.fetched.first in
    let own = g.P.Processor.own c.args.self.now.processor in
    let s = running c.args.self.now.setting own in
    let ws = c.args.fetched.after.now in
    let placed = asked_at d c.args.instruction.now o c.requires.2 f own c.misplaced.ensures c.if-misplaced.false in
    let nothing : ws ≡ [] = nil_from_length ws (omega (arith, ltb-true, ltb-false)) in
    ap (λ l. simulated d c.args.fetched.place (f ∷ l) s) nothing
    ∙ payload_missing d c.args.fetched.place f s (operation_entry o) c.requires.1 placed (omega (arith, leaf_total_is c.args.instruction.now o c.requires.2, c.if-instruction-eq0.false))

pub returns-then-not-admits : goal.returns-then-not-admits
returns-then-not-admits g c =
    let d = g.P.Processor.design in
    let o = c.requires.0 in
    let f = c.args.fetched.first in
    let own = g.P.Processor.own c.args.self.now.processor in
    let s = running c.args.self.now.setting own in
    let ws = c.args.fetched.after.now in
    let some : 0 < length ws = omega (arith, ltb-true, ltb-false) in
    let placed = asked_at d c.args.instruction.now o c.requires.2 f own c.misplaced.ensures c.if-misplaced.false in
    let barred = admits_at c.args.instruction.now o c.requires.2 (get_or ws 0 0 ∷ []) c.admits.ensures c.if-not-admits.true in
    ap (λ l. simulated d c.args.fetched.place (f ∷ l) s) (front ws some)
    ∙ payload_stops d c.args.fetched.place f s (operation_entry o) c.requires.1 placed (get_or ws 0 0) (rest_of ws) (omega (arith, leaf_total_is c.args.instruction.now o c.requires.2, c.if-instruction-eq0.false)) barred

pub returns : goal.returns
returns g c =
    let d = g.P.Processor.design in
    let o = c.requires.0 in
    let f = c.args.fetched.first in
    let own = g.P.Processor.own c.args.self.now.processor in
    let σ = c.args.self.now.setting in
    let ws = c.args.fetched.after.now in
    let some : 0 < length ws = omega (arith, ltb-true, ltb-false) in
    let placed = asked_at d c.args.instruction.now o c.requires.2 f own c.misplaced.ensures c.if-misplaced.false in
    let admitted-one = admits_at c.args.instruction.now o c.requires.2 (get_or ws 0 0 ∷ []) c.admits.ensures c.if-not-admits.false in
    let done = carried c.apply-2.result _ _ _ (c.apply-2.ensures o c.requires.2) (both_ways _ placed) in
    on_with d c.args.fetched.place f (running σ own) _ ws some
    (goes_with d c.args.fetched.place f (running σ own) (operation_entry o) c.requires.1 placed (get_or ws 0 0) (rest_of ws) (omega (arith, leaf_total_is c.args.instruction.now o c.requires.2, c.if-instruction-eq0.false)) admitted-one
    ∙ ap (λ w. simulated d (c.args.fetched.place + 2) (rest_of ws) (running σ w)) (sym done))
