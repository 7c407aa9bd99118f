use Rattle.std.proofs.Common.{◌≡◌, ◌<◌, true, false, leb, [], ◌∷◌, length, get_or, set, sym, refl, ap, ◌∙◌, arith}
use Rattle.std.proofs.lemmas.Bool.{and_from, le-leb}
use Rattle.board.proofs.Fronts.{rest_of}
use Rattle.processor.specs.Simulations.{store_entry, entry_of, running, carried_out, simulated}
use Rattle.processor.specs.Simulators.{running_of}
use Rattle.processor.proofs.Steps.{goes_with, on_with, taken}
use Rattle.processor.proofs.simulation.Simulator.store_step.Goals as goal

pub returns : goal.returns
returns g c =
    let d = g.P.Processor.design in
    let own = g.P.Processor.own c.args.self.now.processor in
    let s = running_of c.args.self.now in
    let ws = c.args.fetched.after.now in
    let f = c.args.fetched.first in
    let some : 0 < length ws = omega arith in
    let known = ap (entry_of d) c.requires in
    let placed : d.misplaced_at f 1 0 own ≡ false = sym c.misplaced.ensures ∙ c.if-misplaced.false in
    let is = taken c.take.result c.map_err.result c.in_ok-value.value _ _ _ c.take.ensures c.map_err.ensures.cases c.map_err.ensures.variant c.in_ok-value.was in
    let after : carried_out d f (get_or ws 0 0 ∷ []) s store_entry ≡ running (set c.args.self.now.setting (get_or ws 0 0) c.in_ok-value.value) (g.P.Processor.own c.take.new.self) =
    sym (λ i. running (set c.args.self.now.setting (get_or ws 0 0) (is.0 i)) (is.1 i)) in
    on_with d c.args.fetched.place f s _ ws some
    (goes_with d c.args.fetched.place f s store_entry known placed (get_or ws 0 0) (rest_of ws) (omega arith) (and_from (leb (get_or ws 0 0) 63) true (le-leb _ 63 c.if-variable-gt-LAST_VARIABLE.false) refl)
    ∙ ap (simulated d _ (rest_of ws)) after)
