use Rattle.std.proofs.Common.{◌≡◌, ◌+◌, ◌-◌, ◌<◌, [], ◌∷◌, length, get_or, refl, ap, ◌∙◌, arith, ltb-false, ltb-true}
use Rattle.std.proofs.lemmas.List.{nil_from_length}
use Rattle.std.proofs.lemmas.Result.{err_from_is_err_and}
use Rattle.board.proofs.Fronts.{front, rest_of}
use Rattle.processor.specs.Simulations.{simulated, at_instruction}
use Rattle.processor.specs.Simulators.{running_of}
use Rattle.processor.proofs.simulation.simulate.Goals as goal

pub returns-in_err-rest : goal.returns-in_err-rest
returns-in_err-rest g c =
    let p = err_from_is_err_and c.from_residual.result c.from_residual.ensures.1 in
    let d = g.P.Processor.design in
    let rest = c.loop-rest.rest.now in
    let some : 0 < length rest = omega (arith, ltb-true, ltb-false) in
    let s = running_of c.loop-rest.simulator in
    rw (p.1, p.2) (
      refl,
      at_instruction c.if-variables-ne-VARIABLES.false
          (c.loop-rest.invariant.0 ∙ ap (λ l. simulated d (length c.args.words.now - length rest) l s) (front rest some) ∙ c.in_err-rest.ensures),
    )

pub loop-rest-preserved : goal.loop-rest-preserved
loop-rest-preserved g c =
    let d = g.P.Processor.design in
    let words = c.args.words.now in
    let rest = c.loop-rest.rest.now in
    let next = c.in_ok-rest.rest.now in
    let some : 0 < length rest = omega (arith, ltb-true, ltb-false) in
    let s = running_of c.loop-rest.simulator in
    let s' = running_of c.step.new.self in
    let on = c.in_ok-rest.ensures in
    let whole = ap length (front rest some) in
    let place : length words - length rest + (length (get_or rest 0 0 ∷ rest_of rest) - length next) ≡ length words - length next = omega (arith, whole, on.shorter, c.loop-rest.invariant.1) in (
      c.loop-rest.invariant.0 ∙ ap (λ l. simulated d (length words - length rest) l s) (front rest some) ∙ on.goes_to ∙ ap (λ k. simulated d k next s') place,
      omega (arith, whole, on.shorter, c.loop-rest.invariant.1),
    )

pub returns : goal.returns
returns g c =
    let rest = c.loop-rest.rest.now in
    let s = running_of c.loop-rest.simulator in
    let nothing : rest ≡ [] = nil_from_length rest (omega (arith, ltb-true, ltb-false)) in
    record {
      counted = c.if-variables-ne-VARIABLES.false;
      at_end = s;
      goes_through = c.loop-rest.invariant.0 ∙ ap (λ l. simulated g.P.Processor.design (length c.args.words.now - length rest) l s) nothing;
      leaves = c.copy_from_slice-2.ensures.after;
    }
