use Rattle.std.proofs.Common.{◌≡◌, ◌-◌, true, length, drop, Ok, Err, sym, refl, ap, ◌∙◌, subst, arith, length-take}
use Rattle.std.proofs.lemmas.Result.{err_from_is_err_and}
use Rattle.description.specs.Outlines.{outline_of}
use Rattle.reader.specs.Lexemes.{well_spelled}
use Rattle.reader.specs.Faults.{fault_number, fault_place}
use Rattle.reader.specs.Reading.{step}
use Rattle.reader.specs.States.{awaits_of, stands, outcome_of, answer_of}
use Rattle.reader.proofs.Turns.{token_spelled, token_inside, same_slice, nothing_stands, reading_starts, turn_falls, turn_again, ends_here, fails_here}
use Rattle.reader.proofs.read.read_lines.Goals as goal

pub loop-token-init : goal.loop-token-init
loop-token-init c =
    let l = c.args.start in
    let d = c.empty.result in (
      length l.text.now - 1,
      omega (arith, c.requires),
      reading_starts l.text.now l.offset _ c.requires l.within (nothing_stands d c.empty.ensures.names c.empty.ensures.rules),
      tt,
      refl,
    )

pub invariant_of-step : goal.invariant_of-step
invariant_of-step c =
    let l = c.loop-token.lexer in
    let bs = l.text.now in
    let a = c.in_ok-token in
    let answer = sym a.ensures.answer in
    let text = ap (λ r. r.now) a.ensures.same_text in
    let there = token_inside bs l.offset a.token a.place a.length l.within answer in record {
      spelled = subst (λ xs. well_spelled a.token xs ≡ true) (sym (same_slice bs c.next.new.self.text.now a.place a.length text))
          (token_spelled bs l.offset a.token a.place a.length l.within answer);
      inside = omega (
        arith,
        ap length (same_slice bs c.next.new.self.text.now a.place a.length text),
        length-take a.length (drop a.place bs),
        there.1,
        ap length c.loop-token.invariant.4,
        c.ranges.start.0,
      );
    }

pub returns-in_err-next : goal.returns-in_err-next
returns-in_err-next c =
    let l = c.loop-token.lexer in
    let a = c.in_ok-token in
    let text = ap (λ r. r.now) a.ensures.same_text in
    let told = err_from_is_err_and c.from_residual-in_err-next.result c.from_residual-in_err-next.ensures.1 in
    let e = c.in_err-next.field-0.0 in
    let s = stands c.loop-token.progress (awaits_of c.loop-token.expect) in
    ap answer_of (told.1 ∙ ap Err told.2)
    ∙ fails_here l.text.now l.offset s c.loop-token.invariant.0 a.token a.place a.length (sym a.ensures.answer) (fault_number e) (fault_place e)
    (c.in_err-next.ensures ∙ ap (step s a.token a.place) (same_slice l.text.now c.next.new.self.text.now a.place a.length text))
    ∙ c.loop-token.invariant.2

pub loop-token-smaller : goal.loop-token-smaller
loop-token-smaller c =
    let l = c.loop-token.lexer in
    let a = c.in_ok-token in
    let text = ap (λ r. r.now) a.ensures.same_text in
    let s = stands c.loop-token.progress (awaits_of c.loop-token.expect) in
    let next = stands c.step.new.self (awaits_of c.in-Some.next) in
    turn_falls l.text.now l.offset a.token a.place a.length c.next.new.self.text.now c.next.new.self.offset l.within (sym a.ensures.answer) text a.ensures.moved s next
    (ap (λ x. outcome_of c.step.new.self (Ok x)) (sym c.in-Some.is) ∙ c.in_ok-next.ensures ∙ ap (step s a.token a.place) (same_slice l.text.now c.next.new.self.text.now a.place a.length text))

pub loop-token-preserved : goal.loop-token-preserved
loop-token-preserved c =
    let l = c.loop-token.lexer in
    let a = c.in_ok-token in
    let text = ap (λ r. r.now) a.ensures.same_text in
    let s = stands c.loop-token.progress (awaits_of c.loop-token.expect) in
    let next = stands c.step.new.self (awaits_of c.in-Some.next) in
    let inv = c.loop-token.invariant in
    let on = turn_again l.text.now l.offset a.token a.place a.length c.next.new.self.text.now c.next.new.self.offset l.within (sym a.ensures.answer) text a.ensures.moved s next
    (ap (λ x. outcome_of c.step.new.self (Ok x)) (sym c.in-Some.is) ∙ c.in_ok-next.ensures ∙ ap (step s a.token a.place) (same_slice l.text.now c.next.new.self.text.now a.place a.length text))
    inv.0 _ inv.1 inv.2 inv.3 in
    (on.0, on.1, on.2, on.3, text ∙ inv.4)

pub returns-in-None : goal.returns-in-None
returns-in-None c =
    let l = c.loop-token.lexer in
    let a = c.in_ok-token in
    let text = ap (λ r. r.now) a.ensures.same_text in
    let s = stands c.loop-token.progress (awaits_of c.loop-token.expect) in
    ends_here l.text.now l.offset s c.loop-token.invariant.0 a.token a.place a.length (sym a.ensures.answer) (outline_of c.step.new.self.description)
    (ap (λ x. outcome_of c.step.new.self (Ok x)) (sym c.in-None.is) ∙ c.in_ok-next.ensures ∙ ap (step s a.token a.place) (same_slice l.text.now c.next.new.self.text.now a.place a.length text))
    ∙ c.loop-token.invariant.2
