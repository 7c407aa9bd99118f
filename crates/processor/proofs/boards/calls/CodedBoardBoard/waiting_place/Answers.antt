use Rattle.std.proofs.Common.{◌≡◌, MatchOption, subst, sym, ◌<◌, length, get_or, ap, ◌∙◌, arith}
use Rattle.processor.specs.Codes.{decoded}
use Rattle.processor.specs.Soundness.{IsCapital}
use Rattle.processor.specs.CodedBoards.{code_words, waiting_places}
use Rattle.processor.proofs.Letters.{has_place, place_if_made}
use Rattle.processor.proofs.boards.calls.CodedBoardBoard.waiting_place.Goals as goal

pub returns : goal.returns
returns g c =
    let b = c.args.self.now in
    let i = c.args.depth in
    let found = c.in_ok-letter.ensures.lookup in
    let there : i < length (waiting_places b) = omega (arith, found.3.0, ap length c.as_slice.ensures.value) in
    has_place g.P.Processor.design g.met.P.Processor.result_places (waiting_places b) (decoded g.P.Processor.design (code_words b)) b.belongs.2 i c.in_ok-letter.letter.now there
    (found.3.1 0 ∙ ap (λ w. get_or w i 0) c.as_slice.ensures.value) c.ok.result
    (subst (λ o. MatchOption o (IsCapital c.in_ok-letter.letter.now → ⊥) (λ p. p.letter ≡ c.in_ok-letter.letter.now)) (sym c.ok.ensures.value) (place_if_made c.in_ok-letter.letter.now c.try_from.result c.try_from.ensures))
