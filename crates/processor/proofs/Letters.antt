-- The letters of the operands that wait are capitals, so that each makes a PLACE.
use Rattle.std.proofs.Common.{◌≡◌, ℕ, ◌<◌, ◌≤◌, List, [], ◌∷◌, length, get_or, Ok, Err, Some, None, Option, Result, MatchResult, sym, refl, ◌∙◌, subst, MatchOption}
use Rattle.std.specs.Result.{result_ok}
use Rattle.std.specs.List.{AllByRecursion}
use Rattle.std.proofs.ByRecursion.{All-take, All-push, All-get_or}
use Rattle.pattern.specs.declared.places.Place.{Place}
use Rattle.board.specs.Machines.{Operation, operation_of, arity}
use Rattle.board.specs.States.{Act, did_issue, did_store}
use Rattle.board.specs.Acts.{before_last}
use Rattle.processor.specs.Designs.{Design}
use Rattle.processor.specs.Codes.{waiting_by, waiting_after_all}
use Rattle.processor.specs.Soundness.{IsCapital, ResultsInPlaces}

-- what is so of the letters of all results is so of all that wait
module _ (d : Design) (Q : ℕ → Type 0) (results : (n : ℕ) (o : Operation) → operation_of d.fixed_part n ≡ Some o → Q o.result_letter) where
  letters_by : (n : ℕ) (w : List ℕ) → AllByRecursion Q w → (r : Option Operation) → operation_of d.fixed_part n ≡ r → AllByRecursion Q (waiting_by w r)
  letters_by n w h None e = h
  letters_by n w h (Some o) e = All-push Q (before_last (arity o) w) o.result_letter (All-take Q _ w h) (results n o e)

  letters_wait : (w : List ℕ) (code : List Act) → AllByRecursion Q w → AllByRecursion Q (waiting_after_all d.fixed_part w code)
  letters_wait w [] h = h
  letters_wait w (did_issue op ps ∷ rest) h =
      letters_wait (waiting_by w (operation_of d.fixed_part op)) rest (letters_by op w h (operation_of d.fixed_part op) refl)
  letters_wait w (did_store v ∷ rest) h = letters_wait (before_last 1 w) rest (All-take Q _ w h)

  -- w are the letters that wait after some code
  pub letters_all : (w : List ℕ) (code : List Act) → waiting_after_all d.fixed_part [] code ≡ w → AllByRecursion Q w
  letters_all w code waits = subst (AllByRecursion Q) waits (letters_wait [] code tt)

module _ (d : Design) (results : ResultsInPlaces d) where
  letter_capital : (w : List ℕ) (code : List Act) → waiting_after_all d.fixed_part [] code ≡ w → (i : ℕ) → i < length w → IsCapital (get_or w i 0)
  letter_capital w code waits i there = All-get_or IsCapital w i 0 there (letters_all d IsCapital results w code waits)

  -- a is the letter at depth i
  pub has_place : (w : List ℕ) (code : List Act) → waiting_after_all d.fixed_part [] code ≡ w → (i a : ℕ) → i < length w → a ≡ get_or w i 0 → (r : Option Place) → MatchOption r (IsCapital a → ⊥) (λ p. p.letter ≡ a) → MatchOption r (length w ≤ i) (λ p. (i < length w) × (p.letter ≡ get_or w i 0))
  has_place w code waits i a there at None none = absurd (none (subst IsCapital (sym at) (letter_capital w code waits i there)))
  has_place w code waits i a there at (Some p) is = (there, is ∙ at)

-- the PLACE that a letter is made into, if it is
pub place_if_made : {E : Type 0} (a : ℕ) (r : Result Place E) → MatchResult r (λ p. p.letter ≡ a) (λ _. IsCapital a → ⊥) → MatchOption (result_ok r) (IsCapital a → ⊥) (λ p. p.letter ≡ a)
place_if_made a (Ok p) is = is
place_if_made a (Err e) none = none
