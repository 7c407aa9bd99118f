-- A board after an issue and after a store.
use Rattle.std.proofs.Common.{◌≡◌, ℕ, ◌+◌, ◌-◌, ◌≤◌, List, [], ◌∷◌, ◌++◌, length, take, Some, None, Option, MatchOption, sym, ap, ◌∙◌, subst, arith, length-append, length-take, length-drop}
use Rattle.std.proofs.Math.Seq.{take-append_seam}
use Rattle.board.specs.Machines.{arity, leaf_total}
use Rattle.board.specs.Acts.{before_last, Issued, Stored}
use Rattle.processor.specs.declared.Processor.{Ghosts}
use Rattle.processor.specs.declared.boards.CodedBoard.{CodedBoard}
use Rattle.processor.specs.declared.requests.Emission.{Emission}
use Rattle.processor.specs.Soundness.{Sound, issue_word, store_word}
use Rattle.processor.specs.Boards.{state_of, Belongs}
use Rattle.processor.specs.Requests.{Emits, EmitsStore}
use Rattle.processor.specs.CodedBoards.{code_words, beyond_code, waiting_places, board_state, Grew}
use Rattle.processor.proofs.Keeping.{issue_belongs, issued, store_belongs, stored}

-- what waits below the last one
below_last : {X : Type 0} (w v : List X) (x : X) → w ≡ v ++ x ∷ [] → v ≡ before_last 1 w
below_last w v x e =
    let shorter : length v ≡ length w - 1 = omega (arith, ap length e, length-append v (x ∷ [])) in
    sym (ap (λ n. take n w) (sym shorter) ∙ ap (λ ys. take (length v) ys) e ∙ take-append_seam v (x ∷ []))

-- what a pop leaves
pub popped : {X : Type 0} (w v : List X) (r : Option X) → MatchOption r ((w ≡ []) × (v ≡ [])) (λ x. w ≡ v ++ x ∷ []) → v ≡ before_last 1 w
popped w v None h = h.1 ∙ sym (ap (before_last 1) h.0)
popped w v (Some x) h = below_last w v x h

module _ {P : Type 0} {by : Ghosts P} (sound : Sound by.design) (b : CodedBoard P by) where
  -- what a board that grew paid
  paid_for : (us w : List ℕ) (after : CodedBoard P by) → Grew b us w after → length us ≤ length (beyond_code b) → length (beyond_code b) ≡ length (beyond_code after) + length us
  paid_for us w after g fits = omega (arith, fits, ap length g.wrote.rest_kept, length-drop (length us) (beyond_code b))

  -- as a call finds the board
  module _ (w : List ℕ) (free : ℕ) (waiting : w ≡ waiting_places b) (left : free ≡ length (beyond_code b)) where
    pub emits_here : (op a c : ℕ) (e : Emission) → Emits by.design w free op a c e → Emits by.design (waiting_places b) (length (beyond_code b)) op a c e
    emits_here op a c e em =
        subst (λ n. Emits by.design (waiting_places b) n op a c e) left (subst (λ x. Emits by.design x free op a c e) waiting em)

    pub emits_store_here : (v : ℕ) (us : List ℕ) → EmitsStore by.design w free v us → EmitsStore by.design (waiting_places b) (length (beyond_code b)) v us
    emits_store_here v us em =
        subst (λ n. EmitsStore by.design (waiting_places b) n v us) left (subst (λ x. EmitsStore by.design x free v us) waiting em)

  module _ (op a c : ℕ) (e : Emission) (em : Emits by.design (waiting_places b) (length (beyond_code b)) op a c e) where
    words_counted : length e.words ≡ 1 + leaf_total em.by
    words_counted =
        omega (arith, sound.one_payload op em.by em.allowed.is, ap length em.words_are, length-take (leaf_total em.by) (a ∷ c ∷ []))

    pub issue_fits : length e.words ≤ length (beyond_code b)
    issue_fits = omega (arith, words_counted, em.allowed.room)

    module _ (us w : List ℕ) (same : us ≡ e.words) (waits : w ≡ take e.below (waiting_places b) ++ e.result ∷ []) where
      waits_same : before_last (arity em.by) (waiting_places b) ++ em.by.result_letter ∷ [] ≡ w
      waits_same = sym (waits ∙ (λ i. take (em.below_is i) (waiting_places b) ++ em.result_is i ∷ []))

      pub issue_grows : Belongs by.design (code_words b ++ us) w
      issue_grows =
          subst (λ xs. Belongs by.design (code_words b ++ xs) w) (sym (same ∙ em.words_are))
          (subst (λ x. Belongs by.design (code_words b ++ issue_word by.design op em.by (waiting_places b) ∷ take (leaf_total em.by) (a ∷ c ∷ [])) x) waits_same
          (issue_belongs by.design sound (code_words b) (waiting_places b) b.belongs (length (beyond_code b)) op a c em.by em.allowed))

      module _ (after : CodedBoard P by) (g : Grew b us w after) where
        pub issue_done : Issued by.design.fixed_part (board_state b) op a c (board_state after)
        issue_done =
            let counted : length us ≡ 1 + leaf_total em.by = ap length same ∙ words_counted in
            let paid = paid_for us w after g (omega (arith, ap length same, issue_fits)) in
            subst (λ x. Issued by.design.fixed_part (board_state b) op a c (state_of by.design (code_words after) (length (beyond_code after)) x)) (waits_same ∙ sym g.waits)
            (subst (λ xs. Issued by.design.fixed_part (board_state b) op a c (state_of by.design xs (length (beyond_code after)) (before_last (arity em.by) (waiting_places b) ++ em.by.result_letter ∷ [])))
            (sym (g.wrote.words_gained ∙ ap (λ xs. code_words b ++ xs) (same ∙ em.words_are)))
            (issued by.design sound (code_words b) (waiting_places b) b.belongs (length (beyond_code b)) op a c em.by em.allowed (length (beyond_code after)) (omega (arith, paid, counted))))

  module _ (v : ℕ) (us : List ℕ) (em : EmitsStore by.design (waiting_places b) (length (beyond_code b)) v us) where
    pub store_fits : length us ≤ length (beyond_code b)
    store_fits = omega (arith, ap length em.words_are, em.allowed.room)

    module _ (w : List ℕ) (waits : w ≡ before_last 1 (waiting_places b)) where
      pub store_grows : Belongs by.design (code_words b ++ us) w
      store_grows =
          subst (λ xs. Belongs by.design (code_words b ++ xs) w) (sym em.words_are)
          (subst (λ x. Belongs by.design (code_words b ++ store_word by.design (waiting_places b) ∷ v ∷ []) x) (sym waits)
          (store_belongs by.design sound (code_words b) (waiting_places b) b.belongs (length (beyond_code b)) v em.allowed))

      module _ (after : CodedBoard P by) (g : Grew b us w after) where
        pub store_done : Stored by.design.fixed_part (board_state b) v (board_state after)
        store_done =
            let paid = paid_for us w after g store_fits in
            subst (λ x. Stored by.design.fixed_part (board_state b) v (state_of by.design (code_words after) (length (beyond_code after)) x)) (sym (g.waits ∙ waits))
            (subst (λ xs. Stored by.design.fixed_part (board_state b) v (state_of by.design xs (length (beyond_code after)) (before_last 1 (waiting_places b))))
            (sym (g.wrote.words_gained ∙ ap (λ xs. code_words b ++ xs) em.words_are))
            (stored by.design sound (code_words b) (waiting_places b) b.belongs (length (beyond_code b)) v em.allowed (length (beyond_code after)) (omega (arith, paid, ap length em.words_are))))
