-- A board's words and waiting PLACES belong together after every call, and its state changes as the calls promise.
use Rattle.std.proofs.Common.{◌≡◌, ℕ, ◌+◌, true, eqb, List, [], ◌∷◌, ◌++◌, length, take, Some, sym, refl, ap, ◌∙◌, subst, arith, length-take}
use Rattle.std.specs.Str.{bytes_eq}
use Rattle.std.proofs.lemmas.Slice.Eq.{bytes_eq-Decides}
use Rattle.std.proofs.lemmas.Bool.{and_from, eq-eqb, le-leb}
use Rattle.board.specs.Machines.{Machine, Operation, operand_letters, operation_leaves, arity, leaf_total}
use Rattle.board.specs.Payloads.{admits_all}
use Rattle.board.specs.States.{Act, did_issue, did_store, Outcome, end_from}
use Rattle.board.specs.Acts.{last_of, before_last, Issued, Stored, RunFails, wrong_count}
use Rattle.processor.specs.Designs.{Design}
use Rattle.processor.specs.Simulations.{left, refused_at, SimulationDenied, of_count, at_instruction, Simulated}
use Rattle.processor.specs.Codes.{issue_taken, taken, waiting_by, waiting_after, all_taken, waiting_after_all, operands_by, issue_words, act_words, encoded, decoded}
use Rattle.processor.specs.Soundness.{Sound, issue_word, store_word}
use Rattle.processor.specs.Boards.{outcome_by, state_of, Belongs, IssueAllowed, StoreAllowed}
use Rattle.processor.specs.Meanings.{meant_by, meant, meant_all, untouched}
use Rattle.processor.specs.Lines.{decoded-encoded, encoded_push, taken_push, waiting_push}
use Rattle.processor.specs.Lawful.{words_run, effect_meant}
use Rattle.processor.proofs.Spare.{value_spare, admits_spare}
use Rattle.processor.proofs.Judging.{issue_granted, store_granted}

meant_push : (m : Machine) (x : Outcome) (code : List Act) (a : Act) → meant_all m x (code ++ a ∷ []) ≡ meant m (meant_all m x code) a
meant_push m x [] a = refl
meant_push m x (b ∷ rest) a = meant_push m (meant m x b) rest a

module _ (d : Design) (sound : Sound d) (ws w : List ℕ) (belongs : Belongs d ws w) where
  -- one act more
  module _ (a : Act) (t : taken d.fixed_part w a ≡ true) where
    here : taken d.fixed_part (waiting_after_all d.fixed_part [] (decoded d ws)) a ≡ true
    here = ap (λ w'. taken d.fixed_part w' a) belongs.2 ∙ t

    all : all_taken d.fixed_part [] (decoded d ws ++ a ∷ []) ≡ true
    all = taken_push d.fixed_part [] (decoded d ws) a belongs.1 here

    words_more : encoded d [] (decoded d ws ++ a ∷ []) ≡ ws ++ act_words d w a
    words_more = encoded_push d [] (decoded d ws) a ∙ (λ i. belongs.0 i ++ act_words d (belongs.2 i) a)

    pub decoded_more : decoded d (ws ++ act_words d w a) ≡ decoded d ws ++ a ∷ []
    decoded_more = ap (decoded d) (sym words_more) ∙ decoded-encoded d sound [] (decoded d ws ++ a ∷ []) all

    pub belongs_more : Belongs d (ws ++ act_words d w a) (waiting_after d.fixed_part w a)
    belongs_more = (
      ap (encoded d []) decoded_more ∙ words_more,
      ap (all_taken d.fixed_part []) decoded_more ∙ all,
      ap (waiting_after_all d.fixed_part []) decoded_more ∙ waiting_push d.fixed_part [] (decoded d ws) a ∙ ap (λ w'. waiting_after d.fixed_part w' a) belongs.2,
    )

module _ (d : Design) (sound : Sound d) (ws w : List ℕ) (belongs : Belongs d ws w) (free : ℕ) where
  -- the effect of one act more
  effect_more : (a : Act) (t : taken d.fixed_part w a ≡ true) (free' : ℕ) (σ : List ℕ) → (state_of d (ws ++ act_words d w a) free' (waiting_after d.fixed_part w a)).effect σ ≡ meant d.fixed_part ((state_of d ws free w).effect σ) a
  effect_more a t free' σ =
      effect_meant d sound _ _ (belongs_more d sound ws w belongs a t) free' σ
      ∙ ap (meant_all d.fixed_part (untouched σ)) (decoded_more d sound ws w belongs a t)
      ∙ meant_push d.fixed_part (untouched σ) (decoded d ws) a
      ∙ ap (λ x. meant d.fixed_part x a) (sym (effect_meant d sound ws w belongs free σ))

  module _ (op a b : ℕ) (o : Operation) (h : IssueAllowed d.fixed_part w free op a b o) where
    abbrev used : List ℕ
    used = take (leaf_total o) (a ∷ b ∷ [])

    issue_is_taken : taken d.fixed_part w (did_issue op used) ≡ true
    issue_is_taken =
        ap (issue_taken d.fixed_part w used) h.is
        ∙ and_from (bytes_eq (last_of (arity o) w) (operand_letters o)) _ ((bytes_eq-Decides _ _).1 h.operands_wait)
        (and_from (admits_all (operation_leaves o) used) _ (admits_spare (operation_leaves o) (a ∷ b ∷ []) ∙ h.admitted_both)
        (and_from (eqb (length used) (leaf_total o)) _
        (eq-eqb (length used) (leaf_total o) (omega (arith, length-take (leaf_total o) (a ∷ b ∷ []), sound.one_payload op o h.is)))
        (le-leb _ _ h.shallow)))

    words_are : act_words d w (did_issue op used) ≡ issue_word d op o w ∷ used
    words_are = ap (issue_words d w op used) (ap operands_by h.is)

    waits_are : waiting_after d.fixed_part w (did_issue op used) ≡ before_last (arity o) w ++ o.result_letter ∷ []
    waits_are = ap (waiting_by w) h.is

    pub issue_belongs : Belongs d (ws ++ issue_word d op o w ∷ used) (before_last (arity o) w ++ o.result_letter ∷ [])
    issue_belongs =
        subst (λ w'. Belongs d (ws ++ issue_word d op o w ∷ used) w') waits_are
        (subst (λ us. Belongs d (ws ++ us) (waiting_after d.fixed_part w (did_issue op used))) words_are
        (belongs_more d sound ws w belongs (did_issue op used) issue_is_taken))

    issue_effect : (free' : ℕ) (σ : List ℕ) → (state_of d (ws ++ issue_word d op o w ∷ used) free' (before_last (arity o) w ++ o.result_letter ∷ [])).effect σ ≡ meant_by used ((state_of d ws free w).effect σ) (Some o)
    issue_effect free' σ =
        sym (λ i. (state_of d (ws ++ words_are i) free' (waits_are i)).effect σ)
        ∙ effect_more (did_issue op used) issue_is_taken free' σ ∙ ap (meant_by used ((state_of d ws free w).effect σ)) h.is

    pub issued : (free' : ℕ) → free ≡ free' + (1 + leaf_total o) → Issued d.fixed_part (state_of d ws free w) op a b (state_of d (ws ++ issue_word d op o w ∷ used) free' (before_last (arity o) w ++ o.result_letter ∷ []))
    issued free' pays = record {
      granted = issue_granted d.fixed_part w free op a b o h;
      by = o;
      is = h.is;
      waits = refl;
      paid = pays;
      gained = sym (ap (λ us. decoded d (ws ++ us)) words_are) ∙ decoded_more d sound ws w belongs (did_issue op used) issue_is_taken;
      ends_same = λ σ l. ap (λ x. x.ends) (issue_effect free' σ);
      joins = λ σ l. ap (λ x. x.held_values) (issue_effect free' σ)
          ∙ ap (λ v. before_last (arity o) ((state_of d ws free w).effect σ).held_values ++ v ∷ [])
          (value_spare o.shape (last_of (arity o) ((state_of d ws free w).effect σ).held_values) (a ∷ b ∷ []) ((state_of d ws free w).effect σ).ends);
    }

  module _ (v : ℕ) (h : StoreAllowed d.fixed_part w free v) where
    store_is_taken : taken d.fixed_part w (did_store v) ≡ true
    store_is_taken =
        and_from (bytes_eq (last_of 1 w) (d.fixed_part.store_letter ∷ [])) _ ((bytes_eq-Decides _ _).1 h.operand_waits) (le-leb v 63 h.within)

    pub store_belongs : Belongs d (ws ++ store_word d w ∷ v ∷ []) (before_last 1 w)
    store_belongs = belongs_more d sound ws w belongs (did_store v) store_is_taken

    pub stored : (free' : ℕ) → free ≡ free' + 2 → Stored d.fixed_part (state_of d ws free w) v (state_of d (ws ++ store_word d w ∷ v ∷ []) free' (before_last 1 w))
    stored free' pays = record {
      granted = store_granted d.fixed_part w free v h;
      waits = refl;
      paid = pays;
      gained = decoded_more d sound ws w belongs (did_store v) store_is_taken;
      ends_set = λ σ l. ap (λ x. x.ends) (effect_more (did_store v) store_is_taken free' σ);
      leaves = λ σ l. ap (λ x. x.held_values) (effect_more (did_store v) store_is_taken free' σ);
    }

module _ (d : Design) (sound : Sound d) (ws w : List ℕ) (belongs : Belongs d ws w) where
  -- a simulation of the words is refused only for a wrong count of variables
  pub run_refused : (σ : List ℕ) (k p : ℕ) → SimulationDenied d ws σ k p → RunFails σ 34 p
  run_refused σ k p (of_count _ e h) = wrong_count refl e h
  run_refused σ k p (at_instruction _ e) =
      let clash : left (words_run d sound ws w belongs σ).at_end ≡ refused_at k p = sym (words_run d sound ws w belongs σ).through ∙ e in
      let z : ◌≡◌ {A = ℕ} 0 1 = cc in absurd (omega arith)

  -- it goes through with 64 variables, and leaves the end setting
  pub words_simulated : (free : ℕ) (σ : List ℕ) → length σ ≡ 64 → Simulated d ws σ (end_from (state_of d ws free w) σ)
  words_simulated free σ h =
      let r = words_run d sound ws w belongs σ in
      record { counted = h; at_end = r.at_end; goes_through = r.through; leaves = ap (λ x. (outcome_by d w x).ends) r.through }
