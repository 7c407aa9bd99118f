-- What is encoded runs: a simulation of the words of code that was taken goes through, and does what the meanings say.
use Rattle.std.proofs.Common.{◌≡◌, ℕ, ◌+◌, ◌-◌, true, List, [], ◌∷◌, ◌++◌, length, get_or, set, sym, refl, ap, ◌∙◌, subst}
use Rattle.std.proofs.lemmas.List.{nil_from_length}
use Rattle.std.proofs.lemmas.Bool.{and_parts, and_from, cond-true, cond-false}
use Rattle.pattern.specs.Shapes.{shape_value}
use Rattle.board.specs.Machines.{operand_letters, arity}
use Rattle.board.specs.States.{Act, did_issue, did_store}
use Rattle.board.specs.Acts.{last_of, before_last}
use Rattle.processor.specs.Designs.{Design, store_opcode, first_word}
use Rattle.processor.specs.Simulations.{operation_entry, store_entry, entry_of, Running, carried_out, goes, step_by, step_of, go_on, left, simulated, from_start}
use Rattle.processor.specs.Codes.{taken, waiting_by, waiting_after, all_taken, waiting_after_all, operands_by, encoded}
use Rattle.processor.specs.Soundness.{Sound, OperationRuns, StoreRuns, issue_word, store_word}
use Rattle.processor.specs.Boards.{outcome_by}
use Rattle.processor.specs.Meanings.{meant_by, meant, meant_all, untouched, EncodedRuns}
use Rattle.processor.specs.Lines.{IssueTaken, issue_read, StoreTaken, store_read, first_opcode, entry_known, act_line, simulated_line}

module _ (d : Design) (sound : Sound d) where
  -- one act runs from a processor that holds the operands in the PLACES w
  pub record ActRuns (w : List ℕ) (a : Act) (s : Running) (f : ℕ) (ps : List ℕ) : Type 0 where
    pub after : Running
    pub steps : step_of d f ps s ≡ goes after
    pub still_held : d.holds (waiting_after d.fixed_part w a) after.own_now ≡ true
    pub means : outcome_by d (waiting_after d.fixed_part w a) (left after) ≡ meant d.fixed_part (outcome_by d w (left s)) a

  issue_runs : (w : List ℕ) (op : ℕ) (ps : List ℕ) (s : Running) (i : IssueTaken d.fixed_part w op ps) → OperationRuns d op i.by w s.own_now → ActRuns w (did_issue op ps) s (issue_word d op i.by w) ps
  issue_runs w op ps s i r =
      let o = i.by in
      let f = issue_word d op o w in
      let n = length w - arity o in
      let known = ap (entry_of d) (first_opcode d sound op n (arity o)) ∙ entry_known d sound op o i.is in
      let after = carried_out d f ps s (operation_entry o) in
      let v = shape_value o.shape (d.operands_at f (operand_letters o) s.own_now) ps s.setting_now in
      let waits = ap (waiting_by w) i.is in
      let read : d.values_at (before_last (arity o) w ++ o.result_letter ∷ []) after.own_now ≡ before_last (arity o) (d.values_at w s.own_now) ++ shape_value o.shape (last_of (arity o) (d.values_at w s.own_now)) ps s.setting_now ∷ [] =
      r.result_read v ∙ ap (λ vs. before_last (arity o) (d.values_at w s.own_now) ++ shape_value o.shape vs ps s.setting_now ∷ []) r.operands_found in
      record {
        after = after;
        steps = ap (step_by d f ps s) known ∙ cond-false _ _ _ r.placed ∙ cond-true _ _ _ i.admitted_all;
        still_held = ap (λ w'. d.holds w' after.own_now) waits ∙ r.result_held v;
        means = ap (λ w'. outcome_by d w' (left after)) waits
            ∙ ap (λ vs. record { ends = s.setting_now; held_values = vs }) read
            ∙ sym (ap (meant_by ps (outcome_by d w (left s))) i.is);
      }

  store_runs : (w : List ℕ) (v : ℕ) (s : Running) → StoreTaken d.fixed_part w v → StoreRuns d w s.own_now → ActRuns w (did_store v) s (store_word d w) (v ∷ [])
  store_runs w v s t r =
      let f = store_word d w in
      let known = ap (entry_of d) (first_opcode d sound store_opcode (length w - 1) 1) in
      let after = carried_out d f (v ∷ []) s store_entry in
      let stored = ap (λ vs. get_or vs 0 0) r.operand_found in
      record {
        after = after;
        steps = ap (step_by d f (v ∷ []) s) known ∙ cond-false _ _ _ r.placed ∙ cond-true _ _ _ (and_from _ true t.within refl);
        still_held = r.rest_held;
        means = λ i. record { ends = set s.setting_now v (stored i); held_values = r.rest_read i };
      }

  act_runs : (w : List ℕ) (a : Act) (s : Running) (t : taken d.fixed_part w a ≡ true) → d.holds w s.own_now ≡ true → ActRuns w a s (act_line d sound w a t).first (act_line d sound w a t).payloads
  unfolding act_line
  act_runs w (did_issue op ps) s t h =
      let i = issue_read d.fixed_part w op ps t in
      let o = i.by in
      subst (λ n. ActRuns w (did_issue op ps) s (first_word d op (length w - n) n) ps) (sym (ap operands_by i.is))
      (issue_runs w op ps s i (sound.operations_run op o w s.own_now i.is i.operands_wait i.shallow h))
  act_runs w (did_store v) s t h =
      let i = store_read d.fixed_part w v t in
      store_runs w v s i (sound.stores_run w s.own_now i.operand_waits h)

  pub record CodeRuns (w : List ℕ) (code : List Act) (n : ℕ) (s : Running) : Type 0 where
    pub at_end : Running
    pub through : simulated d n (encoded d w code) s ≡ left at_end
    pub still_held : d.holds (waiting_after_all d.fixed_part w code) at_end.own_now ≡ true
    pub means : outcome_by d (waiting_after_all d.fixed_part w code) (left at_end) ≡ meant_all d.fixed_part (outcome_by d w (left s)) code

  pub code_runs : (w : List ℕ) (code : List Act) (n : ℕ) (s : Running) → all_taken d.fixed_part w code ≡ true → d.holds w s.own_now ≡ true → CodeRuns w code n s
  code_runs w [] n s t h = record { at_end = s; through = refl; still_held = h; means = refl }
  code_runs w (a ∷ rest) n s t h =
      let both = and_parts (taken d.fixed_part w a) _ t in
      let l = act_line d sound w a both.0 in
      let r = act_runs w a s both.0 h in
      let w' = waiting_after d.fixed_part w a in
      let more = code_runs w' rest (n + (1 + length l.payloads)) r.after both.1 r.still_held in
      record {
        at_end = more.at_end;
        through = ap (λ ws. simulated d n (ws ++ encoded d w' rest) s) l.words_are
            ∙ simulated_line d l.first l.payloads (encoded d w' rest) n s l.line
            ∙ ap (λ x. go_on x n (simulated d (n + (1 + length l.payloads)) (encoded d w' rest))) r.steps
            ∙ more.through;
        still_held = more.still_held;
        means = more.means ∙ ap (λ x. meant_all d.fixed_part x rest) r.means;
      }

  -- nothing waits at the start
  pub starts_empty : (σ : List ℕ) → outcome_by d [] (left (from_start d σ)) ≡ untouched σ
  starts_empty σ =
      ap (λ vs. record { ends = σ; held_values = vs }) (nil_from_length (d.values_at [] d.at_start) (sound.value_each [] d.at_start sound.starts))

pub encoded_runs_lem : EncodedRuns
encoded_runs_lem d sound code t σ =
    let r = code_runs d sound [] code 0 (from_start d σ) t sound.starts in
    record {
      at_end = r.at_end;
      through = r.through;
      outcome_is = r.means ∙ ap (λ x. meant_all d.fixed_part x code) (starts_empty d sound σ);
    }
