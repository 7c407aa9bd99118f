-- Acts as words: reading back what was written, and how a simulation goes from one instruction to the next. These proofs stand here,
-- as those of Runs, since every board's law rests on them.
use Rattle.std.proofs.Common.{◌≡◌, ℕ, ◌+◌, ◌-◌, ◌/◌, ◌≤◌, Bool, true, false, eqb, ltb, leb, List, [], ◌∷◌, ◌++◌, length, Some, None, Option, sym, refl, ap, ◌∙◌, append-nil, append_assoc, arith}
use Rattle.std.specs.Str.{bytes_eq}
use Rattle.std.proofs.lemmas.Slice.Eq.{bytes_eq-Decides}
use Rattle.std.proofs.lemmas.Bool.{and_parts, and_from, cond-true, cond-false, eqb-true, ne_eqb, leb-true, false≢true}
use Rattle.board.specs.Machines.{Machine, Operation, operation_of, operand_letters, operation_leaves, arity, leaf_total}
use Rattle.board.specs.Payloads.{admits_all}
use Rattle.board.specs.States.{Act, did_issue, did_store}
use Rattle.board.specs.Acts.{last_of}
use Rattle.processor.specs.Designs.{Design, store_opcode, first_word}
use Rattle.processor.specs.Simulations.{operation_entry, store_entry, entry_by, entry_of, takes_payload, has_payload, Running, step_of, go_on, simulated}
use Rattle.processor.specs.Codes.{issue_taken, taken, waiting_after, all_taken, waiting_after_all, operands_by, act_words, encoded, act_of, decoded}
use Rattle.processor.specs.Soundness.{Sound}

-- what an issue that was taken says
pub record IssueTaken (m : Machine) (w : List ℕ) (op : ℕ) (ps : List ℕ) : Type 0 where
  pub by : Operation
  pub is : operation_of m op ≡ Some by
  pub operands_wait : last_of (arity by) w ≡ operand_letters by
  pub admitted_all : admits_all (operation_leaves by) ps ≡ true
  pub counted : length ps ≡ leaf_total by
  pub shallow : length w - arity by + 1 ≤ m.deepest

pub issue_read : (m : Machine) (w : List ℕ) (op : ℕ) (ps : List ℕ) → taken m w (did_issue op ps) ≡ true → IssueTaken m w op ps
issue_read m w op ps t = go (operation_of m op) refl t
  where
    go : (o : Option Operation) → operation_of m op ≡ o → issue_taken m w ps o ≡ true → IssueTaken m w op ps
    go None e h = absurd (false≢true h)
    go (Some o) e h =
        let one = and_parts (bytes_eq (last_of (arity o) w) (operand_letters o)) _ h in
        let two = and_parts (admits_all (operation_leaves o) ps) _ one.1 in
        let three = and_parts (eqb (length ps) (leaf_total o)) _ two.1 in
        record {
          by = o;
          is = e;
          operands_wait = (bytes_eq-Decides (last_of (arity o) w) (operand_letters o)).0 one.0;
          admitted_all = two.0;
          counted = eqb-true (length ps) (leaf_total o) three.0;
          shallow = leb-true (length w - arity o + 1) m.deepest three.1;
        }

pub record StoreTaken (m : Machine) (w : List ℕ) (v : ℕ) : Type 0 where
  pub operand_waits : last_of 1 w ≡ m.store_letter ∷ []
  pub within : leb v 63 ≡ true

pub store_read : (m : Machine) (w : List ℕ) (v : ℕ) → taken m w (did_store v) ≡ true → StoreTaken m w v
store_read m w v t =
    let both = and_parts (bytes_eq (last_of 1 w) (m.store_letter ∷ [])) (leb v 63) t in
    record { operand_waits = (bytes_eq-Decides (last_of 1 w) (m.store_letter ∷ [])).0 both.0; within = both.1 }

module _ (d : Design) where
  -- a first word and the payloads that follow it
  pub record Line (f : ℕ) (ps : List ℕ) : Type 0 where
    pub follows : has_payload d f ≡ ltb 0 (length ps)
    pub one : length ps ≤ 1

  pub decoded_line : (f : ℕ) (ps ws : List ℕ) → Line f ps → decoded d (f ∷ (ps ++ ws)) ≡ act_of (f / 256) ps ∷ decoded d ws
  decoded_line f [] [] l = refl
  decoded_line f [] (x ∷ ws) l = cond-false _ _ _ l.follows
  decoded_line f (p ∷ []) ws l = cond-true _ _ _ l.follows
  decoded_line f (p ∷ q ∷ ps) ws l = absurd (omega (arith, l.one))

  pub simulated_line : (f : ℕ) (ps ws : List ℕ) (n : ℕ) (s : Running) → Line f ps → simulated d n (f ∷ (ps ++ ws)) s ≡ go_on (step_of d f ps s) n (simulated d (n + (1 + length ps)) ws)
  simulated_line f [] [] n s l = refl
  simulated_line f [] (x ∷ ws) n s l = cond-false _ _ _ l.follows
  simulated_line f (p ∷ []) ws n s l = cond-true _ _ _ l.follows
  simulated_line f (p ∷ q ∷ ps) ws n s l = absurd (omega (arith, l.one))

  module _ (sound : Sound d) where
    pub first_opcode : (n i k : ℕ) → first_word d n i k / 256 ≡ n
    first_opcode n i k = omega (arith, sound.low_is_byte i k)

    pub entry_known : (n : ℕ) (o : Operation) → operation_of d.fixed_part n ≡ Some o → entry_of d n ≡ Some (operation_entry o)
    entry_known n o e =
        cond-false (eqb n store_opcode) _ _ (ne_eqb n store_opcode not_store) ∙ ap entry_by e
      where
        not_store : n ≡ store_opcode → ⊥
        not_store q =
            let clash : None ≡ Some o = sym sound.store_apart ∙ ap (operation_of d.fixed_part) (sym q) ∙ e in
            let z : ◌≡◌ {A = ℕ} 0 1 = cc in omega arith

    -- an act's words
    pub record ActLine (w : List ℕ) (a : Act) : Type 0 where
      pub first : ℕ
      pub payloads : List ℕ
      pub words_are : act_words d w a ≡ first ∷ payloads
      pub line : Line first payloads
      pub back : act_of (first / 256) payloads ≡ a

    unfoldable pub act_line : (w : List ℕ) (a : Act) → taken d.fixed_part w a ≡ true → ActLine w a
    act_line w (did_issue op ps) t =
        let i = issue_read d.fixed_part w op ps t in
        let n = operands_by (operation_of d.fixed_part op) in
        let is-op = first_opcode op (length w - n) n in
        let known = entry_known op i.by i.is in
        record {
          first = first_word d op (length w - n) n;
          payloads = ps;
          words_are = refl;
          line = record {
            follows = ap takes_payload (ap (entry_of d) is-op ∙ known) ∙ ap (ltb 0) (sym i.counted);
            one = omega (arith, i.counted, sound.one_payload op i.by i.is);
          };
          back = ap (λ k. act_of k ps) is-op ∙ issue_back op ps i.by known;
        }
      where
        issue_back : (op : ℕ) (ps : List ℕ) (o : Operation) → entry_of d op ≡ Some (operation_entry o) → act_of op ps ≡ did_issue op ps
        issue_back op ps o e = go (eqb op store_opcode) refl
          where
            go : (b : Bool) → eqb op store_opcode ≡ b → act_of op ps ≡ did_issue op ps
            go true h =
                let clash : Some store_entry ≡ Some (operation_entry o) = sym (cond-true _ _ _ h) ∙ e in
                let z : ◌≡◌ {A = ℕ} 0 1 = cc in absurd (omega arith)
            go false h = cond-false _ _ _ h
    act_line w (did_store v) t =
        let is-op = first_opcode store_opcode (length w - 1) 1 in
        record {
          first = first_word d store_opcode (length w - 1) 1;
          payloads = v ∷ [];
          words_are = refl;
          line = record { follows = ap takes_payload (ap (entry_of d) is-op); one = omega arith };
          back = ap (λ k. act_of k (v ∷ [])) is-op;
        }

    -- what was written is read back
    pub decoded-encoded : (w : List ℕ) (as' : List Act) → all_taken d.fixed_part w as' ≡ true → decoded d (encoded d w as') ≡ as'
    decoded-encoded w [] t = refl
    decoded-encoded w (a ∷ rest) t =
        let both = and_parts (taken d.fixed_part w a) _ t in
        let l = act_line w a both.0 in
        let w' = waiting_after d.fixed_part w a in
        ap (λ ws. decoded d (ws ++ encoded d w' rest)) l.words_are
        ∙ decoded_line l.first l.payloads (encoded d w' rest) l.line
        ∙ (λ i. l.back i ∷ decoded-encoded w' rest both.1 i)

  -- one act more
  pub encoded_push : (w : List ℕ) (as' : List Act) (a : Act) → encoded d w (as' ++ a ∷ []) ≡ encoded d w as' ++ act_words d (waiting_after_all d.fixed_part w as') a
  encoded_push w [] a = append-nil (act_words d w a)
  encoded_push w (b ∷ rest) a =
      ap (λ ws. act_words d w b ++ ws) (encoded_push (waiting_after d.fixed_part w b) rest a)
      ∙ sym (append_assoc (act_words d w b) _ _)

module _ (m : Machine) where
  pub taken_push : (w : List ℕ) (as' : List Act) (a : Act) → all_taken m w as' ≡ true → taken m (waiting_after_all m w as') a ≡ true → all_taken m w (as' ++ a ∷ []) ≡ true
  taken_push w [] a t h = and_from (taken m w a) true h refl
  taken_push w (b ∷ rest) a t h =
      let both = and_parts (taken m w b) _ t in
      and_from (taken m w b) _ both.0 (taken_push (waiting_after m w b) rest a both.1 h)

  pub waiting_push : (w : List ℕ) (as' : List Act) (a : Act) → waiting_after_all m w (as' ++ a ∷ []) ≡ waiting_after m (waiting_after_all m w as') a
  waiting_push w [] a = refl
  waiting_push w (b ∷ rest) a = waiting_push (waiting_after m w b) rest a
