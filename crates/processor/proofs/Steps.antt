-- One instruction of a simulation: where it stops, and how it goes on.
use Rattle.std.proofs.Common.{◌≡◌, ℕ, ◌+◌, ◌-◌, ◌/◌, ◌<◌, Bool, true, false, cond, List, [], ◌∷◌, length, get_or, Some, Result, Ok, Err, MatchResult, is_ok, true≢false, subst, IfOk, sym, refl, ap, ◌∙◌, arith}
use Rattle.std.proofs.lemmas.Bool.{cond-true, cond-false, lt-ltb, le-ltb}
use Rattle.pattern.specs.Shapes.{Leaf}
use Rattle.board.specs.Payloads.{admits_all}
use Rattle.board.specs.declared.instructions.Instruction.{Instruction}
use Rattle.board.specs.Instructions.{Denotes}
use Rattle.board.specs.Machines.{Operation, arity}
use Rattle.board.proofs.Fronts.{front, rest_of}
use Rattle.processor.specs.Designs.{Design}
use Rattle.processor.specs.Simulations.{Entry, entry_of, entry_letters, entry_leaves, entry_results, Running, carried_out, fails, goes, step_by, step_of, takes_payload, has_payload, left, refused_at, go_on, simulated, GoesOn, Stops}
use Rattle.processor.proofs.Judging.{arity_is}
use Rattle.processor.specs.Lines.{simulated_line}

module _ (d : Design) (n f : ℕ) (s : Running) where
  -- a step that fails whatever its payloads are
  fails_anyway : (k : ℕ) (ws : List ℕ) → ((ps : List ℕ) → step_of d f ps s ≡ fails k) → Stops d n (f ∷ ws) s k n
  fails_anyway k [] h = ap (λ x. go_on x n left) (h [])
  fails_anyway k (p ∷ ws) h = both (has_payload d f)
    where
      both : (b : Bool) → cond b (go_on (step_of d f (p ∷ []) s) n (λ s'. simulated d (n + 2) ws s')) (go_on (step_of d f [] s) n (λ s'. simulated d (n + 1) (p ∷ ws) s')) ≡ refused_at k n
      both true = ap (λ x. go_on x n (λ s'. simulated d (n + 2) ws s')) (h (p ∷ []))
      both false = ap (λ x. go_on x n (λ s'. simulated d (n + 1) (p ∷ ws) s')) (h [])

  module _ (e : Entry) (known : entry_of d (f / 256) ≡ Some e) where
    pub misplaced_stops : (ws : List ℕ) → d.misplaced_at f (length (entry_letters d e)) (entry_results e) s.own_now ≡ true → Stops d n (f ∷ ws) s 32 n
    misplaced_stops ws h = fails_anyway 32 ws (λ ps. ap (step_by d f ps s) known ∙ cond-true _ _ _ h)

    module _ (placed : d.misplaced_at f (length (entry_letters d e)) (entry_results e) s.own_now ≡ false) where
      step-placed : (ps : List ℕ) → step_of d f ps s ≡ cond (admits_all (entry_leaves e) ps) (goes (carried_out d f ps s e)) (fails 33)
      step-placed ps = ap (step_by d f ps s) known ∙ cond-false _ _ _ placed

      lacks_all : (ls : List Leaf) → 0 < length ls → admits_all ls [] ≡ false
      lacks_all [] h = absurd (omega arith)
      lacks_all (l ∷ ls) h = refl

      pub payload_missing : 0 < length (entry_leaves e) → Stops d n (f ∷ []) s 33 n
      payload_missing h = ap (λ x. go_on x n left) (step-placed [] ∙ cond-false _ _ _ (lacks_all (entry_leaves e) h))

      one_payload : (p : ℕ) (ws : List ℕ) → 0 < length (entry_leaves e) → simulated d n (f ∷ p ∷ ws) s ≡ go_on (step_of d f (p ∷ []) s) n (simulated d (n + 2) ws)
      one_payload p ws h =
          simulated_line d f (p ∷ []) ws n s (record { follows = ap takes_payload known ∙ lt-ltb 0 _ h; one = omega arith })

      pub payload_stops : (p : ℕ) (ws : List ℕ) → 0 < length (entry_leaves e) → admits_all (entry_leaves e) (p ∷ []) ≡ false → Stops d n (f ∷ p ∷ ws) s 33 n
      payload_stops p ws h no' =
          one_payload p ws h ∙ ap (λ x. go_on x n (simulated d (n + 2) ws)) (step-placed (p ∷ []) ∙ cond-false _ _ _ no')

      pub goes_with : (p : ℕ) (ws : List ℕ) → 0 < length (entry_leaves e) → admits_all (entry_leaves e) (p ∷ []) ≡ true → simulated d n (f ∷ p ∷ ws) s ≡ simulated d (n + 2) ws (carried_out d f (p ∷ []) s e)
      goes_with p ws h yes' =
          one_payload p ws h ∙ ap (λ x. go_on x n (simulated d (n + 2) ws)) (step-placed (p ∷ []) ∙ cond-true _ _ _ yes')

      none_asked : (ls : List Leaf) → length ls ≡ 0 → admits_all ls [] ≡ true
      none_asked [] h = refl
      none_asked (l ∷ ls) h = absurd (omega arith)

      pub goes_alone : (ws : List ℕ) → length (entry_leaves e) ≡ 0 → simulated d n (f ∷ ws) s ≡ simulated d (n + 1) ws (carried_out d f [] s e)
      goes_alone ws h =
          simulated_line d f [] ws n s (record { follows = ap takes_payload known ∙ le-ltb 0 _ (omega arith); one = omega arith })
          ∙ ap (λ x. go_on x n (simulated d (n + 1) ws)) (step-placed [] ∙ cond-true _ _ _ (none_asked (entry_leaves e) h))

module _ (d : Design) (n f : ℕ) (s s' : Running) where
  pub on_alone : (ws : List ℕ) → simulated d n (f ∷ ws) s ≡ simulated d (n + 1) ws s' → GoesOn d n (f ∷ ws) s ws s'
  on_alone ws e =
      let one : n + 1 ≡ n + (length (f ∷ ws) - length ws) = omega arith in
      record { shorter = omega arith; goes_to = e ∙ ap (λ k. simulated d k ws s') one }

  pub on_with : (ws : List ℕ) → 0 < length ws → simulated d n (f ∷ get_or ws 0 0 ∷ rest_of ws) s ≡ simulated d (n + 2) (rest_of ws) s' → GoesOn d n (f ∷ ws) s (rest_of ws) s'
  on_with ws h e =
      let fewer : length ws ≡ length (rest_of ws) + 1 = omega (arith, ap length (front ws h)) in
      let two : n + 2 ≡ n + (length (f ∷ ws) - length (rest_of ws)) = omega arith in
      record {
        shorter = omega arith;
        goes_to = ap (λ l. simulated d n (f ∷ l) s) (front ws h) ∙ e ∙ ap (λ k. simulated d k (rest_of ws) s') two;
      }

-- what was not misplaced was carried out
pub carried : {V E : Type 0} (r : Result V E) (P Q R : Type 0) → MatchResult r (λ v. P) (λ e. Q × R) → (Q → ⊥) → P
carried {V} {E} (Ok v) P Q R h f = h
carried {V} {E} (Err e) P Q R h f = absurd (f h.0)

-- a processor is asked for as many operands as the operation has
pub asked_at : (d : Design) (i : Instruction) (o : Operation) → Denotes i o → (f : ℕ) (own : List ℕ) {r b : Bool} → r ≡ d.misplaced_at f i.meaning.operands 1 own → r ≡ b → d.misplaced_at f (arity o) 1 own ≡ b
asked_at d i o is f own e h = ap (λ n. d.misplaced_at f n 1 own) (sym (arity_is i o is)) ∙ sym e ∙ h

-- what was taken, where a `map_err` of it went on
pub taken : {V E F : Type 0} (r : Result V E) (r' : Result V F) (v : V) (P : V → Type 0) (Q : E → Type 0) (R : E → Type 0) → MatchResult r P Q → MatchResult r (λ x. r' ≡ Ok x) R → is_ok r' ≡ is_ok r → r' ≡ Ok v → P v
taken (Ok x) r' v P Q R h same both on = subst (λ s. IfOk s P) (sym same ∙ on) h
taken (Err e) r' v P Q R h same both on = absurd (true≢false (sym (ap is_ok on) ∙ both))
