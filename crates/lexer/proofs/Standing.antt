-- What is read after an offset is what stands there.
use Rattle.std.proofs.Common.{◌≡◌, ℕ, ◌+◌, ◌-◌, ◌<◌, ◌≤◌, true, false, List, [], ◌∷◌, length, get_or, take, drop, Ok, Err, sym, refl, ap, ◌∙◌, subst, add-zero, arith, length-take, length-drop, get_or-drop}
use Rattle.std.proofs.lemmas.Bool.{eq-eqb, ne_eqb, eqb-true, both_ways}
use Rattle.lexer.specs.declared.Token.{Token}
use Rattle.lexer.specs.declared.LexicalFault.{LexicalFault}
use Rattle.lexer.specs.Bytes.{is_space, longest_run}
use Rattle.lexer.specs.Tokens.{Front, token_of, token_at, placed, after_spaces, lexical_place}
use Rattle.lexer.specs.Meanings.{RunOf, Denotes, SpacesOnly, Missing, NextIs, NextFails, ReadsWhatStands, FaultsWhereNoneStands, FoundAgain}
use Rattle.lexer.proofs.Longest.{run_of, run_is}
use Rattle.lexer.proofs.Denoted.{token_of_denoted, denoted_by_token, missing_by_fault, fault_by_missing, denoted_inside}

is_32 : (b : ℕ) → is_space b ≡ true → b ≡ 32
is_32 b h = eqb-true b 32 h

not_32 : (b : ℕ) → (b ≡ 32 → ⊥) → is_space b ≡ false
not_32 b h = ne_eqb b 32 h

module _ (bs : List ℕ) (o : ℕ) where
  spaces_to : o ≤ length bs → SpacesOnly bs o (after_spaces bs o)
  spaces_to h = (
    omega arith,
    λ k low high.
        let j : o + (k - o) ≡ k = omega arith in
        ap (λ i. get_or bs i 0) (sym j) ∙ sym (get_or-drop o bs (k - o) 0) ∙ is_32 _ ((run_of is_space (drop o bs)).passes (k - o) (omega arith)),
  )

  after_spaces_within : o ≤ length bs → after_spaces bs o ≤ length bs
  after_spaces_within h = omega (arith, (run_of is_space (drop o bs)).inside, length-drop o bs)

  after_spaces_stops : after_spaces bs o < length bs → get_or bs (after_spaces bs o) 0 ≡ 32 → ⊥
  after_spaces_stops h e =
      both_ways _ ((run_of is_space (drop o bs)).stops (omega (arith, length-drop o bs)))
      (ap is_space (get_or-drop o bs (longest_run is_space (drop o bs)) 0) ∙ eq-eqb _ 32 e)

  after_spaces_is : (p : ℕ) → SpacesOnly bs o p → p ≤ length bs → (p < length bs → get_or bs p 0 ≡ 32 → ⊥) → after_spaces bs o ≡ p
  after_spaces_is p s h stop =
      let back : o + (p - o) ≡ p = omega (arith, s.0) in
      let run : RunOf is_space (drop o bs) (p - o) = record {
        inside = omega (arith, length-drop o bs);
        passes = λ k lt. ap is_space (get_or-drop o bs k 0 ∙ s.1 (o + k) (omega arith) (omega arith));
        stops = λ lt. ap is_space (get_or-drop o bs (p - o) 0 ∙ ap (λ i. get_or bs i 0) back) ∙ not_32 _ (stop (omega (arith, length-drop o bs, s.0)));
      } in
      ap (λ n. o + n) (run_is is_space (drop o bs) (p - o) run) ∙ back

placed_ok : (q : ℕ) (r : Front) (t : Token) (p n : ℕ) → placed q r ≡ Ok (t, (p, n)) → (q ≡ p) × (r ≡ Ok (t, n))
placed_ok q (Ok x) t p n e =
    let same : ◌≡◌ {A = Token × (ℕ × ℕ)} (x.0, (q, x.1)) (t, (p, n)) = cc in
    (ap (λ y. y.1.0) same, λ i. Ok ((same i).0, (same i).1.1))
placed_ok q (Err f) t p n e = let z : ◌≡◌ {A = ℕ} 0 1 = cc in absurd (omega arith)

placed_err : (q : ℕ) (r : Front) (f : LexicalFault) → placed q r ≡ Err f → r ≡ Err f
placed_err q (Ok x) f e = let z : ◌≡◌ {A = ℕ} 0 1 = cc in absurd (omega arith)
placed_err q (Err g) f e = cc

-- a token begins with no space
starts_after_spaces : (t : Token) (bs : List ℕ) (n : ℕ) → Denotes t bs n → 0 < length bs → get_or bs 0 0 ≡ 32 → ⊥
starts_after_spaces t [] n d h e = omega arith
starts_after_spaces t (b ∷ bs) n d h e =
    let is = sym (ap (λ x. token_of 0 (x ∷ bs)) e) ∙ token_of_denoted 0 t (b ∷ bs) n d in let z : ◌≡◌ {A = ℕ} 0 1 = cc in omega arith

first_of_drop : (bs : List ℕ) (p : ℕ) → get_or (drop p bs) 0 0 ≡ get_or bs p 0
first_of_drop bs p = get_or-drop p bs 0 0 ∙ ap (λ i. get_or bs i 0) (add-zero p)

module _ (bs : List ℕ) (o : ℕ) (h : o ≤ length bs) where
  pub stands_where_read : (t : Token) (p n : ℕ) → token_at bs o ≡ Ok (t, (p, n)) → NextIs bs o t p n
  stands_where_read t p n e =
      let q = after_spaces bs o in
      let parts = placed_ok q (token_of q (drop q bs)) t p n e in
      let there = subst (λ i. Denotes t (drop i bs) n) parts.0 (denoted_by_token q (drop q bs) t n parts.1) in
      record {
        spaces = subst (SpacesOnly bs o) parts.0 (spaces_to bs o h);
        inside = omega (arith, parts.0, after_spaces_within bs o h, denoted_inside t (drop p bs) n there, length-drop p bs);
        denotes = there;
      }

  pub read_where_stands : (t : Token) (p n : ℕ) → NextIs bs o t p n → token_at bs o ≡ Ok (t, (p, n))
  read_where_stands t p n s =
      let here = after_spaces_is bs o p s.spaces (omega (arith, s.inside))
      (λ lt e. starts_after_spaces t (drop p bs) n s.denotes (omega (arith, length-drop p bs)) (first_of_drop bs p ∙ e)) in
      ap (λ i. placed i (token_of i (drop i bs))) here ∙ ap (placed p) (token_of_denoted p t (drop p bs) n s.denotes)

  pub fails_where_told : (f : LexicalFault) → token_at bs o ≡ Err f → NextFails bs o f
  fails_where_told f e =
      let q = after_spaces bs o in
      let none = missing_by_fault q (drop q bs) f (placed_err q (token_of q (drop q bs)) f e) in
      let at = sym none.0 in
      let lt : q < length bs = omega (arith, none.1, length-drop q bs) in
      record {
        spaces = subst (SpacesOnly bs o) at (spaces_to bs o h);
        inside = omega arith;
        past_spaces = subst (λ i. get_or bs i 0 ≡ 32 → ⊥) at (after_spaces_stops bs o lt);
        missing = subst (λ i. Missing f (drop i bs)) at none.2;
      }

  pub told_where_fails : (f : LexicalFault) → NextFails bs o f → token_at bs o ≡ Err f
  told_where_fails f s =
      let p = lexical_place f in
      let here = after_spaces_is bs o p s.spaces (omega (arith, s.inside)) (λ _. s.past_spaces) in
      ap (λ i. placed i (token_of i (drop i bs))) here ∙ ap (placed p) (fault_by_missing p (drop p bs) f refl s.missing)

pub reads_what_stands_lem : ReadsWhatStands
reads_what_stands_lem bs o h t p n = (stands_where_read bs o h t p n, read_where_stands bs o h t p n)

pub faults_where_none_stands_lem : FaultsWhereNoneStands
faults_where_none_stands_lem bs o h f = (fails_where_told bs o h f, told_where_fails bs o h f)

pub found_again_lem : FoundAgain
found_again_lem bs o h t p n e =
    let s = stands_where_read bs o h t p n e in
    read_where_stands bs p (omega (arith, s.inside)) t p n
    (record { spaces = (omega arith, λ k low high. absurd (omega arith)); inside = s.inside; denotes = s.denotes })

-- a token that is read at place p, where the rest of the text is a slice of it, lies within the text
pub read_inside : (bs : List ℕ) (p : ℕ) → p ≤ length bs → (r : Front) → r ≡ token_of p (take (length bs - p) (drop p bs)) → (t : Token) (n : ℕ) → r ≡ Ok (t, n) → p + n ≤ length bs
read_inside bs p h r front t n e =
    let rest = take (length bs - p) (drop p bs) in
    omega (arith, denoted_inside t rest n (denoted_by_token p rest t n (sym front ∙ e)), length-take (length bs - p) (drop p bs), length-drop p bs)
