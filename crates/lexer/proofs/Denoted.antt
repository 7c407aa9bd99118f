-- The token at the front of the bytes is what they denote, and the other way round.
use Rattle.std.proofs.Common.{◌≡◌, ℕ, ◌+◌, ◌-◌, ◌^◌, ◌<◌, ◌≤◌, Bool, true, false, eqb, ltb, leb, List, [], ◌∷◌, length, get_or, take, Ok, Err, sym, refl, ap, ◌∙◌, subst, ⊎_elim, arith, length-take, MatchResult}
use Rattle.std.proofs.lemmas.Bool.{cond-true, cond-false, cond_both, lt-ltb, le-ltb, le-leb, ltb-true, ltb-false, leb-true, leb-false, lt-leb, eqb-true, both_ways, or_left, cases_Bool, true≢false, false≢true}
use Rattle.lexer.specs.declared.Token.{Token}
use Rattle.lexer.specs.declared.Token.TheVariants.{LineEnd, Number, HugeNumber, Name, Capitals, Percent, Dots, Colon, Open, Close, Comma, Equals, Minus, End}
use Rattle.lexer.specs.declared.LexicalFault.{LexicalFault}
use Rattle.lexer.specs.declared.LexicalFault.TheVariants.{StrayByte, LongName}
use Rattle.lexer.specs.Bytes.{longest_run, base_ten, is_digit, is_lower, is_capital, is_lower_or_digit}
use Rattle.lexer.specs.Tokens.{Front, token_of, number_token, name_or_fault, dots_or_fault, mark_or_fault, lexical_place}
use Rattle.lexer.specs.Meanings.{RunOf, Spells, Denotes, Missing}
use Rattle.lexer.specs.Tilings.{is_end}
use Rattle.lexer.proofs.Fronts.{digit_first, lower_first, capital_first}
use Rattle.lexer.proofs.Longest.{run_of, run_is}

spelt_one : (w : ℕ) (bs : List ℕ) (n : ℕ) → Spells (w ∷ []) bs n → (after : List ℕ) × (bs ≡ w ∷ after) × (n ≡ 1)
spelt_one w [] n s = let none = ap length (sym (ap (λ m. take {A = ℕ} m []) s.0) ∙ s.1) in absurd (omega arith)
spelt_one w (b ∷ bs) n s =
    let one : b ∷ [] ≡ w ∷ [] = sym (ap (λ m. take m (b ∷ bs)) s.0) ∙ s.1 in
    let first : b ≡ w = cc in
    (bs, ap (λ x. x ∷ bs) first, s.0)

spelt_two : (w : ℕ) (bs : List ℕ) (n : ℕ) → Spells (w ∷ w ∷ []) bs n → (after : List ℕ) × (bs ≡ w ∷ w ∷ after) × (n ≡ 2)
spelt_two w [] n s = let none = ap length (sym (ap (λ m. take {A = ℕ} m []) s.0) ∙ s.1) in absurd (omega arith)
spelt_two w (b ∷ []) n s = let none = ap length (sym (ap (λ m. take m (b ∷ [])) s.0) ∙ s.1) in absurd (omega arith)
spelt_two w (b ∷ d ∷ bs) n s =
    let two : b ∷ d ∷ [] ≡ w ∷ w ∷ [] = sym (ap (λ m. take m (b ∷ d ∷ bs)) s.0) ∙ s.1 in
    let first : b ≡ w = cc in
    let second : d ≡ w = cc in
    (bs, (λ i. first i ∷ second i ∷ bs), s.0)

module _ (p : ℕ) where
  number_token_of : (bs : List ℕ) (n v : ℕ) → RunOf is_digit bs n → 0 < n → base_ten (take n bs) ≡ v → token_of p bs ≡ Ok (number_token v, n)
  number_token_of [] n v r h e = absurd (omega (arith, r.inside))
  number_token_of (b ∷ bs) n v r h e =
      digit_first p b bs (r.passes 0 h)
      ∙ ap (λ m. Ok (number_token (base_ten (take m (b ∷ bs))), m)) (run_is is_digit (b ∷ bs) n r)
      ∙ ap (λ w. Ok (number_token w, n)) e

  pub token_of_denoted : (t : Token) (bs : List ℕ) (n : ℕ) → Denotes t bs n → token_of p bs ≡ Ok (t, n)
  token_of_denoted LineEnd bs n d = let s = spelt_one 10 bs n d in ap (token_of p) s.1 ∙ ap (λ m. Ok (LineEnd, m)) (sym s.2)
  token_of_denoted (Number v) bs n d =
      number_token_of bs n v d.0 d.1 d.2 ∙ ap (λ t. Ok (t, n)) (cond-true (ltb v (2 ^ 32)) (Number v) HugeNumber (lt-ltb v (2 ^ 32) d.3))
  token_of_denoted HugeNumber bs n d =
      let v = base_ten (take n bs) in
      number_token_of bs n v d.0 d.1 refl ∙ ap (λ t. Ok (t, n)) (cond-false (ltb v (2 ^ 32)) (Number v) HugeNumber (le-ltb v (2 ^ 32) d.2))
  token_of_denoted Name [] n d = absurd (omega (arith, d.0.inside))
  token_of_denoted Name (b ∷ bs) n d =
      lower_first p b bs d.3
      ∙ ap (name_or_fault p) (run_is is_lower_or_digit (b ∷ bs) n d.0)
      ∙ cond-true (leb n 8) (Ok (Name, n)) (Err (LongName p)) (le-leb n 8 d.2)
  token_of_denoted Capitals [] n d = absurd (omega (arith, d.0.inside))
  token_of_denoted Capitals (b ∷ bs) n d =
      capital_first p b bs (d.0.passes 0 d.1) ∙ ap (λ m. Ok (Capitals, m)) (run_is is_capital (b ∷ bs) n d.0)
  token_of_denoted Percent [] n d = absurd (omega arith)
  token_of_denoted Percent (b ∷ bs) n d =
      let whole : 1 + longest_run is_lower_or_digit bs ≡ n = omega (arith, run_is is_lower_or_digit bs (n - 1) d.2) in
      ap (λ x. token_of p (x ∷ bs)) d.0 ∙ ap (λ m. Ok (Percent, m)) whole
  token_of_denoted Dots bs n d = let s = spelt_two 46 bs n d in ap (token_of p) s.1 ∙ ap (λ m. Ok (Dots, m)) (sym s.2)
  token_of_denoted Colon bs n d = let s = spelt_one 58 bs n d in ap (token_of p) s.1 ∙ ap (λ m. Ok (Colon, m)) (sym s.2)
  token_of_denoted Open bs n d = let s = spelt_one 40 bs n d in ap (token_of p) s.1 ∙ ap (λ m. Ok (Open, m)) (sym s.2)
  token_of_denoted Close bs n d = let s = spelt_one 41 bs n d in ap (token_of p) s.1 ∙ ap (λ m. Ok (Close, m)) (sym s.2)
  token_of_denoted Comma bs n d = let s = spelt_one 44 bs n d in ap (token_of p) s.1 ∙ ap (λ m. Ok (Comma, m)) (sym s.2)
  token_of_denoted Equals bs n d = let s = spelt_one 61 bs n d in ap (token_of p) s.1 ∙ ap (λ m. Ok (Equals, m)) (sym s.2)
  token_of_denoted Minus bs n d = let s = spelt_one 45 bs n d in ap (token_of p) s.1 ∙ ap (λ m. Ok (Minus, m)) (sym s.2)
  token_of_denoted End bs n d = ap (token_of p) d.0 ∙ ap (λ m. Ok (End, m)) (sym d.1)

-- what is known of the bytes bs, from place p on, at a fault
abbrev Fault : ℕ → List ℕ → LexicalFault → Type 0
Fault p bs (StrayByte q) = (q ≡ p) × (0 < length bs) × (is_lower (get_or bs 0 0) ≡ false)
Fault p bs (LongName q) = (q ≡ p) × (0 < length bs) × Missing (LongName q) bs

abbrev Says : ℕ → List ℕ → Front → Type 0
Says p bs r = MatchResult r (λ x. Denotes x.0 bs x.1) (Fault p bs)

some_run : (test : ℕ → Bool) (b : ℕ) (bs : List ℕ) → test b ≡ true → 0 < longest_run test (b ∷ bs)
some_run test b bs h = omega (arith, cond-true (test b) (1 + longest_run test bs) 0 h)

module _ (p b : ℕ) (after : List ℕ) where
  number_says : is_digit b ≡ true → Says p (b ∷ after) (Ok (number_token (base_ten (take (longest_run is_digit (b ∷ after)) (b ∷ after))), longest_run is_digit (b ∷ after)))
  number_says h =
      let bs : List ℕ = b ∷ after in
      let n = longest_run is_digit bs in
      let v = base_ten (take n bs) in
      let some = some_run is_digit b after h in
      cond_both (ltb v (2 ^ 32)) (Number v) HugeNumber (λ t. Denotes t bs n)
      (λ lt. (run_of is_digit bs, some, refl, ltb-true v (2 ^ 32) lt))
      (λ ge. (run_of is_digit bs, some, ltb-false v (2 ^ 32) ge))

  name_says : is_lower b ≡ true → Says p (b ∷ after) (name_or_fault p (longest_run is_lower_or_digit (b ∷ after)))
  name_says h =
      let bs : List ℕ = b ∷ after in
      let n = longest_run is_lower_or_digit bs in
      cond_both (leb n 8) (Ok (Name, n)) (Err (LongName p)) (Says p bs)
      (λ short. (run_of is_lower_or_digit bs, some_run is_lower_or_digit b after (or_left (is_lower b) (is_digit b) h), leb-true n 8 short, h))
      (λ long. (refl, omega arith, (h, λ m r. omega (arith, run_is is_lower_or_digit bs m r, leb-false n 8 long))))

  mark_says : is_lower b ≡ false → Says p (b ∷ after) (mark_or_fault p b)
  mark_says l =
      let one : (w : ℕ) → eqb b w ≡ true → Spells (w ∷ []) (b ∷ after) 1 = λ w h. (refl, ap (λ x. x ∷ []) (eqb-true b w h)) in
      cond_both (eqb b 10) _ _ (Says p (b ∷ after)) (one 10) (λ _.
      cond_both (eqb b 58) _ _ (Says p (b ∷ after)) (one 58) (λ _.
      cond_both (eqb b 40) _ _ (Says p (b ∷ after)) (one 40) (λ _.
      cond_both (eqb b 41) _ _ (Says p (b ∷ after)) (one 41) (λ _.
      cond_both (eqb b 44) _ _ (Says p (b ∷ after)) (one 44) (λ _.
      cond_both (eqb b 61) _ _ (Says p (b ∷ after)) (one 61) (λ _.
      cond_both (eqb b 45) _ _ (Says p (b ∷ after)) (one 45) (λ _. (refl, omega arith, l))))))))

  percent_says : eqb b 37 ≡ true → Says p (b ∷ after) (Ok (Percent, 1 + longest_run is_lower_or_digit after))
  percent_says h =
      let n = longest_run is_lower_or_digit after in
      let back : n ≡ 1 + n - 1 = omega arith in
      (eqb-true b 37 h, omega arith, subst (RunOf is_lower_or_digit after) back (run_of is_lower_or_digit after))

dots_say : (p b : ℕ) (after : List ℕ) → b ≡ 46 → is_lower b ≡ false → Says p (b ∷ after) (dots_or_fault p after)
dots_say p b [] h l = (refl, omega arith, l)
dots_say p b (d ∷ after) h l =
    cond_both (eqb d 46) (Ok (Dots, 2)) (Err (StrayByte p)) (Says p (b ∷ d ∷ after))
    (λ second. (refl, λ i. h i ∷ eqb-true d 46 second i ∷ []))
    (λ _. (refl, omega arith, l))

token_says : (p : ℕ) (bs : List ℕ) → Says p bs (token_of p bs)
token_says p [] = (refl, refl)
token_says p (b ∷ after) =
    cond_both (is_digit b) _ _ (Says p (b ∷ after)) (number_says p b after) (λ _.
    cond_both (is_lower b) _ _ (Says p (b ∷ after)) (name_says p b after) (λ l.
    cond_both (is_capital b) _ _ (Says p (b ∷ after)) (λ h. (run_of is_capital (b ∷ after), some_run is_capital b after h)) (λ _.
    cond_both (eqb b 37) _ _ (Says p (b ∷ after)) (percent_says p b after) (λ _.
    cond_both (eqb b 46) _ _ (Says p (b ∷ after)) (λ h. dots_say p b after (eqb-true b 46 h) l) (λ _.
    mark_says p b after l)))))

module _ (p : ℕ) (bs : List ℕ) where
  pub denoted_by_token : (t : Token) (n : ℕ) → token_of p bs ≡ Ok (t, n) → Denotes t bs n
  denoted_by_token t n e = subst (Says p bs) e (token_says p bs)

  -- at a fault no token stands there
  pub missing_by_fault : (f : LexicalFault) → token_of p bs ≡ Err f → (lexical_place f ≡ p) × (0 < length bs) × Missing f bs
  missing_by_fault (StrayByte q) e =
      let told = subst (Says p bs) e (token_says p bs) in
      let none : (t : Token) (n : ℕ) → Denotes t bs n → ⊥ = λ t n d.
      let is = token_of_denoted p t bs n d in let z : ◌≡◌ {A = ℕ} 0 1 = cc in omega arith in
      (told.0, told.1, (none, told.2))
  missing_by_fault (LongName q) e = subst (Says p bs) e (token_says p bs)

-- the other way round: what is missing there makes the fault
pub fault_by_missing : (p : ℕ) (bs : List ℕ) (f : LexicalFault) → lexical_place f ≡ p → Missing f bs → token_of p bs ≡ Err f
fault_by_missing p bs (StrayByte q) at m = go (token_of p bs) refl (token_says p bs)
  where
    go : (r : Front) → token_of p bs ≡ r → Says p bs r → token_of p bs ≡ Err (StrayByte q)
    go (Ok x) e s = absurd (m.0 x.0 x.1 s)
    go (Err (StrayByte k)) e s = e ∙ ap (λ i. Err (StrayByte i)) (s.0 ∙ sym at)
    go (Err (LongName k)) e s = absurd (both_ways _ m.1 s.2.0)
fault_by_missing p [] (LongName q) at m = absurd (false≢true m.0)
fault_by_missing p (b ∷ bs) (LongName q) at m =
    let n = longest_run is_lower_or_digit (b ∷ bs) in
    lower_first p b bs m.0
    ∙ cond-false (leb n 8) (Ok (Name, n)) (Err (LongName p)) (lt-leb n 8 (m.1 n (run_of is_lower_or_digit (b ∷ bs))))
    ∙ ap (λ i. Err (LongName i)) (sym at)

-- a token lies within the bytes, and takes some unless they are at their end
spelt_inside : (word bs : List ℕ) (n : ℕ) → Spells word bs n → n ≤ length bs
spelt_inside word bs n s = omega (arith, ap length s.1, length-take n bs)

pub denoted_inside : (t : Token) (bs : List ℕ) (n : ℕ) → Denotes t bs n → n ≤ length bs
denoted_inside LineEnd bs n d = spelt_inside (10 ∷ []) bs n d
denoted_inside (Number v) bs n d = d.0.inside
denoted_inside HugeNumber bs n d = d.0.inside
denoted_inside Name bs n d = d.0.inside
denoted_inside Capitals bs n d = d.0.inside
denoted_inside Percent [] n d = absurd (omega arith)
denoted_inside Percent (b ∷ bs) n d = omega (arith, d.2.inside)
denoted_inside Dots bs n d = spelt_inside (46 ∷ 46 ∷ []) bs n d
denoted_inside Colon bs n d = spelt_inside (58 ∷ []) bs n d
denoted_inside Open bs n d = spelt_inside (40 ∷ []) bs n d
denoted_inside Close bs n d = spelt_inside (41 ∷ []) bs n d
denoted_inside Comma bs n d = spelt_inside (44 ∷ []) bs n d
denoted_inside Equals bs n d = spelt_inside (61 ∷ []) bs n d
denoted_inside Minus bs n d = spelt_inside (45 ∷ []) bs n d
denoted_inside End bs n d = omega arith

pub denoted_some : (t : Token) (bs : List ℕ) (n : ℕ) → Denotes t bs n → is_end t ≡ false → 0 < n
denoted_some LineEnd bs n d e = omega arith
denoted_some (Number v) bs n d e = d.1
denoted_some HugeNumber bs n d e = d.1
denoted_some Name bs n d e = d.1
denoted_some Capitals bs n d e = d.1
denoted_some Percent bs n d e = d.1
denoted_some Dots bs n d e = omega arith
denoted_some Colon bs n d e = omega arith
denoted_some Open bs n d e = omega arith
denoted_some Close bs n d e = omega arith
denoted_some Comma bs n d e = omega arith
denoted_some Equals bs n d e = omega arith
denoted_some Minus bs n d e = omega arith
denoted_some End bs n d e = absurd (true≢false e)

pub end_is : (t : Token) → is_end t ≡ true → t ≡ End
end_is LineEnd e = absurd (false≢true e)
end_is (Number v) e = absurd (false≢true e)
end_is HugeNumber e = absurd (false≢true e)
end_is Name e = absurd (false≢true e)
end_is Capitals e = absurd (false≢true e)
end_is Percent e = absurd (false≢true e)
end_is Dots e = absurd (false≢true e)
end_is Colon e = absurd (false≢true e)
end_is Open e = absurd (false≢true e)
end_is Close e = absurd (false≢true e)
end_is Comma e = absurd (false≢true e)
end_is Equals e = absurd (false≢true e)
end_is Minus e = absurd (false≢true e)
end_is End e = refl

pub not_end : (t : Token) → (t ≡ End → ⊥) → is_end t ≡ false
not_end t h = ⊎_elim (λ e. absurd (h (end_is t e))) (λ e. e) (cases_Bool (is_end t))

-- the text's end has nothing after it
pub denoted_end : (t : Token) (bs : List ℕ) (n : ℕ) → Denotes t bs n → is_end t ≡ true → length bs ≡ 0
denoted_end t bs n d e = ap length (subst (λ u. Denotes u bs n) (end_is t e) d).0
