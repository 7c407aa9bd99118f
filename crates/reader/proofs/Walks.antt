-- A text's words and the steps over them: a text is read as some words, and words are read wherever they stand.
-- Places change no accepted description, so they are left open here.
use Rattle.std.proofs.Common.{◌≡◌, ℕ, zero, suc, ◌+◌, ◌-◌, ◌^◌, ◌<◌, ◌≤◌, Bool, true, false, cond, ◌&&◌, eqb, ltb, leb, List, [], ◌∷◌, ◌++◌, length, get_or, take, drop, is_some, Some, None, Ok, Err, codes, Option, Result, sym, refl, ap, ◌∙◌, subst, arith, length-append, length-drop}
use Rattle.description.specs.Names.{same_text}
use Rattle.std.specs.List.{AllByRecursion}
use Rattle.std.proofs.lemmas.List.{get_or-drop, get_or_append_left, drop-drop, drop_at, take_at, drop_all, take-append-drop, length-take-le, get_or-take}
use Rattle.std.proofs.ByRecursion.{All-get_or, All-from_get_or}
use Rattle.std.proofs.lemmas.Bool.{cond_both, both_ways}
use Rattle.operators.specs.declared.Operator.{Operator}
use Rattle.operators.specs.declared.Operator.TheVariants.{Cnst, Var, One, Two}
use Rattle.lexer.specs.declared.Token.{Token}
use Rattle.lexer.specs.declared.Token.TheVariants.{LineEnd, Number, HugeNumber, Name, Capitals, Percent, Dots, Colon, Open, Close, Comma, Equals, Minus, End}
use Rattle.lexer.specs.declared.LexicalFault.{LexicalFault}
use Rattle.lexer.specs.Tokens.{token_at, lexical_place}
use Rattle.lexer.specs.Tilings.{is_end}
use Rattle.lexer.specs.Meanings.{Denotes, SpacesOnly, NextIs}
use Rattle.lexer.proofs.Denoted.{denoted_some}
use Rattle.lexer.proofs.Standing.{stands_where_read, read_where_stands}
use Rattle.lexer.proofs.Tiled.{end_is_last}
use Rattle.description.specs.Outlines.{Part, operand, one_sided, two_sided, constant, variable, Outline}
use Rattle.reader.specs.Words.{is, is_number, value_in, operator_called}
use Rattle.reader.specs.Reading.{Bracket, Draft, Awaits, header_end, directive, new_name, name_place, declaration_end, start_name, start_end, rule_or_end, left_colon, first_item, item, opening, after_item, after_constant, low_end, two_dots, high_end, mnemonic_word, size_number, cycles_number, rule_end, State, Outcome, goes, ends, fails, within_limits, part_read, renames, gain, declared, operand_item, capital_item, any_item, no_parts, item_done, number_upto, left_found, start_found, step_at, step, Answer, carried, with_token, read_from}
use Rattle.reader.specs.Grammar.{Word, Spaced}
use Rattle.reader.proofs.TokenKinds.{Proper, proper, kind_is}

-- the words lead from the state to the description, wherever they stand
unfoldable pub Always : List Word → State → Outline → Type 0
Always [] s o = (p : ℕ) (text : List ℕ) → step s End p text ≡ ends o
Always (w ∷ ws) s o =
    (p : ℕ) → Proper w.kind w.spelling → (u : State) × (step s w.kind p w.spelling ≡ goes u) × Always ws u o

-- the words lead from the state to the description at some places
unfoldable pub Leads : List Word → State → Outline → Type 0
Leads [] s o = (p : ℕ) × (text : List ℕ) × (step s End p text ≡ ends o)
Leads (w ∷ ws) s o =
    (p : ℕ) × (u : State) × Proper w.kind w.spelling × (step s w.kind p w.spelling ≡ goes u) × Leads ws u o

ended : (t : Token) → is_end t ≡ true → t ≡ End
ended LineEnd e = absurd (both_ways false refl e)
ended (Number v) e = absurd (both_ways false refl e)
ended HugeNumber e = absurd (both_ways false refl e)
ended Name e = absurd (both_ways false refl e)
ended Capitals e = absurd (both_ways false refl e)
ended Percent e = absurd (both_ways false refl e)
ended Dots e = absurd (both_ways false refl e)
ended Colon e = absurd (both_ways false refl e)
ended Open e = absurd (both_ways false refl e)
ended Close e = absurd (both_ways false refl e)
ended Comma e = absurd (both_ways false refl e)
ended Equals e = absurd (both_ways false refl e)
ended Minus e = absurd (both_ways false refl e)
ended End e = refl

not_ended : (t : Token) → (t ≡ End → ⊥) → is_end t ≡ false
not_ended t f = go (is_end t) refl
  where
    go : (b : Bool) → is_end t ≡ b → b ≡ false
    go true e = absurd (f (ended t e))
    go false e = refl

-- what stands after an offset, word by word
module _ (bs : List ℕ) (o : ℕ) (h : o ≤ length bs) where
  spaces_stand : (spaces rest : List ℕ) → drop o bs ≡ spaces ++ rest → AllByRecursion (λ b. b ≡ 32) spaces → SpacesOnly bs o (o + length spaces)
  spaces_stand spaces rest e a = (
    omega arith,
    λ k low high.
        let j : o + (k - o) ≡ k = omega arith in
        let short : k - o < length spaces = omega arith in
        ap (λ i. get_or bs i 0) (sym j) ∙ sym (get_or-drop o bs (k - o) 0) ∙ ap (λ l. get_or l (k - o) 0) e
        ∙ get_or_append_left spaces rest 0 (k - o) short ∙ All-get_or (λ b. b ≡ 32) spaces (k - o) 0 short a,
  )

  length_after : (xs : List ℕ) → drop o bs ≡ xs → o + length xs ≡ length bs
  length_after xs e = omega (arith, ap length e, length-drop o bs)

  after_front : (front rest : List ℕ) → drop o bs ≡ front ++ rest → drop (o + length front) bs ≡ rest
  after_front front rest e = sym (drop-drop (length front) o bs) ∙ ap (drop (length front)) e ∙ drop_at front rest (length front) refl

  end_stands : AllByRecursion (λ b. b ≡ 32) (drop o bs) → token_at bs o ≡ Ok (End, (length bs, 0))
  end_stands a =
      read_where_stands bs o h End (length bs) 0 (record {
        spaces = subst (SpacesOnly bs o) (length_after (drop o bs) refl) (spaces_stand (drop o bs) [] (sym (append_nil_is (drop o bs))) a);
        inside = omega arith;
        denotes = (drop_all (length bs) bs (omega arith), refl);
      })
    where
      append_nil_is : (xs : List ℕ) → xs ++ [] ≡ xs
      append_nil_is [] = refl
      append_nil_is (x ∷ xs) = ap (λ ys. x ∷ ys) (append_nil_is xs)

  word_stands : (k : Token) (spaces spelling rest : List ℕ) → drop o bs ≡ spaces ++ (spelling ++ rest) → AllByRecursion (λ b. b ≡ 32) spaces → Denotes k (spelling ++ rest) (length spelling) → token_at bs o ≡ Ok (k, (o + length spaces, length spelling))
  word_stands k spaces spelling rest e a d =
      let there = after_front spaces (spelling ++ rest) e in
      read_where_stands bs o h k (o + length spaces) (length spelling) (record {
        spaces = spaces_stand spaces (spelling ++ rest) e a;
        inside = omega (arith, length_after (spaces ++ (spelling ++ rest)) e, length-append spaces (spelling ++ rest), length-append spelling rest);
        denotes = subst (λ l. Denotes k l (length spelling)) (sym there) d;
      })

pub always_read : (turns : ℕ) (ws : List Word) (bs : List ℕ) (o : ℕ) (s : State) (out : Outline) → o ≤ length bs → length bs - o < turns → Spaced ws (drop o bs) → Always ws s out → read_from turns bs o s ≡ Ok out
unfolding Always
always_read zero ws bs o s out h few sp a = absurd (omega arith)
always_read (suc turns) [] bs o s out h few sp a =
    ap (λ r. with_token bs s r (λ next after. read_from turns bs next after)) (end_stands bs o h sp)
    ∙ ap (λ x. carried x (read_from turns bs (length bs + 0))) (a (length bs) (take 0 (drop (length bs) bs)))
always_read (suc turns) (w ∷ ws) bs o s out h few sp a =
    let spaces = sp.0 in
    let rest = sp.1 in
    let p = o + length spaces in
    let n = length w.spelling in
    let there : drop p bs ≡ w.spelling ++ rest = after_front bs o h spaces (w.spelling ++ rest) sp.2 in
    let whole : o + length (spaces ++ (w.spelling ++ rest)) ≡ length bs = length_after bs o h _ sp.2 in
    let inside : p + n ≤ length bs = omega (arith, length-append spaces (w.spelling ++ rest), length-append w.spelling rest) in
    let text : take n (drop p bs) ≡ w.spelling = ap (take n) there ∙ take_at w.spelling rest n refl in
    let on = a p (proper w.kind w.spelling rest sp.4) in
    let some : 0 < n = denoted_some w.kind (w.spelling ++ rest) n sp.4 (not_ended w.kind sp.5) in
    let after : drop (p + n) bs ≡ rest = after_front bs p (omega arith) w.spelling rest there in
    ap (λ r. with_token bs s r (λ next after. read_from turns bs next after)) (word_stands bs o h w.kind spaces w.spelling rest sp.2 sp.3 sp.4)
    ∙ ap (λ t. carried (step s w.kind p t) (read_from turns bs (p + n))) text
    ∙ ap (λ x. carried x (read_from turns bs (p + n))) on.1
    ∙ always_read turns ws bs (p + n) on.0 out inside (omega arith) (subst (Spaced ws) (sym after) sp.6) on.2

-- at the text's end no state goes on, and elsewhere none ends
abbrev Stops : Outcome → Type 0
Stops (goes s) = ⊥
Stops (ends o) = Unit {0}
Stops (fails k p) = Unit {0}

record Continues (x : Outcome) : Type 0 where
  pub ends_never : (o : Outline) → x ≡ ends o → ⊥

done_stops : (s : State) (d : Draft) (bs : List Bracket) (p : ℕ) → Stops (item_done s d bs End p)
done_stops s d [] p = tt
done_stops s d (b ∷ bs) p = tt

end_stops : (w : Awaits) (s : State) (p : ℕ) (text : List ℕ) → Stops (step_at w s End p text)
end_stops header_end s p text = tt
end_stops directive s p text = tt
end_stops new_name s p text = tt
end_stops (name_place t) s p text = tt
end_stops declaration_end s p text = tt
end_stops start_name s p text = tt
end_stops start_end s p text = tt
end_stops rule_or_end s p text = tt
end_stops (left_colon d) s p text = tt
end_stops (first_item d) s p text = tt
end_stops (item d) s p text = tt
end_stops (opening w q d) s p text = tt
end_stops (after_item d) s p text = done_stops s d d.brackets p
end_stops (after_constant d) s p text = done_stops s d d.brackets p
end_stops (low_end d) s p text = tt
end_stops (two_dots v q d) s p text = tt
end_stops (high_end v q d) s p text = tt
end_stops (mnemonic_word d) s p text = tt
end_stops (size_number e d) s p text = tt
end_stops (cycles_number v e d) s p text = tt
end_stops rule_end s p text = tt

on : {s : State} → Continues (goes s)
on = record { ends_never = λ o e. let z : ◌≡◌ {A = ℕ} 0 1 = cc in omega arith }

off : {k p : ℕ} → Continues (fails k p)
off = record { ends_never = λ o e. let z : ◌≡◌ {A = ℕ} 0 1 = cc in omega arith }

each : (b : Bool) {x y : Outcome} → Continues x → Continues y → Continues (cond b x y)
each true f g = f
each false f g = g

module _ (s : State) (t : Token) (p : ℕ) (text : List ℕ) where
  number_continues : (limit : ℕ) (x : Outcome) → Continues x → Continues (number_upto limit t p x)
  number_continues limit x h = each (is_number t) (each (ltb limit (value_in t)) off h) off

  gain_continues : (d : Draft) (x : Part) (w : Draft → Awaits) → Continues (gain s d x w)
  gain_continues d x w = each (within_limits (d.so_far ++ x ∷ [])) on off

  operand_continues : (d : Draft) (o : Option ℕ) → Continues (operand_item s d p o)
  operand_continues d None = off
  operand_continues d (Some a) = gain_continues d (operand a) (λ e. after_item (part_read e))

  capital_continues : (d : Draft) (o : Option Operator) → Continues (capital_item s d p o)
  capital_continues d None = off
  capital_continues d (Some Cnst) = gain_continues d (constant 0 (2 ^ 32 - 1)) (λ e. after_constant (part_read e))
  capital_continues d (Some Var) = gain_continues d variable (λ e. after_item (part_read e))
  capital_continues d (Some (One o)) = gain_continues d (one_sided o) (opening 1 p)
  capital_continues d (Some (Two o)) = gain_continues d (two_sided o) (opening 2 p)

  any_continues : (d : Draft) (other : Outcome) → Continues other → Continues (any_item s d t p text other)
  any_continues d other g = each (is Name t) (operand_continues d (declared s text)) (each (is Capitals t) (capital_continues d (operator_called text)) g)

  none_continues : (bs : List Bracket) → Continues (no_parts bs p)
  none_continues [] = off
  none_continues (b ∷ bs) = off

  done_continues : (d : Draft) (bs : List Bracket) → Continues (item_done s d bs t p)
  done_continues d [] = each (is Equals t) on off
  done_continues d (b ∷ bs) =
      each (is Comma t) (each (eqb b.filled 1) on off) (each (is Close t) (each (eqb b.filled b.wants) on off) off)

  start_continues : (o : Option ℕ) → Continues (start_found s p o)
  start_continues None = off
  start_continues (Some i) = on

  left_continues : (o : Option ℕ) → Continues (left_found s p o)
  left_continues None = off
  left_continues (Some i) = each (leb 128 (length s.outline.productions)) off on

  unless_end : (x y : Outcome) → is_end t ≡ false → Continues y → Continues (cond (is End t) x y)
  unless_end x y e g = cond_both (is End t) x y Continues (λ k. absurd (both_ways (is_end t) e (ap is_end (kind_is End t k)))) (λ _. g)

  step_continues : (w : Awaits) → is_end t ≡ false → Continues (step_at w s t p text)
  step_continues header_end e = each (is LineEnd t) on off
  step_continues directive e =
      each (is Percent t && same_text text (codes "%nt")) on
      (each (is Percent t && (same_text text (codes "%start") && ltb 0 (length s.outline.declarations))) on off)
  step_continues new_name e =
      each (is Name t) (each (leb 16 (length s.outline.declarations)) off (each (is_some (declared s text)) off on)) off
  step_continues (name_place letters) e = each (is Capitals t && eqb (length text) 1) on off
  step_continues declaration_end e = each (is LineEnd t) on off
  step_continues start_name e = each (is Name t) (start_continues (declared s text)) off
  step_continues start_end e = each (is LineEnd t) on (unless_end (ends s.outline) _ e off)
  step_continues rule_or_end e = each (is Name t) (left_continues (declared s text)) (unless_end (ends s.outline) _ e off)
  step_continues (left_colon d) e = each (is Colon t) on off
  step_continues (first_item d) e = any_continues d _ (each (is Close t) (none_continues d.brackets) off)
  step_continues (item d) e = any_continues d _ off
  step_continues (opening w q d) e = each (is Open t) on off
  step_continues (after_item d) e = done_continues d d.brackets
  step_continues (after_constant d) e = each (is Colon t) on (done_continues d d.brackets)
  step_continues (low_end d) e = number_continues (2 ^ 32 - 1) _ on
  step_continues (two_dots low at d) e = each (is Dots t) on off
  step_continues (high_end low at d) e = number_continues (2 ^ 32 - 1) _ (each (ltb (value_in t) low) off on)
  step_continues (mnemonic_word d) e =
      each (is Name t) on (each (is Minus t) (each (renames s.outline.declarations d.left_name d.so_far) on off) off)
  step_continues (size_number m d) e = number_continues 99 _ on
  step_continues (cycles_number size m d) e = number_continues 999 _ on
  step_continues rule_end e = each (is LineEnd t) on (unless_end (ends s.outline) _ e off)

err_ok : (x : ℕ × ℕ) (out : Outline) → ◌≡◌ {A = Answer} (Err x) (Ok out) → ⊥
err_ok x out e = let z : ◌≡◌ {A = ℕ} 0 1 = cc in omega arith

carried_end : (x : Outcome) (rest : State → Answer) (out : Outline) → Stops x → carried x rest ≡ Ok out → x ≡ ends out
carried_end (goes s) rest out h e = absurd h
carried_end (ends o) rest out h e = let same : o ≡ out = cc in ap ends same
carried_end (fails k p) rest out h e = absurd (err_ok (k, p) out e)

carried_on : (x : Outcome) (rest : State → Answer) (out : Outline) → Continues x → carried x rest ≡ Ok out → (u : State) × (x ≡ goes u) × (rest u ≡ Ok out)
carried_on (goes s) rest out h e = (s, refl, e)
carried_on (ends o) rest out h e = absurd (h.ends_never o refl)
carried_on (fails k p) rest out h e = absurd (err_ok (k, p) out e)

-- the other way round: the words that a token read makes
module _ (bs : List ℕ) (o : ℕ) (h : o ≤ length bs) (t : Token) (p n : ℕ) (there : NextIs bs o t p n) where
  front_parts : drop o bs ≡ take (p - o) (drop o bs) ++ (take n (drop p bs) ++ drop (p + n) bs)
  front_parts =
      let back : o + (p - o) ≡ p = omega (arith, there.spaces.0) in
      sym (take-append-drop (p - o) (drop o bs))
      ∙ ap (λ l. take (p - o) (drop o bs) ++ l)
      (drop-drop (p - o) o bs ∙ ap (λ i. drop i bs) back ∙ sym (take-append-drop n (drop p bs)) ∙ ap (λ l. take n (drop p bs) ++ l) (drop-drop n p bs))

  front_spaces : AllByRecursion (λ b. b ≡ 32) (take (p - o) (drop o bs))
  front_spaces =
      let long : length (take (p - o) (drop o bs)) ≡ p - o = length-take-le (p - o) (drop o bs) (omega (arith, length-drop o bs, there.inside)) in
      All-from_get_or (λ b. b ≡ 32) (take (p - o) (drop o bs)) 0 (λ i lt.
      get_or-take (p - o) (drop o bs) i 0 (omega arith) ∙ get_or-drop o bs i 0 ∙ there.spaces.1 (o + i) (omega arith) (omega (arith, there.spaces.0)))

  pub front_denotes : Denotes t (take n (drop p bs) ++ drop (p + n) bs) (length (take n (drop p bs)))
  front_denotes =
      let long : n ≡ length (take n (drop p bs)) = sym (length-take-le n (drop p bs) (omega (arith, length-drop p bs, there.inside))) in
      let parts : drop p bs ≡ take n (drop p bs) ++ drop (p + n) bs = sym (take-append-drop n (drop p bs)) ∙ ap (λ l. take n (drop p bs) ++ l) (drop-drop n p bs) in
      subst (λ m. Denotes t (take n (drop p bs) ++ drop (p + n) bs) m) long (subst (λ l. Denotes t l n) parts there.denotes)

pub read_leads : (turns : ℕ) (bs : List ℕ) (o : ℕ) (s : State) (out : Outline) → o ≤ length bs → read_from turns bs o s ≡ Ok out → (ws : List Word) × Spaced ws (drop o bs) × Leads ws s out
unfolding Leads
read_leads zero bs o s out h e = absurd (err_ok (3, o) out e)
read_leads (suc turns) bs o s out h e = go (token_at bs o) refl e (read_leads turns bs)
  where
    at_end : (t : Token) (p n : ℕ) → token_at bs o ≡ Ok (t, (p, n)) → is_end t ≡ true → carried (step s t p (take n (drop p bs))) (read_from turns bs (p + n)) ≡ Ok out → (ws : List Word) × Spaced ws (drop o bs) × Leads ws s out
    at_end t p n e last c =
        let there = stands_where_read bs o h t p n e in
        let whole : p - o ≡ length (drop o bs) = omega (arith, length-drop o bs, end_is_last bs o h t p n e last) in
        let is = subst (λ t. carried (step s t p (take n (drop p bs))) (read_from turns bs (p + n)) ≡ Ok out) (ended t last) c in (
          [],
          subst (AllByRecursion (λ b. b ≡ 32)) (ap (λ i. take i (drop o bs)) whole ∙ all_taken (drop o bs)) (front_spaces bs o h t p n there),
          (p, take n (drop p bs), carried_end (step s End p (take n (drop p bs))) _ out (end_stops s.awaits s p _) is),
        )
      where
        all_taken : (xs : List ℕ) → take (length xs) xs ≡ xs
        all_taken [] = refl
        all_taken (x ∷ xs) = ap (λ ys. x ∷ ys) (all_taken xs)

    onward : (t : Token) (p n : ℕ) → token_at bs o ≡ Ok (t, (p, n)) → is_end t ≡ false → carried (step s t p (take n (drop p bs))) (read_from turns bs (p + n)) ≡ Ok out → ((q : ℕ) (u : State) (out : Outline) → q ≤ length bs → read_from turns bs q u ≡ Ok out → (ws : List Word) × Spaced ws (drop q bs) × Leads ws u out) → (ws : List Word) × Spaced ws (drop o bs) × Leads ws s out
    onward t p n e more c ih =
        let there = stands_where_read bs o h t p n e in
        let on = carried_on (step s t p (take n (drop p bs))) _ out (step_continues s t p _ s.awaits more) c in
        let rest = ih (p + n) on.0 out there.inside on.2 in
        let denotes = front_denotes bs o h t p n there in (
          record { kind = t; spelling = take n (drop p bs) } ∷ rest.0,
          (
            take (p - o) (drop o bs),
            drop (p + n) bs,
            front_parts bs o h t p n there,
            front_spaces bs o h t p n there,
            denotes,
            λ last. both_ways (is_end t) more (ap is_end last),
            rest.1,
          ),
          (p, on.0, proper t (take n (drop p bs)) (drop (p + n) bs) denotes, on.1, rest.2),
        )

    by_kind : (t : Token) (p n : ℕ) (b : Bool) → is_end t ≡ b → token_at bs o ≡ Ok (t, (p, n)) → carried (step s t p (take n (drop p bs))) (read_from turns bs (p + n)) ≡ Ok out → ((q : ℕ) (u : State) (out : Outline) → q ≤ length bs → read_from turns bs q u ≡ Ok out → (ws : List Word) × Spaced ws (drop q bs) × Leads ws u out) → (ws : List Word) × Spaced ws (drop o bs) × Leads ws s out
    by_kind t p n true k e c ih = at_end t p n e k c
    by_kind t p n false k e c ih = onward t p n e k c ih

    go : (r : Result (Token × (ℕ × ℕ)) LexicalFault) → token_at bs o ≡ r → with_token bs s r (λ next after. read_from turns bs next after) ≡ Ok out → ((q : ℕ) (u : State) (out : Outline) → q ≤ length bs → read_from turns bs q u ≡ Ok out → (ws : List Word) × Spaced ws (drop q bs) × Leads ws u out) → (ws : List Word) × Spaced ws (drop o bs) × Leads ws s out
    go (Ok x) e c ih = by_kind x.0 x.1.0 x.1.1 (is_end x.0) refl e c ih
    go (Err f) e c ih = absurd (err_ok (3, lexical_place f) out c)
