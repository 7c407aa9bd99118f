-- A refusal's place is within the text: so is every place that a state keeps, and every step tells one of these or its own.
use Rattle.std.proofs.Common.{◌≡◌, ℕ, zero, suc, ◌+◌, ◌-◌, ◌^◌, ◌<◌, ◌≤◌, Bool, true, false, cond, ◌&&◌, eqb, ltb, leb, List, [], ◌∷◌, ◌++◌, length, get_or, take, drop, is_some, Some, None, Ok, Err, codes, Option, Result, refl, ap, subst, ⊎_elim, arith, length-take}
use Rattle.std.specs.List.{AllByRecursion}
use Rattle.std.proofs.lemmas.List.{get_or_past}
use Rattle.std.proofs.lemmas.Bool.{cond_both, eqb-true, cases_lt}
use Rattle.operators.specs.declared.Operator.{Operator}
use Rattle.operators.specs.declared.Operator.TheVariants.{Cnst, Var, One, Two}
use Rattle.lexer.specs.declared.Token.{Token}
use Rattle.lexer.specs.declared.Token.TheVariants.{LineEnd, Name, Capitals, Percent, Dots, Colon, Open, Close, Comma, Equals, Minus, End}
use Rattle.lexer.specs.declared.LexicalFault.{LexicalFault}
use Rattle.lexer.specs.Bytes.{is_digit}
use Rattle.lexer.specs.Tokens.{token_at}
use Rattle.lexer.specs.Tilings.{is_end}
use Rattle.lexer.proofs.Denoted.{denoted_some}
use Rattle.lexer.proofs.Standing.{stands_where_read, fails_where_told}
use Rattle.description.specs.Names.{same_text}
use Rattle.description.specs.Outlines.{Part, operand, one_sided, two_sided, constant, variable}
use Rattle.description.proofs.Names.{same_text_true}
use Rattle.reader.specs.Words.{is, is_number, value_in, operator_called}
use Rattle.reader.specs.Reading.{Bracket, Draft, Awaits, header_end, directive, new_name, name_place, declaration_end, start_name, start_end, rule_or_end, left_colon, first_item, item, opening, after_item, after_constant, low_end, two_dots, high_end, mnemonic_word, size_number, cycles_number, rule_end, State, Outcome, goes, ends, fails, within_limits, part_read, filled_one, gained, gain, declared, operand_item, capital_item, any_item, no_parts, item_done, renames, number_upto, left_found, start_found, step_at, step, Answer, carried, with_token, read_from, nothing_read, versioned, after_mark, reading}
use Rattle.reader.specs.Grammar.{PlacesWithin}
use Rattle.reader.proofs.TokenKinds.{kind_is}

abbrev BracketsIn : ℕ → List Bracket → Type 0
BracketsIn l bs = AllByRecursion (λ b. b.stands ≤ l) bs

-- the places that a state keeps are at most l
abbrev Kept : ℕ → Awaits → Type 0
Kept l header_end = Unit {0}
Kept l directive = Unit {0}
Kept l new_name = Unit {0}
Kept l (name_place t) = Unit {0}
Kept l declaration_end = Unit {0}
Kept l start_name = Unit {0}
Kept l start_end = Unit {0}
Kept l rule_or_end = Unit {0}
Kept l (left_colon d) = BracketsIn l d.brackets
Kept l (first_item d) = BracketsIn l d.brackets
Kept l (item d) = BracketsIn l d.brackets
Kept l (opening w p d) = (p ≤ l) × BracketsIn l d.brackets
Kept l (after_item d) = BracketsIn l d.brackets
Kept l (after_constant d) = BracketsIn l d.brackets
Kept l (low_end d) = BracketsIn l d.brackets
Kept l (two_dots v p d) = (p ≤ l) × BracketsIn l d.brackets
Kept l (high_end v p d) = (p ≤ l) × BracketsIn l d.brackets
Kept l (mnemonic_word d) = Unit {0}
Kept l (size_number e d) = Unit {0}
Kept l (cycles_number v e d) = Unit {0}
Kept l rule_end = Unit {0}

abbrev Within : ℕ → State → Type 0
Within l s = (s.line ≤ l) × Kept l s.awaits

abbrev Told : ℕ → Outcome → Type 0
Told l (goes s) = Within l s
Told l (ends o) = Unit {0}
Told l (fails k p) = p ≤ l

filled_in : (l : ℕ) (bs : List Bracket) → BracketsIn l bs → BracketsIn l (filled_one bs)
filled_in l [] h = tt
filled_in l (b ∷ bs) h = h

module _ (l : ℕ) (s : State) (t : Token) (p : ℕ) (text : List ℕ) (at-line : s.line ≤ l) (here : p ≤ l) where
  either : (b : Bool) (x y : Outcome) → Told l x → Told l y → Told l (cond b x y)
  either true x y f g = f
  either false x y f g = g

  gain_told : (d : Draft) (x : Part) (w : Draft → Awaits) → Kept l (w (gained d x)) → Told l (gain s d x w)
  gain_told d x w h = either (within_limits (d.so_far ++ x ∷ [])) _ _ (at-line, h) at-line

  operand_told : (d : Draft) (o : Option ℕ) → BracketsIn l d.brackets → Told l (operand_item s d p o)
  operand_told d None h = here
  operand_told d (Some a) h = gain_told d (operand a) (λ e. after_item (part_read e)) (filled_in l d.brackets h)

  capital_told : (d : Draft) (o : Option Operator) → BracketsIn l d.brackets → Told l (capital_item s d p o)
  capital_told d None h = here
  capital_told d (Some Cnst) h = gain_told d (constant 0 (2 ^ 32 - 1)) (λ e. after_constant (part_read e)) (filled_in l d.brackets h)
  capital_told d (Some Var) h = gain_told d variable (λ e. after_item (part_read e)) (filled_in l d.brackets h)
  capital_told d (Some (One o)) h = gain_told d (one_sided o) (opening 1 p) (here, h)
  capital_told d (Some (Two o)) h = gain_told d (two_sided o) (opening 2 p) (here, h)

  any_told : (d : Draft) (other : Outcome) → BracketsIn l d.brackets → Told l other → Told l (any_item s d t p text other)
  any_told d other h g =
      either (is Name t) _ _ (operand_told d (declared s text) h) (either (is Capitals t) _ _ (capital_told d (operator_called text) h) g)

  none_told : (bs : List Bracket) → BracketsIn l bs → Told l (no_parts bs p)
  none_told [] h = here
  none_told (b ∷ bs) h = h.0

  done_told : (d : Draft) (bs : List Bracket) → BracketsIn l d.brackets → BracketsIn l bs → Told l (item_done s d bs t p)
  done_told d [] h g = either (is Equals t) _ _ (at-line, tt) here
  done_told d (b ∷ bs) h g =
      either (is Comma t) _ _ (either (eqb b.filled 1) _ _ (at-line, h) here)
      (either (is Close t) _ _ (either (eqb b.filled b.wants) _ _ (at-line, filled_in l bs g.1) g.0) here)

  number_told : (limit : ℕ) (x : Outcome) → Told l x → Told l (number_upto limit t p x)
  number_told limit x h = either (is_number t) _ _ (either (ltb limit (value_in t)) _ _ here h) here

  start_told : (o : Option ℕ) → Told l (start_found s p o)
  start_told None = here
  start_told (Some i) = (at-line, tt)

  left_told : (o : Option ℕ) → Told l (left_found s p o)
  left_told None = here
  left_told (Some i) = either (leb 128 (length s.outline.productions)) _ _ at-line (at-line, tt)

  line_told : (x y : Outcome) → (is LineEnd t ≡ true → Told l x) → Told l y → Told l (cond (is LineEnd t) x y)
  line_told x y f g = cond_both (is LineEnd t) x y (Told l) f (λ _. g)

  step_told : (w : Awaits) → Kept l w → (is LineEnd t ≡ true → p + 1 ≤ l) → Told l (step_at w s t p text)
  step_told header_end h next = line_told _ _ (λ e. (next e, tt)) here
  step_told directive h next =
      either (is Percent t && same_text text (codes "%nt")) _ _ (at-line, tt)
      (either (is Percent t && (same_text text (codes "%start") && ltb 0 (length s.outline.declarations))) _ _ (at-line, tt) here)
  step_told new_name h next = either (is Name t) _ _ (either (leb 16 (length s.outline.declarations)) _ _ here (either (is_some (declared s text)) _ _ here (at-line, tt))) here
  step_told (name_place letters) h next = either (is Capitals t && eqb (length text) 1) _ _ (at-line, tt) here
  step_told declaration_end h next = line_told _ _ (λ e. (next e, tt)) here
  step_told start_name h next = either (is Name t) _ _ (start_told (declared s text)) here
  step_told start_end h next = line_told _ _ (λ e. (next e, tt)) (either (is End t) _ _ tt here)
  step_told rule_or_end h next = either (is Name t) _ _ (left_told (declared s text)) (either (is End t) _ _ tt here)
  step_told (left_colon d) h next = either (is Colon t) _ _ (at-line, h) here
  step_told (first_item d) h next = any_told d _ h (either (is Close t) _ _ (none_told d.brackets h) here)
  step_told (item d) h next = any_told d _ h here
  step_told (opening wants stands d) h next = either (is Open t) _ _ (at-line, h) here
  step_told (after_item d) h next = done_told d d.brackets h h
  step_told (after_constant d) h next = either (is Colon t) _ _ (at-line, h) (done_told d d.brackets h h)
  step_told (low_end d) h next = number_told (2 ^ 32 - 1) _ (at-line, (here, h))
  step_told (two_dots low at d) h next = either (is Dots t) _ _ (at-line, h) here
  step_told (high_end low at d) h next = number_told (2 ^ 32 - 1) _ (either (ltb (value_in t) low) _ _ h.0 (at-line, h.1))
  step_told (mnemonic_word d) h next =
      either (is Name t) _ _ (at-line, tt) (either (is Minus t) _ _ (either (renames s.outline.declarations d.left_name d.so_far) _ _ (at-line, tt) here) here)
  step_told (size_number e d) h next = number_told 99 _ (at-line, tt)
  step_told (cycles_number size e d) h next = number_told 999 _ (at-line, tt)
  step_told rule_end h next = line_told _ _ (λ e. (next e, tt)) (either (is End t) _ _ tt here)

abbrev AnswerIn : ℕ → Answer → Type 0
AnswerIn l (Ok o) = Unit {0}
AnswerIn l (Err x) = x.1 ≤ l

carried_in : (l : ℕ) (x : Outcome) (rest : State → Answer) → Told l x → ((s : State) → Within l s → AnswerIn l (rest s)) → AnswerIn l (carried x rest)
carried_in l (goes s) rest h f = f s h
carried_in l (ends o) rest h f = tt
carried_in l (fails k p) rest h f = h

read_in : (turns : ℕ) (bs : List ℕ) (o : ℕ) (s : State) → o ≤ length bs → Within (length bs) s → AnswerIn (length bs) (read_from turns bs o s)
read_in zero bs o s h w = h
read_in (suc turns) bs o s h w = go (token_at bs o) refl (read_in turns bs)
  where
    onward : (t : Token) (p n : ℕ) → token_at bs o ≡ Ok (t, (p, n)) → ((q : ℕ) (u : State) → q ≤ length bs → Within (length bs) u → AnswerIn (length bs) (read_from turns bs q u)) → AnswerIn (length bs) (carried (step s t p (take n (drop p bs))) (λ u. read_from turns bs (p + n) u))
    onward t p n e ih =
        let there = stands_where_read bs o h t p n e in
        carried_in (length bs) _ _
        (step_told (length bs) s t p _ w.0 (omega (arith, there.inside)) s.awaits w.1
        (λ l. omega (arith, there.inside, denoted_some t (drop p bs) n there.denotes (ap is_end (kind_is LineEnd t l)))))
        (λ u v. ih (p + n) u there.inside v)

    go : (r : Result (Token × (ℕ × ℕ)) LexicalFault) → token_at bs o ≡ r → ((q : ℕ) (u : State) → q ≤ length bs → Within (length bs) u → AnswerIn (length bs) (read_from turns bs q u)) → AnswerIn (length bs) (with_token bs s r (λ next after. read_from turns bs next after))
    go (Ok x) e ih = onward x.0 x.1.0 x.1.1 e ih
    go (Err f) e ih = omega (arith, (fails_where_told bs o h f e).inside)

-- what stands at a place other than 0 stands within the text
pub stands_within : (bs : List ℕ) (i x : ℕ) → 0 < x → get_or bs i 0 ≡ x → i < length bs
stands_within bs i x h e = ⊎_elim (λ l. l) (λ g. absurd (omega (arith, get_or_past bs i 0 g))) (cases_lt i (length bs))

versioned_in : (bs : List ℕ) → 4 ≤ length bs → AnswerIn (length bs) (versioned bs (token_at bs 4))
versioned_in bs h = go (token_at bs 4) refl
  where
    go : (r : Result (Token × (ℕ × ℕ)) LexicalFault) → token_at bs 4 ≡ r → AnswerIn (length bs) (versioned bs r)
    go (Ok x) e =
        cond_both (eqb (value_in x.0) 1) _ _ (AnswerIn (length bs))
        (λ _. read_in (length bs) bs _ nothing_read (stands_where_read bs 4 h x.0 x.1.0 x.1.1 e).inside (omega arith, tt))
        (λ _. h)
    go (Err f) e = h

reading_in : (bs : List ℕ) → AnswerIn (length bs) (reading bs)
reading_in bs =
    cond_both (same_text (take 3 bs) (codes "BTG")) (after_mark bs) (Err (1, 0)) (AnswerIn (length bs))
    (λ e.
    let three : 3 ≤ length bs = omega (arith, ap length (same_text_true (take 3 bs) (codes "BTG") e), length-take 3 bs) in
    cond_both (eqb (get_or bs 3 0) 32) _ _ (AnswerIn (length bs))
    (λ f.
    let four : 4 ≤ length bs = omega (arith, stands_within bs 3 32 (omega arith) (eqb-true _ 32 f)) in
    cond_both (is_digit (get_or bs 4 0)) _ _ (AnswerIn (length bs)) (λ _. versioned_in bs four) (λ _. four))
    (λ _. three))
    (λ _. omega arith)

pub places_within_lem : PlacesWithin
places_within_lem bs k p e = subst (AnswerIn (length bs)) e (reading_in bs)
