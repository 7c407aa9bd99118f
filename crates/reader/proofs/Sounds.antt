-- A token keeps the state sound.
use Rattle.std.proofs.Common.{◌≡◌, ℕ, zero, suc, ◌+◌, ◌-◌, ◌^◌, ◌<◌, ◌≤◌, true, false, cond, ◌&&◌, eqb, ltb, leb, List, [], ◌∷◌, ◌++◌, length, take, is_some, Some, None, codes, Option, sym, refl, ap, ◌∙◌, subst, ⊎_elim, arith, length-append}
use Rattle.std.proofs.ByRecursion.{All-append, All-take}
use Rattle.std.proofs.lemmas.List.{append_assoc, length_push}
use Rattle.std.proofs.lemmas.Option.{none-some, same_Some}
use Rattle.std.proofs.lemmas.Bool.{cond_both, cond-true, cond-false, cases_Bool, both_ways, eqb-true, leb-false, ltb-false}
use Rattle.operators.specs.declared.Operator.{Operator}
use Rattle.operators.specs.declared.Operator.TheVariants.{Cnst, Var, One, Two}
use Rattle.lexer.specs.declared.Token.{Token}
use Rattle.lexer.specs.declared.Token.TheVariants.{LineEnd, Name, Capitals, Percent, Dots, Colon, Open, Close, Comma, Equals, Minus, End}
use Rattle.description.specs.Names.{same_text}
use Rattle.description.specs.Outlines.{Part, operand, one_sided, two_sided, constant, variable, Declaration, Outline}
use Rattle.reader.specs.Words.{is, is_number, value_in, declared_from, operator_called}
use Rattle.reader.specs.Reading.{Bracket, Draft, Awaits, State, Outcome, header_end, directive, new_name, name_place, declaration_end, start_name, start_end, rule_or_end, left_colon, first_item, item, opening, after_item, after_constant, low_end, two_dots, high_end, mnemonic_word, size_number, cycles_number, rule_end, goes, ends, fails, to, next_line, operands_among, leaves_among, within_limits, filled_one, with_brackets, gained, part_read, gain, declared, operand_item, capital_item, any_item, no_parts, item_done, last_replaced, ranged, renames, number_upto, rule_read, start_found, left_found, step_at, step}
use Rattle.reader.specs.Sketches.{items_taken}
use Rattle.reader.specs.States.{EndsInConstant}
use Rattle.reader.specs.Soundness.{parts_in, whole_parts, OperandIn, Laid, LaidAfter, LaidBefore, LaidConstant, Fitting, SoundAt, Sound, SoundAfter}
use Rattle.reader.proofs.Parts.{replaced_end, operands_replaced, leaves_replaced}

whole_append : (m n : ℕ) (xs ys : List Part) → whole_parts m xs ≡ true → whole_parts n ys ≡ true → whole_parts (m + n) (xs ++ ys) ≡ true
whole_append m n [] ys a b =
    let none = eqb-true m 0 a in
    let same : m + n ≡ n = omega arith in
    ap (λ k. whole_parts k ys) same ∙ b
whole_append zero n (x ∷ xs) ys a b = absurd (both_ways false refl a)
whole_append (suc m) n (x ∷ xs) ys a b =
    let out : suc m + n ≡ suc (m + n) = omega arith in
    let in' : parts_in x + (m + n) ≡ parts_in x + m + n = omega arith in
    ap (λ k. whole_parts k (x ∷ (xs ++ ys))) out ∙ ap (λ k. whole_parts k (xs ++ ys)) in' ∙ whole_append (parts_in x + m) n xs ys a b

-- one whole part more
part_added : (bs : List Bracket) (xs ys : List Part) → Laid bs xs → whole_parts 1 ys ≡ true → LaidAfter (filled_one bs) (xs ++ ys)
part_added [] xs ys l h = ap (λ zs. whole_parts 1 (zs ++ ys)) l ∙ h
part_added (b ∷ bs) xs ys l h = (
  l.0,
  l.1,
  l.2 ++ ys,
  ap (λ zs. zs ++ ys) l.3 ∙ append_assoc l.0 (l.1 ∷ l.2) ys,
  l.4,
  whole_append b.filled 1 l.2 ys l.5 h,
  l.6,
)

whole_few : (n : ℕ) (xs : List Part) → whole_parts n xs ≡ true → n ≤ length xs
whole_few n [] e = omega (arith, eqb-true n 0 e)
whole_few zero (x ∷ xs) e = omega arith
whole_few (suc n) (x ∷ xs) e = omega (arith, whole_few (parts_in x + n) xs e)

laid_taken : (bs : List Bracket) (xs : List Part) → Laid bs xs → items_taken bs ≤ length xs
laid_taken [] xs l = omega arith
laid_taken (b ∷ bs) xs l =
    omega (arith, laid_taken bs l.0 l.6, whole_few b.filled l.2 l.5, ap length l.3, length-append l.0 (l.1 ∷ l.2))

constant_after : (bs : List Bracket) (xs : List Part) → LaidConstant bs xs → LaidAfter bs xs
constant_after bs xs l =
    let c = constant l.1 l.2 in
    subst (λ cs. LaidAfter cs xs) (sym l.4.1)
    (subst (LaidAfter (filled_one l.4.0)) (sym l.3) (part_added l.4.0 l.0 (c ∷ []) l.4.2 refl))

-- what the code asks of a sound state: the operator whose bracket follows is in no bracket yet
pub room_at_opening : (n : ℕ) (d : Draft) → LaidBefore n d.brackets d.so_far → items_taken d.brackets < length d.so_far
room_at_opening n d l = omega (arith, laid_taken d.brackets l.0 l.4, ap length l.2, length_push l.0 l.1)

pub constant_last : (bs : List Bracket) (xs : List Part) → LaidConstant bs xs → EndsInConstant xs
constant_last bs xs l = (l.0, l.1, l.2, l.3)

-- drafts
refit : (o : Outline) (d : Draft) (bs : List Bracket) → Fitting o d → Fitting o (with_brackets d bs)
refit o d bs f = record { left_declared = f.left_declared; operands_declared = f.operands_declared; limits = f.limits; room = f.room }

gained_fit : (o : Outline) (d : Draft) (x : Part) → Fitting o d → OperandIn (length o.declarations) x → within_limits (d.so_far ++ x ∷ []) ≡ true → Fitting o (gained d x)
gained_fit o d x f i e = record {
  left_declared = f.left_declared;
  operands_declared = All-append (OperandIn (length o.declarations)) d.so_far (x ∷ []) f.operands_declared (i, tt);
  limits = e;
  room = f.room;
}

gain_sound : (s : State) (d : Draft) (x : Part) (w : Draft → Awaits) → Fitting s.outline d → OperandIn (length s.outline.declarations) x → (Fitting s.outline (gained d x) → SoundAt s.outline (w (gained d x))) → SoundAfter (gain s d x w)
gain_sound s d x w f i k =
    cond_both (within_limits (d.so_far ++ x ∷ [])) (goes (to s (w (gained d x)))) (fails 7 s.line) SoundAfter
    (λ e. k (gained_fit s.outline d x f i e)) (λ e. tt)

declared_below : (k : ℕ) (t : List ℕ) (ds : List Declaration) (i : ℕ) → declared_from k t ds ≡ Some i → i < k + length ds
declared_below k t [] i e = absurd (none-some i e)
declared_below k t (d ∷ ds) i e =
    ⊎_elim (λ s. let same = same_Some k i (sym (cond-true (same_text d.spelled t) (Some k) _ s) ∙ e) in omega arith)
    (λ s. let less = declared_below (suc k) t ds i (sym (cond-false (same_text d.spelled t) (Some k) _ s) ∙ e) in omega arith)
    (cases_Bool (same_text d.spelled t))

found_below : (s : State) (t : List ℕ) (i : ℕ) → declared s t ≡ Some i → i < length s.outline.declarations
found_below s t i e = omega (arith, declared_below 0 t s.outline.declarations i e)

module _ (s : State) (d : Draft) (f : Fitting s.outline d) (l : Laid d.brackets d.so_far) where
  operand_sound : (p : ℕ) (t : List ℕ) (o : Option ℕ) → declared s t ≡ o → SoundAfter (operand_item s d p o)
  operand_sound p t None e = tt
  operand_sound p t (Some a) e =
      gain_sound s d (operand a) (λ e. after_item (part_read e)) f (found_below s t a e)
      (λ g. (refit _ _ _ g, part_added d.brackets d.so_far (operand a ∷ []) l refl))

  capital_sound : (p : ℕ) (o : Option Operator) → SoundAfter (capital_item s d p o)
  capital_sound p None = tt
  capital_sound p (Some Cnst) =
      gain_sound s d (constant 0 (2 ^ 32 - 1)) (λ e. after_constant (part_read e)) f tt
      (λ g. (refit _ _ _ g, (d.so_far, 0, 2 ^ 32 - 1, refl, (d.brackets, refl, l))))
  capital_sound p (Some Var) =
      gain_sound s d variable (λ e. after_item (part_read e)) f tt
      (λ g. (refit _ _ _ g, part_added d.brackets d.so_far (variable ∷ []) l refl))
  capital_sound p (Some (One o)) = gain_sound s d (one_sided o) (opening 1 p) f tt (λ g. (g, (d.so_far, one_sided o, refl, refl, l)))
  capital_sound p (Some (Two o)) = gain_sound s d (two_sided o) (opening 2 p) f tt (λ g. (g, (d.so_far, two_sided o, refl, refl, l)))

  any_sound : (t : Token) (p : ℕ) (text : List ℕ) (other : Outcome) → SoundAfter other → SoundAfter (any_item s d t p text other)
  any_sound t p text other h =
      cond_both (is Name t) (operand_item s d p (declared s text)) (cond (is Capitals t) (capital_item s d p (operator_called text)) other) SoundAfter
      (λ _. operand_sound p text (declared s text) refl)
      (λ _. cond_both (is Capitals t) (capital_item s d p (operator_called text)) other SoundAfter (λ _. capital_sound p (operator_called text)) (λ _. h))

no_parts_sound : (bs : List Bracket) (p : ℕ) → SoundAfter (no_parts bs p)
no_parts_sound [] p = tt
no_parts_sound (b ∷ bs) p = tt

closed : (b : Bracket) (bs : List Bracket) (xs : List Part) → Laid (b ∷ bs) xs → eqb b.filled b.wants ≡ true → LaidAfter (filled_one bs) xs
closed b bs xs l q =
    let all = eqb-true b.filled b.wants q in
    let same : parts_in l.1 + 0 ≡ b.filled = omega (arith, l.4) in
    subst (LaidAfter (filled_one bs)) (sym l.3)
    (part_added bs l.0 (l.1 ∷ l.2) l.6 (ap (λ k. whole_parts k l.2) same ∙ l.5))

done_sound : (s : State) (d : Draft) (bs : List Bracket) (t : Token) (p : ℕ) → bs ≡ d.brackets → Fitting s.outline d → LaidAfter bs d.so_far → SoundAfter (item_done s d bs t p)
done_sound s d [] t p e f l = cond_both (is Equals t) (goes (to s (mnemonic_word d))) (fails 3 p) SoundAfter (λ _. (f, l)) (λ _. tt)
done_sound s d (b ∷ bs) t p e f l =
    let after = goes (to s (after_item (part_read (with_brackets d bs)))) in
    cond_both (is Comma t) (cond (eqb b.filled 1) (goes (to s (item d))) (fails 3 p))
    (cond (is Close t) (cond (eqb b.filled b.wants) after (fails 5 b.stands)) (fails 3 p)) SoundAfter
    (λ _. cond_both (eqb b.filled 1) (goes (to s (item d))) (fails 3 p) SoundAfter (λ _. (f, subst (λ cs. Laid cs d.so_far) e l)) (λ _. tt))
    (λ _.
    cond_both (is Close t) (cond (eqb b.filled b.wants) after (fails 5 b.stands)) (fails 3 p) SoundAfter
    (λ _. cond_both (eqb b.filled b.wants) after (fails 5 b.stands) SoundAfter (λ q. (refit _ d _ f, closed b bs d.so_far l q)) (λ _. tt))
    (λ _. tt))

upto_sound : (limit : ℕ) (t : Token) (p : ℕ) (o : Outcome) → (value_in t ≤ limit → SoundAfter o) → SoundAfter (number_upto limit t p o)
upto_sound limit t p o h =
    cond_both (is_number t) (cond (ltb limit (value_in t)) (fails 6 p) o) (fails 3 p) SoundAfter
    (λ _. cond_both (ltb limit (value_in t)) (fails 6 p) o SoundAfter (λ _. tt) (λ e. h (ltb-false limit (value_in t) e))) (λ _. tt)

limits_same : (xs ys : List Part) → length xs ≡ length ys → operands_among xs ≡ operands_among ys → leaves_among xs ≡ leaves_among ys → within_limits xs ≡ within_limits ys
limits_same xs ys a b c = λ i. leb (a i) 7 && (leb (b i) 2 && leb (c i) 2)

ranged_fit : (o : Outline) (d : Draft) (low high : ℕ) → Fitting o d → EndsInConstant d.so_far → Fitting o (ranged d low high)
ranged_fit o d low high f some =
    let xs = d.so_far in
    let c = constant low high in
    let long : length (last_replaced xs c) ≡ length xs =
    ap length (replaced_end xs some c) ∙ length_push some.0 c ∙ sym (ap length some.3 ∙ length_push some.0 (constant some.1 some.2)) in
    record {
      left_declared = f.left_declared;
      operands_declared = All-append (OperandIn (length o.declarations)) (take (length xs - 1) xs) (c ∷ []) (All-take _ (length xs - 1) xs f.operands_declared) (tt, tt);
      limits = limits_same (last_replaced xs c) xs long (operands_replaced xs some low high) (leaves_replaced xs some low high) ∙ f.limits;
      room = f.room;
    }

ranged_laid : (bs : List Bracket) (xs : List Part) (low high : ℕ) → LaidConstant bs xs → LaidAfter bs (last_replaced xs (constant low high))
ranged_laid bs xs low high l =
    let c = constant low high in
    subst (LaidAfter bs) (sym (replaced_end xs (l.0, l.1, l.2, l.3) c))
    (subst (λ cs. LaidAfter cs (l.0 ++ c ∷ [])) (sym l.4.1) (part_added l.4.0 l.0 (c ∷ []) l.4.2 refl))

is_none : (o : Option ℕ) → is_some o ≡ false → o ≡ None
is_none None e = refl
is_none (Some i) e = absurd (both_ways true e refl)

left_sound : (s : State) (p : ℕ) (t : List ℕ) (o : Option ℕ) → declared s t ≡ o → SoundAfter (left_found s p o)
left_sound s p t None e = tt
left_sound s p t (Some i) e =
    let n = length s.outline.productions in
    cond_both (leb 128 n) (fails 7 s.line) (goes (to s (left_colon (record { left_name = i; so_far = []; brackets = [] })))) SoundAfter (λ _. tt)
    (λ h. (record { left_declared = found_below s t i e; operands_declared = tt; limits = refl; room = leb-false 128 n h }, refl))

start_sound : (s : State) (p : ℕ) (o : Option ℕ) → SoundAfter (start_found s p o)
start_sound s p None = tt
start_sound s p (Some i) = tt

sound_at : (w : Awaits) (s : State) (t : Token) (p : ℕ) (text : List ℕ) → SoundAt s.outline w → SoundAfter (step_at w s t p text)
sound_at header_end s t p text h = cond_both (is LineEnd t) (goes (next_line s p directive)) (fails 3 p) SoundAfter (λ _. tt) (λ _. tt)
sound_at directive s t p text h =
    let second = is Percent t && (same_text text (codes "%start") && ltb 0 (length s.outline.declarations)) in
    cond_both (is Percent t && same_text text (codes "%nt")) (goes (to s new_name)) (cond second (goes (to s start_name)) (fails 3 p)) SoundAfter (λ _. tt)
    (λ _. cond_both second (goes (to s start_name)) (fails 3 p) SoundAfter (λ _. tt) (λ _. tt))
sound_at new_name s t p text h =
    let n = length s.outline.declarations in
    let known = is_some (declared s text) in
    let after = goes (to s (name_place text)) in
    cond_both (is Name t) (cond (leb 16 n) (fails 7 p) (cond known (fails 8 p) after)) (fails 3 p) SoundAfter
    (λ _.
    cond_both (leb 16 n) (fails 7 p) (cond known (fails 8 p) after) SoundAfter (λ _. tt)
    (λ few. cond_both known (fails 8 p) after SoundAfter (λ _. tt) (λ none. (leb-false 16 n few, is_none (declared s text) none))))
    (λ _. tt)
sound_at (name_place letters) s t p text h = cond_both (is Capitals t && eqb (length text) 1) _ (fails 3 p) SoundAfter (λ _. tt) (λ _. tt)
sound_at declaration_end s t p text h = cond_both (is LineEnd t) (goes (next_line s p directive)) (fails 3 p) SoundAfter (λ _. tt) (λ _. tt)
sound_at start_name s t p text h = cond_both (is Name t) (start_found s p (declared s text)) (fails 3 p) SoundAfter (λ _. start_sound s p (declared s text)) (λ _. tt)
sound_at start_end s t p text h =
    cond_both (is LineEnd t) (goes (next_line s p rule_or_end)) (cond (is End t) (ends s.outline) (fails 3 p)) SoundAfter (λ _. tt) (λ _. cond_both (is End t) (ends s.outline) (fails 3 p) SoundAfter (λ _. tt) (λ _. tt))
sound_at rule_or_end s t p text h =
    cond_both (is Name t) (left_found s p (declared s text)) (cond (is End t) (ends s.outline) (fails 3 p)) SoundAfter
    (λ _. left_sound s p text (declared s text) refl) (λ _. cond_both (is End t) (ends s.outline) (fails 3 p) SoundAfter (λ _. tt) (λ _. tt))
sound_at (left_colon d) s t p text h = cond_both (is Colon t) (goes (to s (item d))) (fails 3 p) SoundAfter (λ _. h) (λ _. tt)
sound_at (first_item d) s t p text h =
    any_sound s d h.0 h.1 t p text (cond (is Close t) (no_parts d.brackets p) (fails 3 p))
    (cond_both (is Close t) (no_parts d.brackets p) (fails 3 p) SoundAfter (λ _. no_parts_sound d.brackets p) (λ _. tt))
sound_at (item d) s t p text h = any_sound s d h.0 h.1 t p text (fails 3 p) tt
sound_at (opening n q d) s t p text h =
    cond_both (is Open t) (goes (to s (first_item (with_brackets d (record { wants = n; stands = q; filled = 0 } ∷ d.brackets))))) (fails 3 p) SoundAfter
    (λ _. (refit _ d _ h.0, (h.1.0, h.1.1, [], h.1.2, h.1.3, refl, h.1.4))) (λ _. tt)
sound_at (after_item d) s t p text h = done_sound s d d.brackets t p refl h.0 h.1
sound_at (after_constant d) s t p text h =
    cond_both (is Colon t) (goes (to s (low_end d))) (item_done s d d.brackets t p) SoundAfter (λ _. h)
    (λ _. done_sound s d d.brackets t p refl h.0 (constant_after d.brackets d.so_far h.1))
sound_at (low_end d) s t p text h = upto_sound (2 ^ 32 - 1) t p (goes (to s (two_dots (value_in t) p d))) (λ _. h)
sound_at (two_dots low q d) s t p text h = cond_both (is Dots t) (goes (to s (high_end low q d))) (fails 3 p) SoundAfter (λ _. h) (λ _. tt)
sound_at (high_end low q d) s t p text h =
    let after = goes (to s (after_item (ranged d low (value_in t)))) in
    upto_sound (2 ^ 32 - 1) t p (cond (ltb (value_in t) low) (fails 6 q) after)
    (λ _.
    cond_both (ltb (value_in t) low) (fails 6 q) after SoundAfter (λ _. tt)
    (λ _. (
      ranged_fit s.outline d low (value_in t) h.0 (constant_last d.brackets d.so_far h.1),
      ranged_laid d.brackets d.so_far low (value_in t) h.1,
    )))
sound_at (mnemonic_word d) s t p text h =
    let chain = renames s.outline.declarations d.left_name d.so_far in
    let after = goes (to s (size_number None d)) in
    cond_both (is Name t) (goes (to s (size_number (Some text) d))) (cond (is Minus t) (cond chain after (fails 8 p)) (fails 3 p)) SoundAfter (λ _. (h.0, h.1, tt))
    (λ _.
    cond_both (is Minus t) (cond chain after (fails 8 p)) (fails 3 p) SoundAfter
    (λ _. cond_both chain after (fails 8 p) SoundAfter (λ e. (h.0, h.1, e)) (λ _. tt)) (λ _. tt))
sound_at (size_number e d) s t p text h = upto_sound 99 t p (goes (to s (cycles_number (value_in t) e d))) (λ few. (h.0, h.1, h.2, few))
sound_at (cycles_number n e d) s t p text h = upto_sound 999 t p (goes (rule_read s d e n (value_in t))) (λ _. tt)
sound_at rule_end s t p text h =
    cond_both (is LineEnd t) (goes (next_line s p rule_or_end)) (cond (is End t) (ends s.outline) (fails 3 p)) SoundAfter (λ _. tt)
    (λ _. cond_both (is End t) (ends s.outline) (fails 3 p) SoundAfter (λ _. tt) (λ _. tt))

pub sound_step : (s : State) (t : Token) (p : ℕ) (text : List ℕ) → Sound s → SoundAfter (step s t p text)
sound_step s t p text h = sound_at s.awaits s t p text h
