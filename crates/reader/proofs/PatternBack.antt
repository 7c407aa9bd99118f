-- Words that lead on from where an item is awaited begin with a pattern's words.
use Rattle.std.proofs.Common.{◌≡◌, ℕ, zero, suc, ◌-◌, ◌^◌, ◌<◌, ◌≤◌, true, cond, eqb, ltb, ◌⊎◌, List, [], ◌∷◌, ◌++◌, length, Some, None, codes, Option, sym, refl, ap, ◌∙◌, subst, inl, inr, ⊎_elim, arith, length-append}
use Rattle.std.proofs.lemmas.List.{append_assoc}
use Rattle.std.proofs.lemmas.Bool.{cond-true, cond-false, cond_both, cases_Bool, eqb-true, ltb-false}
use Rattle.operators.specs.declared.Unary.{Unary}
use Rattle.operators.specs.declared.Binary.{Binary}
use Rattle.operators.specs.declared.Operator.{Operator}
use Rattle.operators.specs.declared.Operator.TheVariants.{Cnst, Var, One, Two}
use Rattle.operators.specs.Operators.{operator_name}
use Rattle.lexer.specs.declared.Token.{Token}
use Rattle.lexer.specs.declared.Token.TheVariants.{Number, Name, Capitals, Dots, Colon, Open, Close, Comma, End}
use Rattle.description.specs.Outlines.{Part, operand, one_sided, two_sided, constant, variable, Outline}
use Rattle.reader.specs.Words.{is, value_in, operator_called, declared_from}
use Rattle.reader.specs.Reading.{Bracket, Draft, Awaits, first_item, item, opening, after_item, after_constant, low_end, two_dots, high_end, State, Outcome, goes, fails, to, within_limits, filled_one, with_brackets, gained, part_read, gain, declared, operand_item, capital_item, any_item, item_done, ranged}
use Rattle.reader.specs.Grammar.{Word, name_word, capitals_word, colon, open_bracket, close_bracket, comma, dots, Form, name_form, constant_form, variable_form, one_form, two_form, items_in, PatternWords}
use Rattle.reader.proofs.TokenKinds.{Proper, kind_is, Fine, fine_goes, tested, passed}
use Rattle.reader.proofs.Walks.{Leads}
use Rattle.reader.proofs.Namings.{named, name_called}
use Rattle.reader.proofs.Limits.{other_range, replaced}
use Rattle.reader.proofs.PatternRead.{grown, Takes, done_same}
use Rattle.reader.proofs.Expected.{same_state, word_is, mark_back, number_back, figure_back}

-- what the words begin with: a pattern, after which they lead on
pub record Parsed (s : State) (out : Outline) (d : Draft) (ws : List Word) : Type 0 where
  pub form : Form
  pub words : List Word
  pub rest : List Word
  pub ws_are : ws ≡ words ++ rest
  pub is_pattern : PatternWords s.outline.declarations form words
  pub fits : within_limits (d.so_far ++ items_in form) ≡ true
  pub onward : Leads rest (to s (after_item (grown d (items_in form)))) out

-- what the words begin with after an operator: one part in brackets
record OnePart (s : State) (out : Outline) (d : Draft) (ws : List Word) : Type 0 where
  pub form : Form
  pub part : List Word
  pub rest : List Word
  pub ws_are : ws ≡ open_bracket ∷ (part ++ close_bracket ∷ rest)
  pub is_pattern : PatternWords s.outline.declarations form part
  pub fits : within_limits (d.so_far ++ items_in form) ≡ true
  pub onward : Leads rest (to s (after_item (grown d (items_in form)))) out

-- or two
record TwoParts (s : State) (out : Outline) (d : Draft) (ws : List Word) : Type 0 where
  pub first : Form
  pub second : Form
  pub left : List Word
  pub right : List Word
  pub rest : List Word
  pub ws_are : ws ≡ open_bracket ∷ (left ++ comma ∷ (right ++ close_bracket ∷ rest))
  pub left_is : PatternWords s.outline.declarations first left
  pub right_is : PatternWords s.outline.declarations second right
  pub fits : within_limits ((d.so_far ++ items_in first) ++ items_in second) ≡ true
  pub onward : Leads rest (to s (after_item (record { left_name = d.left_name; so_far = (d.so_far ++ items_in first) ++ items_in second; brackets = filled_one d.brackets }))) out

-- a constant's range
record Range (s : State) (out : Outline) (d : Draft) (ws : List Word) : Type 0 where
  pub low : ℕ
  pub high : ℕ
  pub first : Word
  pub last : Word
  pub rest : List Word
  pub ws_are : ws ≡ colon ∷ first ∷ dots ∷ last ∷ rest
  pub low_is : first.kind ≡ Number low
  pub high_is : last.kind ≡ Number high
  pub ordered : low ≤ high
  pub onward : Leads rest (to s (after_item (ranged d low high))) out

abbrev Barred : (Token → ℕ → Outcome) → Type 0
Barred other = (t : Token) (p : ℕ) → Fine (other t p) → ⊥

abbrev Reads : State → Outline → ℕ → Type 0
Reads s out n =
    (ws : List Word) (d : Draft) (w : Awaits) (other : Token → ℕ → Outcome) →
    length ws < n → Takes d w other → Barred other → Leads ws (to s w) out → Parsed s out d ws

gain_back : (s : State) (d : Draft) (x : Part) (k : Draft → Awaits) (u : State) → gain s d x k ≡ goes u → (within_limits (d.so_far ++ x ∷ []) ≡ true) × (u ≡ to s (k (gained d x)))
gain_back s d x k u e =
    let by = tested (within_limits (d.so_far ++ x ∷ [])) (goes (to s (k (gained d x)))) 7 s.line (fine_goes _ u e) in
    (by.0, sym (same_state (to s (k (gained d x))) u (sym by.1 ∙ e)))

module _ (s : State) (out : Outline) where
  -- a part of a bracket is read: a comma after the first, or the bracket's end after the last
  done_back : (ws : List Word) (n : ℕ) (xs : List Part) (b : Bracket) (bs : List Bracket) → Leads ws (to s (after_item (record { left_name = n; so_far = xs; brackets = b ∷ bs }))) out → ((b.filled ≡ 1) × (rest : List Word) × (ws ≡ comma ∷ rest) × Leads rest (to s (item (record { left_name = n; so_far = xs; brackets = b ∷ bs }))) out) ⊎ ((b.filled ≡ b.wants) × (rest : List Word) × (ws ≡ close_bracket ∷ rest) × Leads rest (to s (after_item (record { left_name = n; so_far = xs; brackets = filled_one bs }))) out)
  unfolding Leads
  done_back [] n xs b bs l = absurd (subst Fine (sym l.2) tt)
  done_back (w ∷ ws) n xs b bs l =
      let p = l.0 in
      let u = l.1 in
      let d : Draft = record { left_name = n; so_far = xs; brackets = b ∷ bs } in
      let on : Outcome = goes (to s (item d)) in
      let off : Outcome = goes (to s (after_item (record { left_name = n; so_far = xs; brackets = filled_one bs }))) in
      let at-comma : Outcome = cond (eqb b.filled 1) on (fails 3 p) in
      let at-close : Outcome = cond (eqb b.filled b.wants) off (fails 5 b.stands) in
      ⊎_elim
      (λ c.
      let e : at-comma ≡ goes u = sym (cond-true (is Comma w.kind) at-comma (cond (is Close w.kind) at-close (fails 3 p)) c) ∙ l.3 in
      let by = tested (eqb b.filled 1) on 3 p (fine_goes at-comma u e) in
      let kind = kind_is Comma w.kind c in
      inl (
        eqb-true b.filled 1 by.0,
        ws,
        ap (λ v. v ∷ ws) (word_is w Comma (codes ",") kind (subst (λ t. Proper t w.spelling) kind l.2)),
        subst (λ v. Leads ws v out) (sym (same_state (to s (item d)) u (sym by.1 ∙ e))) l.4,
      ))
      (λ c.
      let e : cond (is Close w.kind) at-close (fails 3 p) ≡ goes u = sym (cond-false (is Comma w.kind) at-comma _ c) ∙ l.3 in
      let closes = tested (is Close w.kind) at-close 3 p (fine_goes _ u e) in
      let f : at-close ≡ goes u = sym closes.1 ∙ e in
      let by = tested (eqb b.filled b.wants) off 5 b.stands (fine_goes at-close u f) in
      let kind = kind_is Close w.kind closes.0 in
      inr (
        eqb-true b.filled b.wants by.0,
        ws,
        ap (λ v. v ∷ ws) (word_is w Close (codes ")") kind (subst (λ t. Proper t w.spelling) kind l.2)),
        subst (λ v. Leads ws v out) (sym (same_state _ u (sym by.1 ∙ f))) l.4,
      ))
      (cases_Bool (is Comma w.kind))

  -- the parts in the brackets of an operator
  module _ (wants p : ℕ) (d : Draft) (ws ws1 : List Word) (opened : ws ≡ open_bracket ∷ ws1) where
    abbrev inner : Draft
    inner = with_brackets d (record { wants = wants; stands = p; filled = 0 } ∷ d.brackets)

    two_from : (one : Parsed s out inner ws1) (ws2 : List Word) → one.rest ≡ comma ∷ ws2 → Parsed s out (grown inner (items_in one.form)) ws2 → (wants ≡ 2) × TwoParts s out d ws
    two_from one ws2 e two =
        ⊎_elim
        (λ third. absurd (omega (arith, third.0)))
        (λ last. (
          sym last.0,
          record {
            first = one.form;
            second = two.form;
            left = one.words;
            right = two.words;
            rest = last.1;
            ws_are =
                opened
                ∙ ap (λ l. open_bracket ∷ l) (one.ws_are ∙ ap (λ l. one.words ++ l) (e ∙ ap (λ l. comma ∷ l) (two.ws_are ∙ ap (λ l. two.words ++ l) last.2)));
            left_is = one.is_pattern;
            right_is = two.is_pattern;
            fits = two.fits;
            onward = last.3;
          },
        ))
        (done_back two.rest d.left_name _ _ _ two.onward)

    one_from : (n : ℕ) → Reads s out n → length ws1 < n → Parsed s out inner ws1 → ((wants ≡ 1) × OnePart s out d ws) ⊎ ((wants ≡ 2) × TwoParts s out d ws)
    one_from n ih few one =
        ⊎_elim
        (λ more. inr (two_from one more.1 more.2
        (ih more.1 (grown inner (items_in one.form)) (item (grown inner (items_in one.form))) (λ t p. fails 3 p)
        (omega (arith, ap length one.ws_are, length-append one.words one.rest, ap length more.2))
        (λ u t p text. refl) (λ t p f. f) more.3)))
        (λ last. inl (
          sym last.0,
          record {
            form = one.form;
            part = one.words;
            rest = last.1;
            ws_are = opened ∙ ap (λ l. open_bracket ∷ l) (one.ws_are ∙ ap (λ l. one.words ++ l) last.2);
            is_pattern = one.is_pattern;
            fits = one.fits;
            onward = last.3;
          },
        ))
        (done_back one.rest d.left_name _ _ _ one.onward)

  bracket_back : (n : ℕ) → Reads s out n → (wants p : ℕ) (d : Draft) (ws : List Word) → length ws ≤ n → Leads ws (to s (opening wants p d)) out → ((wants ≡ 1) × OnePart s out d ws) ⊎ ((wants ≡ 2) × TwoParts s out d ws)
  bracket_back n ih wants p d ws few l =
      let within : Draft = with_brackets d (record { wants = wants; stands = p; filled = 0 } ∷ d.brackets) in
      let opened = mark_back Open (codes "(") ws (to s (opening wants p d)) (λ _. to s (first_item within)) out (λ v. refl) refl (λ t h. h) (λ t p text. refl) l in
      let short : length opened.1 < n = omega (arith, ap length opened.2) in
      one_from wants p d ws opened.1 opened.2 n ih short
      (ih opened.1 within (first_item within) (λ t q. cond (is Close t) (fails 5 p) (fails 3 q)) short (λ u t q text. refl)
      (λ t q. cond_both (is Close t) _ _ (λ x. Fine x → ⊥) (λ _ f. f) (λ _ f. f)) opened.3)

  high_from : (w : Word) (ws : List Word) (d : Draft) (v q : ℕ) (first : Word) (rest ws2 : List Word) → w ≡ colon → ws ≡ first ∷ rest → first.kind ≡ Number v → rest ≡ dots ∷ ws2 → Leads ws2 (to s (high_end v q d)) out → Range s out d (w ∷ ws)
  high_from w ws d v q first rest ws2 is e kind f l =
      let high = number_back (2 ^ 32 - 1) ws2 (to s (high_end v q d)) (λ t r. cond (ltb (value_in t) v) (fails 6 q) (goes (to s (after_item (ranged d v (value_in t)))))) out (omega arith) (λ t r text. refl) l in
      let h = value_in high.2.kind in
      let by = passed (ltb h v) (goes (to s (after_item (ranged d v h)))) 6 q (fine_goes _ high.1 high.7) in
      record {
        low = v;
        high = h;
        first = first;
        last = high.2;
        rest = high.3;
        ws_are = (λ i. is i ∷ e i) ∙ ap (λ x. colon ∷ first ∷ x) (f ∙ ap (λ x. dots ∷ x) high.4);
        low_is = kind;
        high_is = high.5;
        ordered = ltb-false h v by.0;
        onward = subst (λ x. Leads high.3 x out) (sym (same_state (to s (after_item (ranged d v h))) high.1 (sym by.1 ∙ high.7))) high.8;
      }

  range_from : (w : Word) (ws : List Word) (d : Draft) → w ≡ colon → Leads ws (to s (low_end d)) out → Range s out d (w ∷ ws)
  range_from w ws d is l =
      let low = figure_back (2 ^ 32 - 1) ws (to s (low_end d)) (λ v q. to s (two_dots v q d)) out (omega arith) (λ t q text. refl) l in
      let between = mark_back Dots (codes "..") low.rest (to s (two_dots low.value low.place d)) (λ _. to s (high_end low.value low.place d)) out (λ v. refl) refl (λ t h. h) (λ t q text. refl) low.onward in
      high_from w ws d low.value low.place low.word low.rest between.1 is low.ws_are low.is_number between.2 between.3

  -- after a constant: its range, or as after an item
  constant_back : (ws : List Word) (d : Draft) → Leads ws (to s (after_constant d)) out → Range s out d ws ⊎ Leads ws (to s (after_item d)) out
  unfolding Leads
  constant_back [] d l = inr (l.0, l.1, done_same s (after_item d) (after_constant d) d d.brackets End l.0 ∙ l.2)
  constant_back (w ∷ ws) d l =
      let p = l.0 in
      let u = l.1 in
      ⊎_elim
      (λ c.
      let at_low : goes (to s (low_end d)) ≡ goes u = sym (cond-true (is Colon w.kind) (goes (to s (low_end d))) (item_done (to s (after_constant d)) d d.brackets w.kind p) c) ∙ l.3 in
      let kind = kind_is Colon w.kind c in
      inl (range_from w ws d (word_is w Colon (codes ":") kind (subst (λ t. Proper t w.spelling) kind l.2))
      (subst (λ v. Leads ws v out) (sym (same_state (to s (low_end d)) u at_low)) l.4)))
      (λ c. inr (
        p,
        u,
        l.2,
        done_same s (after_item d) (after_constant d) d d.brackets w.kind p ∙ sym (cond-false (is Colon w.kind) (goes (to s (low_end d))) _ c) ∙ l.3,
        l.4,
      ))
      (cases_Bool (is Colon w.kind))

  -- by the first word: a name, or an operator
  module _ (v : Word) (ws : List Word) (d : Draft) (w : Awaits) (p : ℕ) (u : State) (onward : Leads ws u out) where
    there : (x : State) → u ≡ x → Leads ws x out
    there x e = subst (λ y. Leads ws y out) e onward

    name_back : (o : Option ℕ) → v.kind ≡ Name → declared_from 0 v.spelling s.outline.declarations ≡ o → operand_item (to s w) d p o ≡ goes u → Parsed s out d (v ∷ ws)
    name_back None kind is e = absurd (subst Fine (sym e) tt)
    name_back (Some a) kind is e =
        let by = gain_back (to s w) d (operand a) (λ e. after_item (part_read e)) u e in
        record {
          form = name_form a;
          words = name_word v.spelling ∷ [];
          rest = ws;
          ws_are = ap (λ x. x ∷ ws) (word_is v Name v.spelling kind refl);
          is_pattern = (v.spelling, named v.spelling s.outline.declarations a is, refl);
          fits = by.0;
          onward = there _ by.1;
        }

    constant_parsed : v ≡ capitals_word (operator_name Cnst) → capital_item (to s w) d p (Some Cnst) ≡ goes u → Parsed s out d (v ∷ ws)
    constant_parsed is e =
        let full : Part = constant 0 (2 ^ 32 - 1) in
        let by = gain_back (to s w) d full (λ e. after_constant (part_read e)) u e in
        ⊎_elim
        (λ r. record {
          form = constant_form r.low r.high;
          words = capitals_word (operator_name Cnst) ∷ colon ∷ r.first ∷ dots ∷ r.last ∷ [];
          rest = r.rest;
          ws_are = (λ i. is i ∷ r.ws_are i);
          is_pattern = inr (r.first, r.last, r.low_is, r.high_is, r.ordered, refl);
          fits = sym (other_range d.so_far 0 (2 ^ 32 - 1) r.low r.high) ∙ by.0;
          onward =
              subst (λ xs. Leads r.rest (to s (after_item (record { left_name = d.left_name; so_far = xs; brackets = filled_one d.brackets }))) out)
              (replaced d.so_far full (constant r.low r.high)) r.onward;
        })
        (λ bare. record {
          form = constant_form 0 (2 ^ 32 - 1);
          words = capitals_word (operator_name Cnst) ∷ [];
          rest = ws;
          ws_are = ap (λ x. x ∷ ws) is;
          is_pattern = inl (refl, refl, refl);
          fits = by.0;
          onward = bare;
        })
        (constant_back ws (grown d (full ∷ [])) (there _ by.1))

    one_parsed : (n : ℕ) → Reads s out n → length ws ≤ n → (o : Unary) → v ≡ capitals_word (operator_name (One o)) → capital_item (to s w) d p (Some (One o)) ≡ goes u → Parsed s out d (v ∷ ws)
    one_parsed n ih few o is e =
        let by = gain_back (to s w) d (one_sided o) (opening 1 p) u e in
        ⊎_elim
        (λ one.
        let r = one.1 in
        let regrouped = append_assoc d.so_far (one_sided o ∷ []) (items_in r.form) in
        record {
          form = one_form o r.form;
          words = capitals_word (operator_name (One o)) ∷ open_bracket ∷ (r.part ++ close_bracket ∷ []);
          rest = r.rest;
          ws_are = (λ i. is i ∷ r.ws_are i) ∙ ap (λ l. capitals_word (operator_name (One o)) ∷ open_bracket ∷ l) (sym (append_assoc r.part (close_bracket ∷ []) r.rest));
          is_pattern = (r.part, r.is_pattern, refl);
          fits = ap within_limits (sym regrouped) ∙ r.fits;
          onward =
              subst (λ xs. Leads r.rest (to s (after_item (record { left_name = d.left_name; so_far = xs; brackets = filled_one d.brackets }))) out) regrouped r.onward;
        })
        (λ two. absurd (omega (arith, two.0)))
        (bracket_back n ih 1 p (gained d (one_sided o)) ws few (there _ by.1))

    two_parsed : (n : ℕ) → Reads s out n → length ws ≤ n → (o : Binary) → v ≡ capitals_word (operator_name (Two o)) → capital_item (to s w) d p (Some (Two o)) ≡ goes u → Parsed s out d (v ∷ ws)
    two_parsed n ih few o is e =
        let by = gain_back (to s w) d (two_sided o) (opening 2 p) u e in
        ⊎_elim
        (λ one. absurd (omega (arith, one.0)))
        (λ two.
        let r = two.1 in
        let front : List Part = d.so_far ++ two_sided o ∷ [] in
        let regrouped : (front ++ items_in r.first) ++ items_in r.second ≡ d.so_far ++ (two_sided o ∷ (items_in r.first ++ items_in r.second)) =
        append_assoc front (items_in r.first) (items_in r.second) ∙ append_assoc d.so_far (two_sided o ∷ []) (items_in r.first ++ items_in r.second) in
        record {
          form = two_form o r.first r.second;
          words = capitals_word (operator_name (Two o)) ∷ open_bracket ∷ (r.left ++ comma ∷ (r.right ++ close_bracket ∷ []));
          rest = r.rest;
          ws_are =
              (λ i. is i ∷ r.ws_are i)
              ∙ ap (λ l. capitals_word (operator_name (Two o)) ∷ open_bracket ∷ l)
              (ap (λ l. r.left ++ comma ∷ l) (sym (append_assoc r.right (close_bracket ∷ []) r.rest)) ∙ sym (append_assoc r.left (comma ∷ (r.right ++ close_bracket ∷ [])) r.rest));
          is_pattern = (r.left, r.right, r.left_is, r.right_is, refl);
          fits = ap within_limits (sym regrouped) ∙ r.fits;
          onward =
              subst (λ xs. Leads r.rest (to s (after_item (record { left_name = d.left_name; so_far = xs; brackets = filled_one d.brackets }))) out) regrouped r.onward;
        })
        (bracket_back n ih 2 p (gained d (two_sided o)) ws few (there _ by.1))

    capital_back : (n : ℕ) → Reads s out n → length ws ≤ n → (o : Option Operator) → v.kind ≡ Capitals → operator_called v.spelling ≡ o → capital_item (to s w) d p o ≡ goes u → Parsed s out d (v ∷ ws)
    capital_back n ih few None kind is e = absurd (subst Fine (sym e) tt)
    capital_back n ih few (Some Cnst) kind is e = constant_parsed (word_is v Capitals _ kind (name_called v.spelling Cnst is)) e
    capital_back n ih few (Some Var) kind is e =
        let by = gain_back (to s w) d variable (λ e. after_item (part_read e)) u e in
        record {
          form = variable_form;
          words = capitals_word (operator_name Var) ∷ [];
          rest = ws;
          ws_are = ap (λ x. x ∷ ws) (word_is v Capitals (operator_name Var) kind (name_called v.spelling Var is));
          is_pattern = refl;
          fits = by.0;
          onward = there _ by.1;
        }
    capital_back n ih few (Some (One o)) kind is e = one_parsed n ih few o (word_is v Capitals _ kind (name_called v.spelling (One o) is)) e
    capital_back n ih few (Some (Two o)) kind is e = two_parsed n ih few o (word_is v Capitals _ kind (name_called v.spelling (Two o) is)) e

  item_back : (n : ℕ) → Reads s out n → Reads s out (suc n)
  unfolding Leads
  item_back n ih [] d w other few takes barred l = absurd (barred End l.0 (subst Fine (sym l.2 ∙ takes (to s w) End l.0 l.1) tt))
  item_back n ih (v ∷ ws) d w other few takes barred l =
      let p = l.0 in
      let u = l.1 in
      let e : any_item (to s w) d v.kind p v.spelling (other v.kind p) ≡ goes u = sym (takes (to s w) v.kind p v.spelling) ∙ l.3 in
      let at_name : Outcome = operand_item (to s w) d p (declared s v.spelling) in
      let at-capitals : Outcome = capital_item (to s w) d p (operator_called v.spelling) in
      ⊎_elim
      (λ c. name_back v ws d w p u l.4 _ (kind_is Name v.kind c) refl (sym (cond-true (is Name v.kind) at_name _ c) ∙ e))
      (λ c.
      let f : cond (is Capitals v.kind) at-capitals (other v.kind p) ≡ goes u = sym (cond-false (is Name v.kind) at_name _ c) ∙ e in
      ⊎_elim
      (λ k. capital_back v ws d w p u l.4 n ih (omega arith) _ (kind_is Capitals v.kind k) refl (sym (cond-true (is Capitals v.kind) at-capitals _ k) ∙ f))
      (λ k. absurd (barred v.kind p (fine_goes _ u (sym (cond-false (is Capitals v.kind) at-capitals _ k) ∙ f))))
      (cases_Bool (is Capitals v.kind)))
      (cases_Bool (is Name v.kind))

  pub pattern_back : (n : ℕ) → Reads s out n
  pattern_back zero ws d w other few takes barred l = absurd (omega arith)
  pattern_back (suc n) ws d w other few takes barred l = item_back n (pattern_back n) ws d w other few takes barred l
