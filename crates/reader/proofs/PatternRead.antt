-- A pattern's words are read as its items, from wherever an item is awaited.
use Rattle.std.proofs.Common.{◌≡◌, ℕ, ◌-◌, ◌^◌, ◌≤◌, true, false, ltb, List, [], ◌∷◌, ◌++◌, Some, sym, refl, ap, ◌∙◌, subst, ⊎_elim, arith}
use Rattle.std.proofs.lemmas.List.{append_assoc}
use Rattle.std.proofs.lemmas.Bool.{cond-true, cond-false, cases_Bool, le-ltb}
use Rattle.operators.specs.declared.Operator.{Operator}
use Rattle.operators.specs.declared.Operator.TheVariants.{Cnst, Var, One, Two}
use Rattle.operators.specs.Operators.{operator_name}
use Rattle.lexer.specs.declared.Token.{Token}
use Rattle.lexer.specs.declared.Token.TheVariants.{Number, Name, Capitals, Colon}
use Rattle.description.specs.Outlines.{Part, operand, one_sided, two_sided, constant, variable, Outline}
use Rattle.reader.specs.Words.{is}
use Rattle.reader.specs.Reading.{Bracket, Draft, Awaits, first_item, item, opening, after_item, after_constant, low_end, two_dots, high_end, State, Outcome, goes, fails, to, within_limits, filled_one, with_brackets, gained, part_read, gain, operand_item, capital_item, any_item, item_done, ranged, step_at, step}
use Rattle.reader.specs.Grammar.{Word, colon, close_bracket, comma, dots, Apart, Form, name_form, constant_form, variable_form, one_form, two_form, items_in, PatternWords}
use Rattle.reader.proofs.TokenKinds.{Proper, kind_is, number_goes, Fine, fine_goes}
use Rattle.reader.proofs.Walks.{Always}
use Rattle.reader.proofs.Namings.{found, called}
use Rattle.reader.proofs.Limits.{front_within, other_range, replaced}

-- some items more, which are a part of the innermost bracket
abbrev pub grown : Draft → List Part → Draft
grown d xs = record { left_name = d.left_name; so_far = d.so_far ++ xs; brackets = filled_one d.brackets }

-- what is awaited lets an item stand there
abbrev pub Takes : Draft → Awaits → (Token → ℕ → Outcome) → Type 0
Takes d w other = (s : State) (t : Token) (p : ℕ) (text : List ℕ) → step_at w s t p text ≡ any_item s d t p text (other t p)

pub gains : (s : State) (d : Draft) (x : Part) (k : Draft → Awaits) → within_limits (d.so_far ++ x ∷ []) ≡ true → gain s d x k ≡ goes (to s (k (gained d x)))
gains s d x k e = cond-true (within_limits (d.so_far ++ x ∷ [])) (goes (to s (k (gained d x)))) (fails 7 s.line) e

-- which of the states asks does not matter after an item
pub done_same : (s : State) (x y : Awaits) (d : Draft) (bs : List Bracket) (t : Token) (p : ℕ) → item_done (to s x) d bs t p ≡ item_done (to s y) d bs t p
done_same s x y d [] t p = refl
done_same s x y d (b ∷ bs) t p = refl

no_colon : (s : State) (d : Draft) (bs : List Bracket) (p : ℕ) → Fine (item_done s d bs Colon p) → ⊥
no_colon s d [] p f = f
no_colon s d (b ∷ bs) p f = f

-- after a constant with no range all goes on as after an item
constant_always : (rest : List Word) (s : State) (d : Draft) (out : Outline) → Always rest (to s (after_item d)) out → Always rest (to s (after_constant d)) out
unfolding Always
constant_always [] s d out a = λ p text. done_same s (after_constant d) (after_item d) d d.brackets _ p ∙ a p text
constant_always (w ∷ ws) s d out a = λ p pr.
    let on = a p pr in
    let other : is Colon w.kind ≡ false = ⊎_elim
    (λ e. absurd (no_colon (to s (after_item d)) d d.brackets p (fine_goes _ on.0 (ap (λ t. item_done (to s (after_item d)) d d.brackets t p) (sym (kind_is Colon w.kind e)) ∙ on.1))))
    (λ e. e) (cases_Bool (is Colon w.kind)) in
    (on.0, cond-false (is Colon w.kind) _ _ other ∙ done_same s (after_constant d) (after_item d) d d.brackets w.kind p ∙ on.1, on.2)

module _ (s : State) (out : Outline) (apart : Apart s.outline.declarations) where
  operator_goes : (d : Draft) (w : Awaits) (other : Token → ℕ → Outcome) → Takes d w other → (o : Operator) (p : ℕ) (u : State) → capital_item (to s w) d p (Some o) ≡ goes u → step (to s w) Capitals p (operator_name o) ≡ goes u
  operator_goes d w other takes o p u e = takes (to s w) Capitals p (operator_name o) ∙ ap (capital_item (to s w) d p) (called o) ∙ e

  -- the range after a constant
  range_always : (low high : ℕ) (first last : Word) (rest : List Word) (d : Draft) → first.kind ≡ Number low → last.kind ≡ Number high → low ≤ high → Always rest (to s (after_item (ranged d low high))) out → Always (colon ∷ first ∷ dots ∷ last ∷ rest) (to s (after_constant d)) out
  unfolding Always
  range_always low high first last rest d f l le a = λ p1 _. (
    to s (low_end d),
    refl,
    λ p2 pr2. (
      to s (two_dots low p2 d),
      ap (λ t. step (to s (low_end d)) t p2 first.spelling) f ∙ number_goes (2 ^ 32 - 1) low p2 (Number low) _ refl (omega (arith, subst (λ t. Proper t first.spelling) f pr2)),
      λ p3 _. (
        to s (high_end low p2 d),
        refl,
        λ p4 pr4. (
          to s (after_item (ranged d low high)),
          ap (λ t. step (to s (high_end low p2 d)) t p4 last.spelling) l
              ∙ number_goes (2 ^ 32 - 1) high p4 (Number high) _ refl (omega (arith, subst (λ t. Proper t last.spelling) l pr4))
              ∙ cond-false (ltb high low) _ _ (le-ltb high low le),
          a,
        ),
      ),
    ),
  )

  pub pattern_always : (f : Form) (ws rest : List Word) (d : Draft) (w : Awaits) (other : Token → ℕ → Outcome) → Takes d w other → PatternWords s.outline.declarations f ws → within_limits (d.so_far ++ items_in f) ≡ true → Always rest (to s (after_item (grown d (items_in f)))) out → Always (ws ++ rest) (to s w) out
  unfolding Always
  pattern_always (name_form a) ws rest d w other takes pw fits cont =
      subst (λ l. Always (l ++ rest) (to s w) out) (sym pw.2) (λ p _. (
        to s (after_item (grown d (operand a ∷ []))),
        takes (to s w) Name p pw.0 ∙ ap (operand_item (to s w) d p) (found pw.0 s.outline.declarations a apart pw.1) ∙ gains (to s w) d (operand a) (λ e. after_item (part_read e)) fits,
        cont,
      ))
  pattern_always (constant_form low high) ws rest d w other takes pw fits cont =
      let full : within_limits (d.so_far ++ constant 0 (2 ^ 32 - 1) ∷ []) ≡ true = other_range d.so_far 0 (2 ^ 32 - 1) low high ∙ fits in
      let begins : (p : ℕ) → step (to s w) Capitals p (operator_name Cnst) ≡ goes (to s (after_constant (grown d (constant 0 (2 ^ 32 - 1) ∷ [])))) =
      λ p. operator_goes d w other takes Cnst p _ (gains (to s w) d (constant 0 (2 ^ 32 - 1)) (λ e. after_constant (part_read e)) full) in
      ⊎_elim
      (λ bare.
      let whole : constant low high ≡ constant 0 (2 ^ 32 - 1) = λ i. constant (bare.0 i) (bare.1 i) in
      subst (λ l. Always (l ++ rest) (to s w) out) (sym bare.2) (λ p _. (
        to s (after_constant (grown d (constant 0 (2 ^ 32 - 1) ∷ []))),
        begins p,
        constant_always rest s (grown d (constant 0 (2 ^ 32 - 1) ∷ [])) out (subst (λ x. Always rest (to s (after_item (grown d (x ∷ [])))) out) whole cont),
      )))
      (λ range.
      subst (λ l. Always (l ++ rest) (to s w) out) (sym range.5) (λ p _. (
        to s (after_constant (grown d (constant 0 (2 ^ 32 - 1) ∷ []))),
        begins p,
        range_always low high range.0 range.1 rest (grown d (constant 0 (2 ^ 32 - 1) ∷ [])) range.2 range.3 range.4
            (subst (λ xs. Always rest (to s (after_item (record { left_name = d.left_name; so_far = xs; brackets = filled_one d.brackets }))) out)
            (sym (replaced d.so_far (constant 0 (2 ^ 32 - 1)) (constant low high))) cont),
      )))
      pw
  pattern_always variable_form ws rest d w other takes pw fits cont =
      subst (λ l. Always (l ++ rest) (to s w) out) (sym pw) (λ p _. (
        to s (after_item (grown d (variable ∷ []))),
        operator_goes d w other takes Var p _ (gains (to s w) d variable (λ e. after_item (part_read e)) fits),
        cont,
      ))
  pattern_always (one_form o f) ws rest d w other takes pw fits cont =
      let part = pw.0 in
      let regrouped = append_assoc d.so_far (one_sided o ∷ []) (items_in f) in
      let within : within_limits ((d.so_far ++ one_sided o ∷ []) ++ items_in f) ≡ true = ap within_limits regrouped ∙ fits in
      subst (λ l. Always (l ++ rest) (to s w) out) (sym pw.2) (λ p _. (
        to s (opening 1 p (gained d (one_sided o))),
        operator_goes d w other takes (One o) p _ (gains (to s w) d (one_sided o) (opening 1 p) (front_within (d.so_far ++ one_sided o ∷ []) (items_in f) within)),
        λ q _.
            let inner : Draft = with_brackets (gained d (one_sided o)) (record { wants = 1; stands = p; filled = 0 } ∷ d.brackets) in (
              to s (first_item inner),
              refl,
              subst (λ l. Always l (to s (first_item inner)) out) (sym (append_assoc part (close_bracket ∷ []) rest))
                  (pattern_always f part (close_bracket ∷ rest) inner (first_item inner) _ (λ u t p text. refl) pw.1 within
                  (λ r _. (
                    to s (after_item (record { left_name = d.left_name; so_far = (d.so_far ++ one_sided o ∷ []) ++ items_in f; brackets = filled_one d.brackets })),
                    refl,
                    subst (λ xs. Always rest (to s (after_item (record { left_name = d.left_name; so_far = xs; brackets = filled_one d.brackets }))) out) (sym regrouped) cont,
                  ))),
            ),
      ))
  pattern_always (two_form o f g) ws rest d w other takes pw fits cont =
      let left = pw.0 in
      let right = pw.1 in
      let front : List Part = d.so_far ++ two_sided o ∷ [] in
      let regrouped : (front ++ items_in f) ++ items_in g ≡ d.so_far ++ (two_sided o ∷ (items_in f ++ items_in g)) =
      append_assoc front (items_in f) (items_in g) ∙ append_assoc d.so_far (two_sided o ∷ []) (items_in f ++ items_in g) in
      let within : within_limits ((front ++ items_in f) ++ items_in g) ≡ true = ap within_limits regrouped ∙ fits in
      let first-within = front_within (front ++ items_in f) (items_in g) within in
      subst (λ l. Always (l ++ rest) (to s w) out) (sym pw.4) (λ p _. (
        to s (opening 2 p (gained d (two_sided o))),
        operator_goes d w other takes (Two o) p _ (gains (to s w) d (two_sided o) (opening 2 p) (front_within front (items_in f) first-within)),
        λ q _.
            let inner : Draft = with_brackets (gained d (two_sided o)) (record { wants = 2; stands = p; filled = 0 } ∷ d.brackets) in
            let second : Draft = grown inner (items_in f) in (
              to s (first_item inner),
              refl,
              subst (λ l. Always l (to s (first_item inner)) out) (sym (append_assoc left (comma ∷ (right ++ close_bracket ∷ [])) rest))
                  (pattern_always f left (comma ∷ ((right ++ close_bracket ∷ []) ++ rest)) inner (first_item inner) _ (λ u t p text. refl) pw.2 first-within
                  (λ r _. (
                    to s (item second),
                    refl,
                    subst (λ l. Always l (to s (item second)) out) (sym (append_assoc right (close_bracket ∷ []) rest))
                        (pattern_always g right (close_bracket ∷ rest) second (item second) _ (λ u t p text. refl) pw.3 within
                        (λ r _. (
                          to s (after_item (record { left_name = d.left_name; so_far = (front ++ items_in f) ++ items_in g; brackets = filled_one d.brackets })),
                          refl,
                          subst (λ xs. Always rest (to s (after_item (record { left_name = d.left_name; so_far = xs; brackets = filled_one d.brackets }))) out) (sym regrouped) cont,
                        ))),
                  ))),
            ),
      ))
