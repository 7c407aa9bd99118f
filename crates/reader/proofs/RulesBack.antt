-- Words that lead on from a line's end are the rules' lines.
use Rattle.std.proofs.Common.{◌≡◌, ℕ, zero, suc, ◌+◌, ◌<◌, ◌≤◌, Bool, true, false, cond, leb, ◌⊎◌, List, [], ◌∷◌, ◌++◌, length, Some, None, codes, Option, sym, refl, ap, ◌∙◌, subst, inl, inr, ⊎_elim, arith, length-append}
use Rattle.std.proofs.lemmas.List.{append_assoc, append-nil, length_push}
use Rattle.std.proofs.lemmas.Bool.{cond-true, cond-false, cases_Bool, eqb-true, leb-false, both_ways}
use Rattle.lexer.specs.declared.Token.TheVariants.{LineEnd, Number, Name, Colon, Equals, Minus, End}
use Rattle.description.specs.Outlines.{Part, operand, one_sided, two_sided, constant, variable, Declaration, Production, Outline}
use Rattle.reader.specs.Words.{is, declared_from}
use Rattle.reader.specs.Reading.{Draft, Awaits, rule_or_end, left_colon, item, after_item, mnemonic_word, size_number, cycles_number, rule_end, State, Outcome, goes, ends, fails, to, next_line, lies, renames, left_found, rule_read}
use Rattle.reader.specs.Grammar.{Word, name_word, line_end, colon, equals_sign, Named, items_in, EmissionWord, RuleWords, RuleLines}
use Rattle.reader.proofs.TokenKinds.{Proper, kind_is, Fine, fine_goes, tested, passed}
use Rattle.reader.proofs.Walks.{Leads}
use Rattle.reader.proofs.Namings.{named}
use Rattle.reader.proofs.LinesRead.{ruled, Closes}
use Rattle.reader.proofs.Expected.{same_state, word_is, mark_back, Figure, figure_back}
use Rattle.reader.proofs.PatternBack.{Parsed, pattern_back}

abbrev Going : Outcome → Type 0
Going (goes s) = Unit {0}
Going (ends o) = ⊥
Going (fails k p) = ⊥

going : (x : Outcome) (u : State) → x ≡ goes u → Going x
going x u e = subst Going (sym e) tt

-- a word where the text's end might stand too
branch_goes : (b c : Bool) (x : Outcome) (o : Outline) (k p : ℕ) (u : State) → cond b x (cond c (ends o) (fails k p)) ≡ goes u → (b ≡ true) × (x ≡ goes u)
branch_goes true c x o k p u e = (refl, e)
branch_goes false true x o k p u e = absurd (going (ends o) u e)
branch_goes false false x o k p u e = absurd (going (fails k p) u e)

same_end : (a b : Outline) → ends a ≡ ends b → a ≡ b
same_end a b e = cc

renames_back : (ds : List Declaration) (a : ℕ) (items : List Part) → renames ds a items ≡ true → (b : ℕ) × (items ≡ operand b ∷ []) × (lies ds a ≡ lies ds b)
renames_back ds a [] e = absurd (both_ways false refl e)
renames_back ds a (operand b ∷ []) e = (b, refl, eqb-true _ _ e)
renames_back ds a (operand b ∷ x ∷ xs) e = absurd (both_ways false refl e)
renames_back ds a (one_sided o ∷ xs) e = absurd (both_ways false refl e)
renames_back ds a (two_sided o ∷ xs) e = absurd (both_ways false refl e)
renames_back ds a (constant l h ∷ xs) e = absurd (both_ways false refl e)
renames_back ds a (variable ∷ xs) e = absurd (both_ways false refl e)

record Emission (s : State) (out : Outline) (d : Draft) (ws : List Word) : Type 0 where
  pub emits : Option (List ℕ)
  pub word : Word
  pub rest : List Word
  pub ws_are : ws ≡ word ∷ rest
  pub is_emission : EmissionWord s.outline.declarations d.left_name d.so_far emits word
  pub onward : Leads rest (to s (size_number emits d)) out

emission_back : (s : State) (out : Outline) (d : Draft) (ws : List Word) → Leads ws (to s (mnemonic_word d)) out → Emission s out d ws
unfolding Leads
emission_back s out d [] l = absurd (subst Fine (sym l.2) tt)
emission_back s out d (w ∷ ws) l =
    let p = l.0 in
    let u = l.1 in
    let text = w.spelling in
    let at_name : Outcome = goes (to s (size_number (Some text) d)) in
    let at_sign : Outcome = cond (renames s.outline.declarations d.left_name d.so_far) (goes (to s (size_number None d))) (fails 8 p) in
    ⊎_elim
    (λ c.
    let e : at_name ≡ goes u = sym (cond-true (is Name w.kind) at_name (cond (is Minus w.kind) at_sign (fails 3 p)) c) ∙ l.3 in
    record {
      emits = Some text;
      word = w;
      rest = ws;
      ws_are = refl;
      is_emission = word_is w Name text (kind_is Name w.kind c) refl;
      onward = subst (λ x. Leads ws x out) (sym (same_state _ u e)) l.4;
    })
    (λ c.
    let e : cond (is Minus w.kind) at_sign (fails 3 p) ≡ goes u = sym (cond-false (is Name w.kind) at_name _ c) ∙ l.3 in
    let minus = tested (is Minus w.kind) at_sign 3 p (fine_goes _ u e) in
    let f : at_sign ≡ goes u = sym minus.1 ∙ e in
    let by = tested (renames s.outline.declarations d.left_name d.so_far) (goes (to s (size_number None d))) 8 p (fine_goes at_sign u f) in
    let kind = kind_is Minus w.kind minus.0 in
    record {
      emits = None;
      word = w;
      rest = ws;
      ws_are = refl;
      is_emission = (
        word_is w Minus (codes "-") kind (subst (λ t. Proper t text) kind l.2),
        renames_back s.outline.declarations d.left_name d.so_far by.0,
      );
      onward = subst (λ x. Leads ws x out) (sym (same_state _ u (sym by.1 ∙ f))) l.4;
    })
    (cases_Bool (is Name w.kind))

record RuleParsed (s : State) (out : Outline) (ws : List Word) : Type 0 where
  pub rule : Production
  pub words : List Word
  pub rest : List Word
  pub ws_are : ws ≡ words ++ rest
  pub is_rule : RuleWords s.outline.declarations rule words
  pub onward : Leads rest (ruled s (rule ∷ []) rule_end) out

-- the rest of a rule after its pattern
record Ending (s : State) (out : Outline) (d : Draft) (ws : List Word) : Type 0 where
  pub emits : Option (List ℕ)
  pub size : ℕ
  pub cycles : ℕ
  pub emission_word : Word
  pub size_word : Word
  pub cycles_word : Word
  pub rest : List Word
  pub ws_are : ws ≡ equals_sign ∷ emission_word ∷ size_word ∷ cycles_word ∷ rest
  pub is_emission : EmissionWord s.outline.declarations d.left_name d.so_far emits emission_word
  pub size_is : size_word.kind ≡ Number size
  pub size_limit : size ≤ 99
  pub cycles_is : cycles_word.kind ≡ Number cycles
  pub cycles_limit : cycles ≤ 999
  pub onward : Leads rest (rule_read s d emits size cycles) out

module _ (s : State) (out : Outline) where
  ending_from : (d : Draft) (ws ws1 : List Word) (e : Emission s out d ws1) (f : Figure 99 (λ v p. to s (cycles_number v e.emits d)) out e.rest) → Figure 999 (λ v p. rule_read s d e.emits f.value v) out f.rest → ws ≡ equals_sign ∷ ws1 → Ending s out d ws
  ending_from d ws ws1 e f g is = record {
    emits = e.emits;
    size = f.value;
    cycles = g.value;
    emission_word = e.word;
    size_word = f.word;
    cycles_word = g.word;
    rest = g.rest;
    ws_are = is ∙ ap (λ l. equals_sign ∷ l) (e.ws_are ∙ ap (λ l. e.word ∷ l) (f.ws_are ∙ ap (λ l. f.word ∷ l) g.ws_are));
    is_emission = e.is_emission;
    size_is = f.is_number;
    size_limit = f.in_limit;
    cycles_is = g.is_number;
    cycles_limit = g.in_limit;
    onward = g.onward;
  }

  figures_back : (d : Draft) (ws ws1 : List Word) (e : Emission s out d ws1) → Figure 99 (λ v p. to s (cycles_number v e.emits d)) out e.rest → ws ≡ equals_sign ∷ ws1 → Ending s out d ws
  figures_back d ws ws1 e f is =
      ending_from d ws ws1 e f
      (figure_back 999 f.rest (to s (cycles_number f.value e.emits d)) (λ v p. rule_read s d e.emits f.value v) out (omega arith) (λ t p text. refl) f.onward) is

  emission_then : (d : Draft) (ws ws1 : List Word) → Emission s out d ws1 → ws ≡ equals_sign ∷ ws1 → Ending s out d ws
  emission_then d ws ws1 e is =
      figures_back d ws ws1 e
      (figure_back 99 e.rest (to s (size_number e.emits d)) (λ v p. to s (cycles_number v e.emits d)) out (omega arith) (λ t p text. refl) e.onward) is

  ending_back : (a : ℕ) (xs : List Part) (ws : List Word) → Leads ws (to s (after_item (record { left_name = a; so_far = xs; brackets = [] }))) out → Ending s out (record { left_name = a; so_far = xs; brackets = [] }) ws
  ending_back a xs ws l =
      let d : Draft = record { left_name = a; so_far = xs; brackets = [] } in
      let equal = mark_back Equals (codes "=") ws (to s (after_item d)) (λ _. to s (mnemonic_word d)) out (λ v. refl) refl (λ t h. h) (λ t p text. refl) l in
      emission_then d ws equal.1 (emission_back s out d equal.1 equal.3) equal.2

  rule_from : (text : List ℕ) (a : ℕ) (ws ws1 : List Word) → Named s.outline.declarations a text → ws ≡ colon ∷ ws1 → (r : Parsed s out (record { left_name = a; so_far = []; brackets = [] }) ws1) → Ending s out (record { left_name = a; so_far = items_in r.form; brackets = [] }) r.rest → RuleParsed s out (name_word text ∷ ws)
  rule_from text a ws ws1 is colons r e = record {
    rule = record { derives = a; parts = items_in r.form; emits = e.emits; in_bytes = e.size; in_cycles = e.cycles };
    words = name_word text ∷ colon ∷ (r.words ++ equals_sign ∷ e.emission_word ∷ e.size_word ∷ e.cycles_word ∷ []);
    rest = e.rest;
    ws_are =
        ap (λ l. name_word text ∷ l)
        (colons
        ∙ ap (λ l. colon ∷ l)
        (r.ws_are ∙ ap (λ l. r.words ++ l) e.ws_are ∙ sym (append_assoc r.words (equals_sign ∷ e.emission_word ∷ e.size_word ∷ e.cycles_word ∷ []) e.rest)));
    is_rule = record {
      left_text = text;
      left_is = is;
      pattern_form = r.form;
      items_are = refl;
      few_items = r.fits;
      pattern_words = r.words;
      pattern_is = r.is_pattern;
      emission_word = e.emission_word;
      emission_is = e.is_emission;
      size_word = e.size_word;
      size_is = e.size_is;
      size_limit = e.size_limit;
      cycles_word = e.cycles_word;
      cycles_is = e.cycles_is;
      cycles_limit = e.cycles_limit;
      words_are = refl;
    };
    onward = e.onward;
  }

  -- the rule after its left name
  pattern_rest : (text : List ℕ) (a : ℕ) (ws : List Word) → Named s.outline.declarations a text → Leads ws (to s (left_colon (record { left_name = a; so_far = []; brackets = [] }))) out → RuleParsed s out (name_word text ∷ ws)
  pattern_rest text a ws is l =
      let start : Draft = record { left_name = a; so_far = []; brackets = [] } in
      let colons = mark_back Colon (codes ":") ws (to s (left_colon start)) (λ _. to s (item start)) out (λ v. refl) refl (λ t h. h) (λ t p text. refl) l in
      let r = pattern_back s out (suc (length colons.1)) colons.1 start (item start) (λ t p. fails 3 p) (omega arith) (λ u t p text. refl) (λ t p f. f) colons.3 in
      rule_from text a ws colons.1 is colons.2 r (ending_back a (items_in r.form) r.rest r.onward)

rule_back : (s : State) (out : Outline) (v : Word) (ws : List Word) → Leads (v ∷ ws) (to s rule_or_end) out → (length s.outline.productions < 128) × RuleParsed s out (v ∷ ws)
unfolding Leads
rule_back s out v ws l =
    let p = l.0 in
    let u = l.1 in
    let by = branch_goes (is Name v.kind) (is End v.kind) (left_found s p (declared_from 0 v.spelling s.outline.declarations)) s.outline 3 p u
    (ap (λ x. cond (is Name v.kind) x (cond (is End v.kind) (ends s.outline) (fails 3 p))) (sym (left_same (declared_from 0 v.spelling s.outline.declarations) p)) ∙ l.3) in
    go (declared_from 0 v.spelling s.outline.declarations) refl p u by.1 (kind_is Name v.kind by.0) l.4
  where
    left_same : (o : Option ℕ) (p : ℕ) → left_found (to s rule_or_end) p o ≡ left_found s p o
    left_same None p = refl
    left_same (Some a) p = refl

    go : (o : Option ℕ) → declared_from 0 v.spelling s.outline.declarations ≡ o → (p : ℕ) (u : State) → left_found s p o ≡ goes u → v.kind ≡ Name → Leads ws u out → (length s.outline.productions < 128) × RuleParsed s out (v ∷ ws)
    go None is p u e kind on = absurd (going (fails 4 p) u e)
    go (Some a) is p u e kind on =
        let start : Draft = record { left_name = a; so_far = []; brackets = [] } in
        let by = passed (leb 128 (length s.outline.productions)) (goes (to s (left_colon start))) 7 s.line (fine_goes _ u e) in (
          leb-false 128 (length s.outline.productions) by.0,
          subst (λ x. RuleParsed s out (x ∷ ws)) (sym (word_is v Name v.spelling kind refl))
              (pattern_rest s out v.spelling a ws (named v.spelling s.outline.declarations a is)
              (subst (λ x. Leads ws x out) (sym (same_state (to s (left_colon start)) u (sym by.1 ∙ e))) on)),
        )

pub record LinesParsed (s : State) (out : Outline) (ws : List Word) : Type 0 where
  pub rules : List Production
  pub words : List Word
  pub last : List Word
  pub ws_are : ws ≡ words ++ last
  pub are_lines : RuleLines s.outline.declarations rules words
  pub last_is : (last ≡ []) ⊎ (last ≡ line_end ∷ [])
  pub few : length s.outline.productions + length rules ≤ 128
  pub out_is : (ruled s rules rule_end).outline ≡ out

no_more : (s : State) (out : Outline) (last : List Word) → (last ≡ []) ⊎ (last ≡ line_end ∷ []) → length s.outline.productions ≤ 128 → s.outline ≡ out → LinesParsed s out last
no_more s out last is few e = record {
  rules = [];
  words = [];
  last = last;
  ws_are = refl;
  are_lines = refl;
  last_is = is;
  few = omega arith;
  out_is = ap (λ rs. record { declarations = s.outline.declarations; begins = s.outline.begins; productions = rs }) (append-nil s.outline.productions) ∙ e;
}

line_from : (s : State) (out : Outline) (p : ℕ) (ws : List Word) (r : RuleParsed (next_line s p rule_or_end) out ws) → LinesParsed (ruled (next_line s p rule_or_end) (r.rule ∷ []) rule_end) out r.rest → LinesParsed s out (line_end ∷ ws)
line_from s out p ws r rest = record {
  rules = r.rule ∷ rest.rules;
  words = line_end ∷ (r.words ++ rest.words);
  last = rest.last;
  ws_are = ap (λ l. line_end ∷ l) (r.ws_are ∙ ap (λ l. r.words ++ l) rest.ws_are ∙ sym (append_assoc r.words rest.words rest.last));
  are_lines = (r.words, rest.words, r.is_rule, rest.are_lines, refl);
  last_is = rest.last_is;
  few = omega (arith, rest.few, length_push s.outline.productions r.rule);
  out_is = ap (λ rs. record { declarations = s.outline.declarations; begins = s.outline.begins; productions = rs }) (sym (append_assoc s.outline.productions (r.rule ∷ []) rest.rules)) ∙ rest.out_is;
}

pub lines_back : (n : ℕ) (ws : List Word) (s : State) (w : Awaits) (out : Outline) → length ws < n → Closes w → length s.outline.productions ≤ 128 → Leads ws (to s w) out → LinesParsed s out ws
unfolding Leads
lines_back zero ws s w out short closes few l = absurd (omega arith)
lines_back (suc n) [] s w out short closes few l = no_more s out [] (inl refl) few (same_end s.outline out (sym (closes (to s w) End l.0 l.1) ∙ l.2))
lines_back (suc n) (v ∷ ws) s w out short closes few l =
    let p = l.0 in
    let u = l.1 in
    let by = branch_goes (is LineEnd v.kind) (is End v.kind) (goes (next_line s p rule_or_end)) s.outline 3 p u (sym (closes (to s w) v.kind p v.spelling) ∙ l.3) in
    let kind = kind_is LineEnd v.kind by.0 in
    let is : v ≡ line_end = word_is v LineEnd (10 ∷ []) kind (subst (λ t. Proper t v.spelling) kind l.2) in
    subst (λ x. LinesParsed s out (x ∷ ws)) (sym is)
    (go ws p (omega arith) (subst (λ x. Leads ws x out) (sym (same_state (next_line s p rule_or_end) u by.1)) l.4) (lines_back n))
  where
    go : (ws : List Word) (p : ℕ) → length ws < n → Leads ws (next_line s p rule_or_end) out → ((ws : List Word) (s : State) (w : Awaits) (out : Outline) → length ws < n → Closes w → length s.outline.productions ≤ 128 → Leads ws (to s w) out → LinesParsed s out ws) → LinesParsed s out (line_end ∷ ws)
    go [] p short l ih = no_more s out (line_end ∷ []) (inr refl) few (same_end s.outline out l.2)
    go (x ∷ xs) p short l ih =
        let after : State = next_line s p rule_or_end in
        let found = rule_back after out x xs l in
        let r = found.1 in
        line_from s out p (x ∷ xs) r
        (ih r.rest (ruled after (r.rule ∷ []) rule_end) rule_end out (omega (arith, ap length r.ws_are, length-append r.words r.rest)) (λ u t p text. refl)
        (omega (arith, found.0, length_push s.outline.productions r.rule)) r.onward)
