-- A description's lines are read as that description: rules, declarations, the start and the header.
use Rattle.std.proofs.Common.{◌≡◌, ℕ, ◌+◌, ◌<◌, ◌≤◌, cond, ltb, leb, ◌⊎◌, List, [], ◌∷◌, ◌++◌, length, get_or, drop, is_some, Some, None, Ok, codes, Option, sym, refl, ap, ◌∙◌, subst, ⊎_elim, arith, length-append}
use Rattle.std.specs.List.{flat_map}
use Rattle.std.proofs.lemmas.List.{append_assoc, append-nil, length_push, drop_at}
use Rattle.std.proofs.lemmas.Bool.{cond-true, cond-false, lt-leb, lt-ltb, eq-eqb}
use Rattle.lexer.specs.declared.Token.{Token}
use Rattle.lexer.specs.declared.Token.TheVariants.{LineEnd, Number, End}
use Rattle.lexer.specs.Bytes.{is_digit}
use Rattle.lexer.specs.Tokens.{token_at}
use Rattle.lexer.proofs.Standing.{read_where_stands}
use Rattle.description.specs.Outlines.{Declaration, Production, Outline}
use Rattle.reader.specs.Words.{is, declared_from}
use Rattle.reader.specs.Reading.{Draft, Awaits, directive, new_name, name_place, declaration_end, start_name, start_end, rule_or_end, left_colon, item, after_item, mnemonic_word, size_number, cycles_number, rule_end, State, goes, ends, fails, to, next_line, within_limits, lies, renames, left_found, start_found, step_at, step, nothing_read, versioned, reading}
use Rattle.reader.specs.Grammar.{Word, Spaced, name_word, percent_word, line_end, equals_sign, Apart, EmissionWord, RuleWords, RuleLines, declaration_words, Describes, Text}
use Rattle.reader.proofs.TokenKinds.{number_goes}
use Rattle.reader.proofs.Walks.{Always, always_read}
use Rattle.reader.proofs.Namings.{found, none_fresh, apart_fresh}
use Rattle.reader.proofs.PatternRead.{pattern_always}

-- a rule that has been read
abbrev pub ruled : State → List Production → Awaits → State
ruled s rs w = record {
  outline = record { declarations = s.outline.declarations; begins = s.outline.begins; productions = s.outline.productions ++ rs };
  line = s.line;
  awaits = w;
}

emission_goes : (s : State) (d : Draft) (e : Option (List ℕ)) (w : Word) (p : ℕ) → EmissionWord s.outline.declarations d.left_name d.so_far e w → step (to s (mnemonic_word d)) w.kind p w.spelling ≡ goes (to s (size_number e d))
emission_goes s d (Some m) w p h = ap (λ v. step (to s (mnemonic_word d)) v.kind p v.spelling) h
emission_goes s d None w p h =
    let b = h.1.0 in
    ap (λ v. step (to s (mnemonic_word d)) v.kind p v.spelling) h.0
    ∙ cond-true (renames s.outline.declarations d.left_name d.so_far) _ _
    (ap (renames s.outline.declarations d.left_name) h.1.1 ∙ eq-eqb (lies s.outline.declarations d.left_name) (lies s.outline.declarations b) h.1.2)

rule_always : (r : Production) (ws rest : List Word) (s : State) (out : Outline) → Apart s.outline.declarations → RuleWords s.outline.declarations r ws → length s.outline.productions < 128 → Always rest (ruled s (r ∷ []) rule_end) out → Always (ws ++ rest) (to s rule_or_end) out
unfolding Always
rule_always r ws rest s out apart rw few cont =
    let start : Draft = record { left_name = r.derives; so_far = []; brackets = [] } in
    let done : Draft = record { left_name = r.derives; so_far = r.parts; brackets = [] } in
    let tail : List Word = equals_sign ∷ rw.emission_word ∷ rw.size_word ∷ rw.cycles_word ∷ [] in
    let after-pattern : Always (tail ++ rest) (to s (after_item done)) out = λ p1 _. (
      to s (mnemonic_word done),
      refl,
      λ p2 _. (
        to s (size_number r.emits done),
        emission_goes s done r.emits rw.emission_word p2 rw.emission_is,
        λ p3 _. (
          to s (cycles_number r.in_bytes r.emits done),
          ap (λ t. step (to s (size_number r.emits done)) t p3 rw.size_word.spelling) rw.size_is
              ∙ number_goes 99 r.in_bytes p3 (Number r.in_bytes) _ refl rw.size_limit,
          λ p4 _. (
            ruled s (r ∷ []) rule_end,
            ap (λ t. step (to s (cycles_number r.in_bytes r.emits done)) t p4 rw.cycles_word.spelling) rw.cycles_is
                ∙ number_goes 999 r.in_cycles p4 (Number r.in_cycles) _ refl rw.cycles_limit,
            cont,
          ),
        ),
      ),
    ) in
    subst (λ l. Always (l ++ rest) (to s rule_or_end) out) (sym rw.words_are) (λ p _. (
      to s (left_colon start),
      ap (left_found (to s rule_or_end) p) (found rw.left_text s.outline.declarations r.derives apart rw.left_is)
          ∙ cond-false (leb 128 (length s.outline.productions)) _ _ (lt-leb 128 (length s.outline.productions) few),
      λ q _. (
        to s (item start),
        refl,
        subst (λ l. Always l (to s (item start)) out) (sym (append_assoc rw.pattern_words tail rest))
            (pattern_always s out apart rw.pattern_form rw.pattern_words (tail ++ rest) start (item start) _ (λ u t p text. refl) rw.pattern_is
            (ap within_limits (sym rw.items_are) ∙ rw.few_items)
            (subst (λ xs. Always (tail ++ rest) (to s (after_item (record { left_name = r.derives; so_far = xs; brackets = [] }))) out) rw.items_are after-pattern)),
      ),
    ))

-- what is awaited is a line's end or the text's
abbrev pub Closes : Awaits → Type 0
Closes w =
    (s : State) (t : Token) (p : ℕ) (text : List ℕ) →
    step_at w s t p text ≡ cond (is LineEnd t) (goes (next_line s p rule_or_end)) (cond (is End t) (ends s.outline) (fails 3 p))

lines_always : (rs : List Production) (ws last : List Word) (s : State) (w : Awaits) (out : Outline) → Closes w → Apart s.outline.declarations → RuleLines s.outline.declarations rs ws → (last ≡ []) ⊎ (last ≡ line_end ∷ []) → length s.outline.productions + length rs ≤ 128 → (ruled s rs w).outline ≡ out → Always (ws ++ last) (to s w) out
unfolding Always
lines_always [] ws last s w out closes apart lines last_is few is =
    let same : s.outline ≡ out =
    ap (λ rs. record { declarations = s.outline.declarations; begins = s.outline.begins; productions = rs }) (sym (append-nil s.outline.productions)) ∙ is in
    subst (λ l. Always (l ++ last) (to s w) out) (sym lines)
    (⊎_elim
    (λ none. subst (λ l. Always l (to s w) out) (sym none) (λ p text. closes (to s w) End p text ∙ ap ends same))
    (λ one. subst (λ l. Always l (to s w) out) (sym one) (λ p _. (next_line s p rule_or_end, closes (to s w) LineEnd p (10 ∷ []), λ q text. ap ends same)))
    last_is)
lines_always (r ∷ rs) ws last s w out closes apart lines last_is few is =
    let first = lines.0 in
    let rest = lines.1 in
    subst (λ l. Always (l ++ last) (to s w) out) (sym lines.4) (λ p _. (
      next_line s p rule_or_end,
      closes (to s w) LineEnd p (10 ∷ []),
      subst (λ l. Always l (next_line s p rule_or_end) out) (sym (append_assoc first rest last))
          (rule_always r first (rest ++ last) (next_line s p rule_or_end) out apart lines.2 (omega arith)
          (lines_always rs rest last (ruled (next_line s p rule_or_end) (r ∷ []) rule_end) rule_end out (λ u t p text. refl) apart lines.3 last_is
          (omega (arith, length_push s.outline.productions r))
          (ap (λ rs. record { declarations = s.outline.declarations; begins = s.outline.begins; productions = rs }) (append_assoc s.outline.productions (r ∷ []) rs) ∙ is))),
    ))

-- some names that have been declared
abbrev pub declared_too : State → List Declaration → ℕ → State
declared_too s es line = record {
  outline = record { declarations = s.outline.declarations ++ es; begins = s.outline.begins; productions = s.outline.productions };
  line = line;
  awaits = directive;
}

names_always : (es : List Declaration) (rest : List Word) (s : State) (out : Outline) → Apart (s.outline.declarations ++ es) → length s.outline.declarations + length es ≤ 16 → ((line : ℕ) → Always rest (declared_too s es line) out) → Always (flat_map declaration_words es ++ rest) (to s directive) out
unfolding Always
names_always [] rest s out apart few cont =
    subst (λ ds. Always rest (record { outline = record { declarations = ds; begins = s.outline.begins; productions = s.outline.productions }; line = s.line; awaits = directive }) out)
    (append-nil s.outline.declarations) (cont s.line)
names_always (d ∷ es) rest s out apart few cont =
    let regrouped = append_assoc s.outline.declarations (d ∷ []) es in
    λ p1 _. (
      to s new_name,
      refl,
      λ p2 _. (
        to s (name_place d.spelled),
        cond-false (leb 16 (length s.outline.declarations)) _ _ (lt-leb 16 (length s.outline.declarations) (omega arith))
            ∙ cond-false (is_some (declared_from 0 d.spelled s.outline.declarations)) _ _ (none_fresh 0 d.spelled s.outline.declarations (apart_fresh s.outline.declarations es d apart)),
        λ p3 _. (
          record {
            outline = record { declarations = s.outline.declarations ++ d ∷ []; begins = s.outline.begins; productions = s.outline.productions };
            line = s.line;
            awaits = declaration_end;
          },
          refl,
          λ p4 _. (
            declared_too s (d ∷ []) (p4 + 1),
            refl,
            names_always es rest (declared_too s (d ∷ []) (p4 + 1)) out (subst Apart (sym regrouped) apart) (omega (arith, length_push s.outline.declarations d))
                (λ line. subst (λ ds. Always rest (record { outline = record { declarations = ds; begins = s.outline.begins; productions = s.outline.productions }; line = line; awaits = directive }) out) (sym regrouped) (cont line)),
          ),
        ),
      ),
    )

pub describes_always : (o : Outline) (ws : List Word) → Describes o ws → Always ws nothing_read o
unfolding Always
describes_always o ws h =
    let ds = o.declarations in
    let tail : List Word = percent_word (codes "%start") ∷ name_word h.start_text ∷ (h.rule_words ++ h.last_end) in
    let lines : (line : ℕ) → Always tail (record { outline = record { declarations = ds; begins = None; productions = [] }; line = line; awaits = directive }) o = λ line p1 _.
    let s : State = record { outline = record { declarations = ds; begins = None; productions = [] }; line = line; awaits = start_name } in (
      s,
      cond-true (ltb 0 (length ds)) (goes s) (fails 3 p1) (lt-ltb 0 (length ds) (omega (arith, h.some_name))),
      λ p2 _.
          let begun : State = record { outline = record { declarations = ds; begins = Some h.start; productions = [] }; line = line; awaits = start_end } in (
            begun,
            ap (start_found s p2) (found h.start_text ds h.start h.names_apart h.start_is),
            lines_always o.productions h.rule_words h.last_end begun start_end o (λ u t p text. refl) h.names_apart h.rules_are h.last_is (omega (arith, h.few_rules))
                (ap (λ b. record { declarations = ds; begins = b; productions = o.productions }) (sym h.starts)),
          ),
    ) in
    subst (λ l. Always l nothing_read o) (sym h.words_are) (λ p _. (
      next_line nothing_read p directive,
      refl,
      names_always ds tail (next_line nothing_read p directive) o h.names_apart (omega (arith, h.few_names)) lines,
    ))

pub text_read : (o : Outline) (bs : List ℕ) → Text o bs → reading bs ≡ Ok o
text_read o bs h = subst (λ l. reading l ≡ Ok o) (sym h.bytes_are) whole
  where
    whole : reading (codes "BTG " ++ (h.version ++ h.rest)) ≡ Ok o
    whole =
        let bytes : List ℕ = codes "BTG " ++ (h.version ++ h.rest) in
        let parts : length (h.version ++ h.rest) ≡ length h.version + length h.rest = length-append h.version h.rest in
        let inside : 4 + length h.version ≤ length bytes = omega arith in
        let here : token_at bytes 4 ≡ Ok (Number 1, (4, length h.version)) =
        read_where_stands bytes 4 (omega arith) (Number 1) 4 (length h.version) (record {
          spaces = (omega arith, λ k low high. absurd (omega arith));
          inside = inside;
          denotes = h.version_is;
        }) in
        let after : drop (4 + length h.version) bytes ≡ h.rest = drop_at (codes "BTG " ++ h.version) h.rest (4 + length h.version) (omega (arith, length-append (codes "BTG ") h.version)) in
        cond-true (is_digit (get_or (h.version ++ h.rest) 0 0)) _ _ (h.version_is.0.passes 0 h.version_is.1)
        ∙ ap (versioned bytes) here
        ∙ always_read (length bytes) h.words bytes (4 + length h.version) nothing_read o inside (omega arith) (subst (Spaced h.words) (sym after) h.spaced) (describes_always o h.words h.describes)
