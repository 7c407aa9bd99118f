-- Words that lead on from where a directive is awaited are the declarations' lines.
use Rattle.std.proofs.Common.{◌≡◌, ℕ, zero, suc, ◌+◌, ◌<◌, ◌≤◌, Bool, cond, ◌&&◌, eqb, ltb, leb, List, [], ◌∷◌, ◌++◌, length, get_or, is_some, codes, sym, refl, ap, ◌∙◌, subst, ⊎_elim, arith}
use Rattle.std.specs.List.{flat_map}
use Rattle.std.proofs.lemmas.List.{append_assoc, append-nil, length_push}
use Rattle.std.proofs.lemmas.Bool.{cond-true, cond-false, cases_Bool, and_parts, eqb-true, leb-false, ltb-true}
use Rattle.lexer.specs.declared.Token.TheVariants.{LineEnd, Name, Capitals, Percent}
use Rattle.description.specs.Names.{same_text}
use Rattle.description.specs.Outlines.{Declaration, Outline}
use Rattle.description.proofs.Names.{same_text_true}
use Rattle.reader.specs.Words.{is, declared_from}
use Rattle.reader.specs.Reading.{directive, new_name, name_place, start_name, State, Outcome, goes, fails, to, name_declared}
use Rattle.reader.specs.Grammar.{Word, name_word, capitals_word, percent_word, Apart, declaration_words}
use Rattle.reader.proofs.TokenKinds.{kind_is, Fine, fine_goes, tested, passed}
use Rattle.reader.proofs.Walks.{Leads}
use Rattle.reader.proofs.Namings.{fresh_none, apart_push}
use Rattle.reader.proofs.LinesRead.{declared_too}
use Rattle.reader.proofs.Expected.{same_state, word_is, kind_back, mark_back}

pub record NamesParsed (s : State) (out : Outline) (ws : List Word) : Type 0 where
  pub names : List Declaration
  pub rest : List Word
  pub line : ℕ
  pub ws_are : ws ≡ flat_map declaration_words names ++ (percent_word (codes "%start") ∷ rest)
  pub apart : Apart (s.outline.declarations ++ names)
  pub few : length (s.outline.declarations ++ names) ≤ 16
  pub some : 1 ≤ length (s.outline.declarations ++ names)
  pub onward : Leads rest (to (declared_too s names line) start_name) out

-- the PLACE of a name: one letter
place_back : (s : State) (out : Outline) (letters : List ℕ) (ws : List Word) → Leads ws (to s (name_place letters)) out → (x : ℕ) × (rest : List Word) × (ws ≡ capitals_word (x ∷ []) ∷ rest) × Leads rest (name_declared s letters x) out
unfolding Leads
place_back s out letters [] l = absurd (subst Fine (sym l.2) tt)
place_back s out letters (w ∷ ws) l =
    let x = get_or w.spelling 0 0 in
    let by = tested (is Capitals w.kind && eqb (length w.spelling) 1) (goes (name_declared s letters x)) 3 l.0 (fine_goes _ l.1 l.3) in
    let both = and_parts (is Capitals w.kind) (eqb (length w.spelling) 1) by.0 in (
      x,
      ws,
      ap (λ v. v ∷ ws) (word_is w Capitals (x ∷ []) (kind_is Capitals w.kind both.0) (single w.spelling (eqb-true (length w.spelling) 1 both.1))),
      subst (λ v. Leads ws v out) (sym (same_state (name_declared s letters x) l.1 (sym by.1 ∙ l.3))) l.4,
    )
  where
    single : (xs : List ℕ) → length xs ≡ 1 → xs ≡ get_or xs 0 0 ∷ []
    single [] e = absurd (omega arith)
    single (y ∷ []) e = refl
    single (y ∷ z ∷ xs) e = absurd (omega arith)

record NameParsed (s : State) (out : Outline) (ws : List Word) : Type 0 where
  pub name : Declaration
  pub rest : List Word
  pub place : ℕ
  pub ws_are : percent_word (codes "%nt") ∷ ws ≡ declaration_words name ++ rest
  pub apart : Apart (s.outline.declarations ++ name ∷ [])
  pub few : length s.outline.declarations + 1 ≤ 16
  pub onward : Leads rest (declared_too s (name ∷ []) (place + 1)) out

-- a declaration after its `%nt`
name_back : (s : State) (out : Outline) (ws : List Word) → Apart s.outline.declarations → Leads ws (to s new_name) out → NameParsed s out ws
name_back s out ws apart l =
    let ds = s.outline.declarations in
    let spelled = kind_back Name ws (to s new_name) (λ p text. cond (leb 16 (length ds)) (fails 7 p) (cond (is_some (declared_from 0 text ds)) (fails 8 p) (goes (to s (name_place text))))) out (λ v. refl) refl (λ t p text. refl) l in
    go spelled.0 spelled.1 spelled.2 spelled.3 spelled.4 spelled.6 spelled.7
  where
    done : (text : List ℕ) (rest : List Word) (x : ℕ) (rest1 : List Word) → ws ≡ name_word text ∷ rest → Apart (s.outline.declarations ++ record { spelled = text; lies_in = x } ∷ []) → length s.outline.declarations < 16 → rest ≡ capitals_word (x ∷ []) ∷ rest1 → Leads rest1 (name_declared s text x) out → NameParsed s out ws
    done text rest x rest1 e apart few f l =
        let ended = mark_back LineEnd (10 ∷ []) rest1 (name_declared s text x) (λ p. declared_too s (record { spelled = text; lies_in = x } ∷ []) (p + 1)) out (λ v. refl) refl (λ t h. h) (λ t p text. refl) l in
        record {
          name = record { spelled = text; lies_in = x };
          rest = ended.1;
          place = ended.0;
          ws_are = ap (λ l. percent_word (codes "%nt") ∷ l) (e ∙ ap (λ l. name_word text ∷ l) (f ∙ ap (λ l. capitals_word (x ∷ []) ∷ l) ended.2));
          apart = apart;
          few = omega arith;
          onward = ended.3;
        }

    go : (p : ℕ) (u : State) (text : List ℕ) (rest : List Word) → ws ≡ name_word text ∷ rest → cond (leb 16 (length s.outline.declarations)) (fails 7 p) (cond (is_some (declared_from 0 text s.outline.declarations)) (fails 8 p) (goes (to s (name_place text)))) ≡ goes u → Leads rest u out → NameParsed s out ws
    go p u text rest e f l =
        let ds = s.outline.declarations in
        let few = passed (leb 16 (length ds)) (cond (is_some (declared_from 0 text ds)) (fails 8 p) (goes (to s (name_place text)))) 7 p (fine_goes _ u f) in
        let g : cond (is_some (declared_from 0 text ds)) (fails 8 p) (goes (to s (name_place text))) ≡ goes u = sym few.1 ∙ f in
        let fresh = passed (is_some (declared_from 0 text ds)) (goes (to s (name_place text))) 8 p (fine_goes _ u g) in
        let place = place_back s out text rest (subst (λ x. Leads rest x out) (sym (same_state (to s (name_place text)) u (sym fresh.1 ∙ g))) l) in
        done text rest place.0 place.1 e (apart_push ds (record { spelled = text; lies_in = place.0 }) apart (fresh_none 0 text ds fresh.0)) (leb-false 16 (length ds) few.0) place.2 place.3

more_from : (s : State) (out : Outline) (v : Word) (ws : List Word) (n : NameParsed s out ws) → NamesParsed (declared_too s (n.name ∷ []) (n.place + 1)) out n.rest → v ≡ percent_word (codes "%nt") → NamesParsed s out (v ∷ ws)
more_from s out v ws n m is =
    let regrouped : (s.outline.declarations ++ n.name ∷ []) ++ m.names ≡ s.outline.declarations ++ (n.name ∷ m.names) = append_assoc s.outline.declarations (n.name ∷ []) m.names in
    record {
      names = n.name ∷ m.names;
      rest = m.rest;
      line = m.line;
      ws_are = ap (λ x. x ∷ ws) is ∙ n.ws_are ∙ ap (λ l. declaration_words n.name ++ l) m.ws_are;
      apart = subst Apart regrouped m.apart;
      few = subst (λ ds. length ds ≤ 16) regrouped m.few;
      some = subst (λ ds. 1 ≤ length ds) regrouped m.some;
      onward =
          subst (λ ds. Leads m.rest (record { outline = record { declarations = ds; begins = s.outline.begins; productions = s.outline.productions }; line = m.line; awaits = start_name }) out)
          regrouped m.onward;
    }

none_from : (s : State) (out : Outline) (v : Word) (ws : List Word) → v ≡ percent_word (codes "%start") → Apart s.outline.declarations → length s.outline.declarations ≤ 16 → 0 < length s.outline.declarations → Leads ws (to s start_name) out → NamesParsed s out (v ∷ ws)
none_from s out v ws is apart few some l =
    let same = sym (append-nil s.outline.declarations) in
    record {
      names = [];
      rest = ws;
      line = s.line;
      ws_are = ap (λ x. x ∷ ws) is;
      apart = subst Apart same apart;
      few = subst (λ ds. length ds ≤ 16) same few;
      some = subst (λ ds. 1 ≤ length ds) same (omega arith);
      onward =
          subst (λ ds. Leads ws (record { outline = record { declarations = ds; begins = s.outline.begins; productions = s.outline.productions }; line = s.line; awaits = start_name }) out)
          same l;
    }

pub names_back : (n : ℕ) (ws : List Word) (s : State) (out : Outline) → length ws < n → Apart s.outline.declarations → length s.outline.declarations ≤ 16 → Leads ws (to s directive) out → NamesParsed s out ws
unfolding Leads
names_back zero ws s out short apart few l = absurd (omega arith)
names_back (suc n) [] s out short apart few l = absurd (subst Fine (sym l.2) tt)
names_back (suc n) (v ∷ ws) s out short apart few l =
    let p = l.0 in
    let u = l.1 in
    let text = v.spelling in
    let starts : Bool = is Percent v.kind && (same_text text (codes "%start") && ltb 0 (length s.outline.declarations)) in
    let at_start : Outcome = cond starts (goes (to s start_name)) (fails 3 p) in
    ⊎_elim
    (λ c.
    let both = and_parts (is Percent v.kind) (same_text text (codes "%nt")) c in
    let e : goes (to s new_name) ≡ goes u = sym (cond-true (is Percent v.kind && same_text text (codes "%nt")) (goes (to s new_name)) at_start c) ∙ l.3 in
    let name = name_back s out ws apart (subst (λ x. Leads ws x out) (sym (same_state (to s new_name) u e)) l.4) in
    more_from s out v ws name
    (names_back n name.rest (declared_too s (name.name ∷ []) (name.place + 1)) out (omega (arith, ap length name.ws_are)) name.apart
    (omega (arith, name.few, length_push s.outline.declarations name.name)) name.onward)
    (word_is v Percent (codes "%nt") (kind_is Percent v.kind both.0) (same_text_true text (codes "%nt") both.1)))
    (λ c.
    let e : at_start ≡ goes u = sym (cond-false (is Percent v.kind && same_text text (codes "%nt")) (goes (to s new_name)) at_start c) ∙ l.3 in
    let by = tested starts (goes (to s start_name)) 3 p (fine_goes at_start u e) in
    let both = and_parts (is Percent v.kind) (same_text text (codes "%start") && ltb 0 (length s.outline.declarations)) by.0 in
    let last = and_parts (same_text text (codes "%start")) (ltb 0 (length s.outline.declarations)) both.1 in
    none_from s out v ws (word_is v Percent (codes "%start") (kind_is Percent v.kind both.0) (same_text_true text (codes "%start") last.0)) apart few
    (ltb-true 0 (length s.outline.declarations) last.1) (subst (λ x. Leads ws x out) (sym (same_state (to s start_name) u (sym by.1 ∙ e))) l.4))
    (cases_Bool (is Percent v.kind && same_text text (codes "%nt")))
