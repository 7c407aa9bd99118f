-- A text is accepted as a description exactly if it is that description, and so it is at most one.
use Rattle.std.proofs.Common.{◌≡◌, ℕ, suc, ◌+◌, ◌≤◌, Bool, true, false, cond, eqb, List, [], ◌∷◌, ◌++◌, length, get_or, take, drop, Some, None, Ok, Err, codes, Option, Result, sym, refl, ap, ◌∙◌, subst, ⊎_elim, arith}
use Rattle.std.specs.List.{flat_map}
use Rattle.std.proofs.lemmas.List.{take_more, take-append-drop, drop-drop}
use Rattle.std.proofs.lemmas.Bool.{eqb-true, cases_lt, both_ways}
use Rattle.lexer.specs.declared.Token.{Token}
use Rattle.lexer.specs.declared.Token.TheVariants.{LineEnd, Number, HugeNumber, Name, Capitals, Percent, Dots, Colon, Open, Close, Comma, Equals, Minus, End}
use Rattle.lexer.specs.declared.LexicalFault.{LexicalFault}
use Rattle.lexer.specs.Bytes.{is_digit}
use Rattle.lexer.specs.Tokens.{token_at}
use Rattle.lexer.specs.Meanings.{NextIs}
use Rattle.lexer.proofs.Standing.{stands_where_read}
use Rattle.description.specs.Names.{same_text}
use Rattle.description.specs.Outlines.{Outline}
use Rattle.description.proofs.Names.{same_text_true}
use Rattle.reader.specs.Words.{value_in, declared_from}
use Rattle.reader.specs.Reading.{State, goes, fails, Answer, directive, start_name, start_end, to, next_line, start_found, started, read_from, nothing_read, versioned, after_mark, reading}
use Rattle.reader.specs.Grammar.{Word, name_word, percent_word, line_end, declaration_words, Describes, Text, AcceptsExactly, OneAtMost}
use Rattle.reader.proofs.Places.{stands_within}
use Rattle.reader.proofs.Walks.{Leads, read_leads, front_denotes}
use Rattle.reader.proofs.Namings.{named}
use Rattle.reader.proofs.Expected.{same_state, kind_back, mark_back}
use Rattle.reader.proofs.TokenKinds.{fine_goes}
use Rattle.reader.proofs.LinesRead.{declared_too, text_read}
use Rattle.reader.proofs.RulesBack.{LinesParsed, lines_back}
use Rattle.reader.proofs.NamesBack.{NamesParsed, names_back}

module _ (out : Outline) (ws ws1 : List Word) (first : ws ≡ line_end ∷ ws1) (p : ℕ) where
  abbrev top : State
  top = next_line nothing_read p directive

  described : (n : NamesParsed top out ws1) (text : List ℕ) (rest : List Word) (a : ℕ) → n.rest ≡ name_word text ∷ rest → declared_from 0 text n.names ≡ Some a → LinesParsed (started (to (declared_too top n.names n.line) start_name) a) out rest → Describes out ws
  described n text rest a e is m =
      subst (λ o. Describes o ws) m.out_is (record {
        some_name = n.some;
        few_names = n.few;
        names_apart = n.apart;
        few_rules = omega (arith, m.few);
        start = a;
        start_text = text;
        starts = refl;
        start_is = named text n.names a is;
        rule_words = m.words;
        rules_are = m.are_lines;
        last_end = m.last;
        last_is = m.last_is;
        words_are =
            first
            ∙ ap (λ l. line_end ∷ l)
            (n.ws_are ∙ ap (λ l. flat_map declaration_words n.names ++ (percent_word (codes "%start") ∷ l)) (e ∙ ap (λ l. name_word text ∷ l) m.ws_are));
      })

  started_from : (n : NamesParsed top out ws1) (q : ℕ) (u : State) (text : List ℕ) (rest : List Word) → n.rest ≡ name_word text ∷ rest → Leads rest u out → (o : Option ℕ) → declared_from 0 text n.names ≡ o → start_found (to (declared_too top n.names n.line) start_name) q o ≡ goes u → Describes out ws
  started_from n q u text rest e l None is f = absurd (fine_goes (fails 4 q) u f)
  started_from n q u text rest e l (Some a) is f =
      let s : State = started (to (declared_too top n.names n.line) start_name) a in
      described n text rest a e is
      (lines_back (suc (length rest)) rest s start_end out (omega arith) (λ u t p text. refl) (omega arith) (subst (λ x. Leads rest x out) (sym (same_state s u f)) l))

  start_back : (n : NamesParsed top out ws1) → Describes out ws
  start_back n =
      let s : State = to (declared_too top n.names n.line) start_name in
      let b = kind_back Name n.rest s (λ p text. start_found s p (declared_from 0 text n.names)) out (λ v. refl) refl (λ t p text. refl) n.onward in
      started_from n b.0 b.1 b.2 b.3 b.4 b.7 (declared_from 0 b.2 n.names) refl b.6

leads_describes : (ws : List Word) (out : Outline) → Leads ws nothing_read out → Describes out ws
leads_describes ws out l =
    let first = mark_back LineEnd (10 ∷ []) ws nothing_read (λ p. next_line nothing_read p directive) out (λ v. refl) refl (λ t h. h) (λ t p text. refl) l in
    start_back out ws first.1 first.2 first.0
    (names_back (suc (length first.1)) first.1 (next_line nothing_read first.0 directive) out (omega arith) tt (omega arith) first.3)

-- what is accepted has passed every test of the header
accepted_if : (b : Bool) (x : Answer) (f : ℕ × ℕ) (o : Outline) → cond b x (Err f) ≡ Ok o → (b ≡ true) × (x ≡ Ok o)
accepted_if true x f o e = (refl, e)
accepted_if false x f o e = let z : ◌≡◌ {A = ℕ} 0 1 = cc in absurd (omega arith)

value_one : (t : Token) → value_in t ≡ 1 → t ≡ Number 1
value_one LineEnd e = absurd (omega arith)
value_one (Number v) e = ap Number e
value_one HugeNumber e = absurd (omega arith)
value_one Name e = absurd (omega arith)
value_one Capitals e = absurd (omega arith)
value_one Percent e = absurd (omega arith)
value_one Dots e = absurd (omega arith)
value_one Colon e = absurd (omega arith)
value_one Open e = absurd (omega arith)
value_one Close e = absurd (omega arith)
value_one Comma e = absurd (omega arith)
value_one Equals e = absurd (omega arith)
value_one Minus e = absurd (omega arith)
value_one End e = absurd (omega arith)

module _ (bs : List ℕ) (o : Outline) (mark : take 3 bs ≡ codes "BTG") (space : get_or bs 3 0 ≡ 32) (digit : is_digit (get_or bs 4 0) ≡ true) where
  four : 4 ≤ length bs
  four = omega (arith, stands_within bs 3 32 (omega arith) space)

  header : bs ≡ codes "BTG " ++ drop 4 bs
  header =
      let front : take 4 bs ≡ codes "BTG " = take_more bs 3 0 four ∙ (λ i. mark i ++ space i ∷ []) in
      sym (take-append-drop 4 bs) ∙ ap (λ l. l ++ drop 4 bs) front

  text_from : (n : ℕ) → NextIs bs 4 (Number 1) 4 n → read_from (length bs) bs (4 + n) nothing_read ≡ Ok o → Text o bs
  text_from n there e =
      let read = read_leads (length bs) bs (4 + n) nothing_read o there.inside e in
      record {
        version = take n (drop 4 bs);
        rest = drop (4 + n) bs;
        bytes_are = header ∙ ap (λ l. codes "BTG " ++ l) (sym (take-append-drop n (drop 4 bs)) ∙ ap (λ l. take n (drop 4 bs) ++ l) (drop-drop n 4 bs));
        version_is = front_denotes bs 4 four (Number 1) 4 n there;
        words = read.0;
        spaced = read.1;
        describes = leads_describes read.0 o read.2;
      }

  -- no space stands where the digit does
  right_there : (t : Token) (p n : ℕ) → NextIs bs 4 t p n → p ≡ 4
  right_there t p n there =
      ⊎_elim
      (λ past. absurd (both_ways (is_digit (get_or bs 4 0)) (ap is_digit (there.spaces.1 4 (omega arith) past)) digit))
      (λ up. let low = there.spaces.0 in omega arith)
      (cases_lt 4 p)

  versioned_back : (r : Result (Token × (ℕ × ℕ)) LexicalFault) → token_at bs 4 ≡ r → versioned bs r ≡ Ok o → Text o bs
  versioned_back (Ok x) is e =
      let by = accepted_if (eqb (value_in x.0) 1) _ _ o e in
      let there = stands_where_read bs 4 four x.0 x.1.0 x.1.1 is in
      let at : x.1.0 ≡ 4 = right_there x.0 x.1.0 x.1.1 there in
      let one : x.0 ≡ Number 1 = value_one x.0 (eqb-true (value_in x.0) 1 by.0) in
      text_from x.1.1
      (subst (λ t. NextIs bs 4 t 4 x.1.1) one (subst (λ p. NextIs bs 4 x.0 p x.1.1) at there))
      (subst (λ p. read_from (length bs) bs (p + x.1.1) nothing_read ≡ Ok o) at by.1)
  versioned_back (Err f) is e = let z : ◌≡◌ {A = ℕ} 0 1 = cc in absurd (omega arith)

text_back : (bs : List ℕ) (o : Outline) → reading bs ≡ Ok o → Text o bs
text_back bs o e =
    let mark = accepted_if (same_text (take 3 bs) (codes "BTG")) (after_mark bs) (1, 0) o e in
    let space = accepted_if (eqb (get_or bs 3 0) 32) (cond (is_digit (get_or bs 4 0)) (versioned bs (token_at bs 4)) (Err (3, 4))) (3, 3) o mark.1 in
    let digit = accepted_if (is_digit (get_or bs 4 0)) (versioned bs (token_at bs 4)) (3, 4) o space.1 in
    versioned_back bs o (same_text_true (take 3 bs) (codes "BTG") mark.0) (eqb-true (get_or bs 3 0) 32 space.0) digit.0 (token_at bs 4) refl digit.1

pub accepts_exactly_lem : AcceptsExactly
accepts_exactly_lem bs o = (text_back bs o, text_read o bs)

pub one_at_most : OneAtMost
one_at_most bs o p s t = let e = text_read o bs s in let f = text_read p bs t in cc
