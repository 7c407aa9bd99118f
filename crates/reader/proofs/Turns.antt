-- Reading on by one token.
use Rattle.std.proofs.Common.{◌≡◌, ℕ, suc, ◌+◌, ◌-◌, ◌<◌, ◌≤◌, Bool, true, false, eqb, leb, List, [], ◌∷◌, map, length, get_or, take, drop, None, Ok, Err, Result, sym, refl, ap, ◌∙◌, subst, arith}
use Rattle.std.proofs.lemmas.List.{get_or-take, length-take-le}
use Rattle.std.proofs.lemmas.Bool.{and_from, le-leb}
use Rattle.lexer.specs.declared.Token.{Token}
use Rattle.lexer.specs.declared.Token.TheVariants.{LineEnd, Number, HugeNumber, Name, Capitals, Percent, Dots, Colon, Open, Close, Comma, Equals, Minus, End}
use Rattle.lexer.specs.declared.LexicalFault.{LexicalFault}
use Rattle.lexer.specs.Bytes.{is_lower, is_capital, is_lower_or_digit}
use Rattle.lexer.specs.Tokens.{token_at, lexical_place}
use Rattle.lexer.specs.Meanings.{RunOf, Denotes}
use Rattle.lexer.specs.Tilings.{is_end}
use Rattle.lexer.proofs.Standing.{stands_where_read}
use Rattle.lexer.proofs.Tiled.{reading_goes_on}
use Rattle.pattern.specs.Names.{all_plain}
use Rattle.description.specs.declared.descriptions.Description.{Description}
use Rattle.description.specs.Descriptions.{names_of, rules_of}
use Rattle.description.specs.Outlines.{Outline, declaration_of, production_of}
use Rattle.reader.specs.Lexemes.{well_spelled, all_capital}
use Rattle.reader.specs.Reading.{Bracket, Draft, Awaits, State, Outcome, Answer, header_end, directive, new_name, name_place, declaration_end, start_name, start_end, rule_or_end, left_colon, first_item, item, opening, after_item, after_constant, low_end, two_dots, high_end, mnemonic_word, size_number, cycles_number, rule_end, goes, ends, fails, item_done, step_at, step, carried, with_token, read_from, nothing_read}
use Rattle.reader.specs.States.{stands}
use Rattle.reader.specs.Soundness.{Sound, SoundAfter}
use Rattle.reader.proofs.Sounds.{sound_step}

module _ (bs : List ℕ) (o : ℕ) (s : State) (f : ℕ) where
  told : (r : Result (Token × (ℕ × ℕ)) LexicalFault) → token_at bs o ≡ r → with_token bs s r (λ next after. read_from f bs next after) ≡ read_from (suc f) bs o s
  told r e = sym (ap (λ x. with_token bs s x (λ next after. read_from f bs next after)) e)

  after : (t : Token) (p n : ℕ) → token_at bs o ≡ Ok (t, (p, n)) → (x : Outcome) → x ≡ step s t p (take n (drop p bs)) → carried x (read_from f bs (p + n)) ≡ read_from (suc f) bs o s
  after t p n e x same = ap (λ y. carried y (read_from f bs (p + n))) same ∙ told (Ok (t, (p, n))) e

  pub goes_on : (t : Token) (p n : ℕ) → token_at bs o ≡ Ok (t, (p, n)) → (next : State) → goes next ≡ step s t p (take n (drop p bs)) → read_from f bs (p + n) next ≡ read_from (suc f) bs o s
  goes_on t p n e next same = after t p n e (goes next) same

  pub ends_here : (t : Token) (p n : ℕ) → token_at bs o ≡ Ok (t, (p, n)) → (x : Outline) → ends x ≡ step s t p (take n (drop p bs)) → Ok x ≡ read_from (suc f) bs o s
  ends_here t p n e x same = after t p n e (ends x) same

  pub fails_here : (t : Token) (p n : ℕ) → token_at bs o ≡ Ok (t, (p, n)) → (k q : ℕ) → fails k q ≡ step s t p (take n (drop p bs)) → Err (k, q) ≡ read_from (suc f) bs o s
  fails_here t p n e k q same = after t p n e (fails k q) same

  pub no_token : (x : LexicalFault) → token_at bs o ≡ Err x → Err (3, lexical_place x) ≡ read_from (suc f) bs o s
  no_token x e = told (Err x) e

-- nothing goes on after the text's end
ended_in : (s : State) (d : Draft) (bs : List Bracket) (p : ℕ) (next : State) → goes next ≡ item_done s d bs End p → ⊥
ended_in s d [] p next e = let z : ◌≡◌ {A = ℕ} 0 1 = cc in omega arith
ended_in s d (b ∷ bs) p next e = let z : ◌≡◌ {A = ℕ} 0 1 = cc in omega arith

goes_fails : (s : State) (k p : ℕ) → goes s ≡ fails k p → ⊥
goes_fails s k p e = let z : ◌≡◌ {A = ℕ} 0 1 = cc in omega arith

goes_ends : (s : State) (o : Outline) → goes s ≡ ends o → ⊥
goes_ends s o e = let z : ◌≡◌ {A = ℕ} 0 1 = cc in omega arith

ended : (w : Awaits) (s : State) (p : ℕ) (text : List ℕ) (next : State) → goes next ≡ step_at w s End p text → ⊥
ended header_end s p text next e = goes_fails next 3 p e
ended directive s p text next e = goes_fails next 3 p e
ended new_name s p text next e = goes_fails next 3 p e
ended (name_place t) s p text next e = goes_fails next 3 p e
ended declaration_end s p text next e = goes_fails next 3 p e
ended start_name s p text next e = goes_fails next 3 p e
ended start_end s p text next e = goes_ends next s.outline e
ended rule_or_end s p text next e = goes_ends next s.outline e
ended (left_colon d) s p text next e = goes_fails next 3 p e
ended (first_item d) s p text next e = goes_fails next 3 p e
ended (item d) s p text next e = goes_fails next 3 p e
ended (opening n q d) s p text next e = goes_fails next 3 p e
ended (after_item d) s p text next e = ended_in s d d.brackets p next e
ended (after_constant d) s p text next e = ended_in s d d.brackets p next e
ended (low_end d) s p text next e = goes_fails next 3 p e
ended (two_dots l q d) s p text next e = goes_fails next 3 p e
ended (high_end l q d) s p text next e = goes_fails next 3 p e
ended (mnemonic_word d) s p text next e = goes_fails next 3 p e
ended (size_number m d) s p text next e = goes_fails next 3 p e
ended (cycles_number n m d) s p text next e = goes_fails next 3 p e
ended rule_end s p text next e = goes_ends next s.outline e

not_end : (s : State) (t : Token) (p : ℕ) (text : List ℕ) (next : State) → goes next ≡ step s t p text → is_end t ≡ false
not_end s LineEnd p text next e = refl
not_end s (Number v) p text next e = refl
not_end s HugeNumber p text next e = refl
not_end s Name p text next e = refl
not_end s Capitals p text next e = refl
not_end s Percent p text next e = refl
not_end s Dots p text next e = refl
not_end s Colon p text next e = refl
not_end s Open p text next e = refl
not_end s Close p text next e = refl
not_end s Comma p text next e = refl
not_end s Equals p text next e = refl
not_end s Minus p text next e = refl
not_end s End p text next e = absurd (ended s.awaits s p text next e)

-- a token after which more is awaited takes a byte
pub token_takes : (bs : List ℕ) (o : ℕ) (s : State) (t : Token) (p n : ℕ) (text : List ℕ) (next : State) → o ≤ length bs → token_at bs o ≡ Ok (t, (p, n)) → goes next ≡ step s t p text → (o < p + n) × (p + n ≤ length bs)
token_takes bs o s t p n text next h e same = reading_goes_on bs o h t p n e (not_end s t p text next same)

-- how a token is spelled
plain_from : (xs : List ℕ) → ((k : ℕ) → k < length xs → is_lower_or_digit (get_or xs k 0) ≡ true) → all_plain xs ≡ true
plain_from [] h = refl
plain_from (x ∷ xs) h = and_from (is_lower_or_digit x) (all_plain xs) (h 0 (omega arith)) (plain_from xs (λ k lt. h (suc k) (omega arith)))

capital_from : (xs : List ℕ) → ((k : ℕ) → k < length xs → is_capital (get_or xs k 0) ≡ true) → all_capital xs ≡ true
capital_from [] h = refl
capital_from (x ∷ xs) h = and_from (is_capital x) (all_capital xs) (h 0 (omega arith)) (capital_from xs (λ k lt. h (suc k) (omega arith)))

run_passes : (test : ℕ → Bool) (bs : List ℕ) (n : ℕ) → RunOf test bs n → (k : ℕ) → k < length (take n bs) → test (get_or (take n bs) k 0) ≡ true
run_passes test bs n r k h =
    let below : k < n = omega (arith, length-take-le n bs r.inside) in
    ap test (get_or-take n bs k 0 below) ∙ r.passes k below

spelled : (t : Token) (bs : List ℕ) (n : ℕ) → Denotes t bs n → well_spelled t (take n bs) ≡ true
spelled LineEnd bs n d = ap (λ xs. eqb (length xs) 1) d.1
spelled (Number v) bs n d = refl
spelled HugeNumber bs n d = refl
spelled Name bs n d =
    let long : length (take n bs) ≤ 8 = omega (arith, length-take-le n bs d.0.inside, d.2) in
    and_from (is_lower (get_or (take n bs) 0 0)) _ (ap is_lower (get_or-take n bs 0 0 d.1) ∙ d.3)
    (and_from (leb (length (take n bs)) 8) (all_plain (take n bs)) (le-leb (length (take n bs)) 8 long) (plain_from (take n bs) (run_passes is_lower_or_digit bs n d.0)))
spelled Capitals bs n d = capital_from (take n bs) (run_passes is_capital bs n d.0)
spelled Percent bs n d = refl
spelled Dots bs n d = refl
spelled Colon bs n d = refl
spelled Open bs n d = refl
spelled Close bs n d = refl
spelled Comma bs n d = refl
spelled Equals bs n d = refl
spelled Minus bs n d = refl
spelled End bs n d = refl

pub token_spelled : (bs : List ℕ) (o : ℕ) (t : Token) (p n : ℕ) → o ≤ length bs → token_at bs o ≡ Ok (t, (p, n)) → well_spelled t (take n (drop p bs)) ≡ true
token_spelled bs o t p n h e = spelled t (drop p bs) n (stands_where_read bs o h t p n e).denotes

pub token_inside : (bs : List ℕ) (o : ℕ) (t : Token) (p n : ℕ) → o ≤ length bs → token_at bs o ≡ Ok (t, (p, n)) → (o ≤ p) × (p + n ≤ length bs)
token_inside bs o t p n h e =
    let there = stands_where_read bs o h t p n e in
    (there.spaces.0, there.inside)

pub same_slice : (bs cs : List ℕ) (p n : ℕ) → cs ≡ bs → take (p + n - p) (drop p cs) ≡ take n (drop p bs)
same_slice bs cs p n e =
    let m : p + n - p ≡ n = omega arith in
    λ i. take (m i) (drop p (e i))

-- nothing is read yet
pub nothing_stands : (d : Description) → names_of d ≡ [] → rules_of d ≡ [] → stands (record { description = d; line_start = 0 }) header_end ≡ nothing_read
nothing_stands d names rules = λ i. record {
  outline = record { declarations = map declaration_of (names i); begins = None; productions = map production_of (rules i) };
  line = 0;
  awaits = header_end;
}

pub reading_starts : (bs : List ℕ) (o : ℕ) (s : State) → 0 < o → o ≤ length bs → s ≡ nothing_read → read_from (suc (length bs - 1)) bs o s ≡ read_from (length bs) bs o nothing_read
reading_starts bs o s h l e =
    let back : suc (length bs - 1) ≡ length bs = omega arith in
    λ i. read_from (back i) bs o (e i)

-- a token at o is t at p, n long; the text is then cs, the offset q
module _ (bs : List ℕ) (o : ℕ) (t : Token) (p n : ℕ) (cs : List ℕ) (q : ℕ) (h : o ≤ length bs) (e : token_at bs o ≡ Ok (t, (p, n))) (text : cs ≡ bs) (moved : q ≡ p + n) (s next : State) (same : goes next ≡ step s t p (take n (drop p bs))) where
  pub turn_falls : length cs - q < length bs - o
  turn_falls =
      let on = token_takes bs o s t p n (take n (drop p bs)) next h e same in
      omega (arith, on.0, on.1, ap length text)

  pub turn_again : (turns : ℕ) (answer : Answer) → length bs - o ≤ turns → read_from (suc turns) bs o s ≡ answer → Sound s → (more : ℕ) × (length cs - q ≤ more) × (read_from (suc more) cs q next ≡ answer) × Sound next
  turn_again turns answer few is sound =
      let falls = turn_falls in
      let back : suc (turns - 1) ≡ turns = omega arith in (
        turns - 1,
        omega arith,
        (λ i. read_from (back i) (text i) (moved i) next) ∙ goes_on bs o s turns t p n e next same ∙ is,
        subst SoundAfter (sym same) (sound_step s t p (take n (drop p bs)) sound),
      )
