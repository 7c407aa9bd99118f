-- What the words must begin with where they lead on from a state that awaits one thing.
use Rattle.std.proofs.Common.{◌≡◌, ℕ, ◌^◌, ◌<◌, ◌≤◌, false, cond, List, [], ◌∷◌, sym, refl, ap, ◌∙◌, subst}
use Rattle.lexer.specs.declared.Token.{Token}
use Rattle.lexer.specs.declared.Token.TheVariants.{Number, End}
use Rattle.description.specs.Outlines.{Outline}
use Rattle.reader.specs.Words.{kind_number, is, value_in}
use Rattle.reader.specs.Reading.{State, Outcome, goes, fails, number_upto, step}
use Rattle.reader.specs.Grammar.{Word}
use Rattle.reader.proofs.TokenKinds.{rebuilt, kind_is, Fine, tested, fine_goes, number_read, Proper}
use Rattle.reader.proofs.Walks.{Leads}

pub same_state : (a b : State) → goes a ≡ goes b → a ≡ b
same_state a b e = cc

pub word_is : (w : Word) (k : Token) (t : List ℕ) → w.kind ≡ k → w.spelling ≡ t → w ≡ record { kind = k; spelling = t }
word_is w k t e f = λ i. record { kind = e i; spelling = f i }

pub going_fine : (x y : Outcome) (u : State) → x ≡ y → x ≡ goes u → Fine y
going_fine x y u e g = subst Fine e (fine_goes x u g)

-- a word of the kind k, which is no number
pub kind_back : (k : Token) (ws : List Word) (s : State) (x : ℕ → List ℕ → Outcome) (out : Outline) → ((v : ℕ) → rebuilt (kind_number k) v ≡ k) → is k End ≡ false → ((t : Token) (p : ℕ) (text : List ℕ) → step s t p text ≡ cond (is k t) (x p text) (fails 3 p)) → Leads ws s out → (p : ℕ) × (u : State) × (text : List ℕ) × (rest : List Word) × (ws ≡ record { kind = k; spelling = text } ∷ rest) × Proper k text × (x p text ≡ goes u) × Leads rest u out
unfolding Leads
kind_back k [] s x out plain other steps l =
    absurd (subst Fine (sym l.2 ∙ steps End l.0 l.1 ∙ ap (λ b. cond b (x l.0 l.1) (fails 3 l.0)) other) tt)
kind_back k (w ∷ ws) s x out plain other steps l =
    let p = l.0 in
    let text = w.spelling in
    let e = steps w.kind p text in
    let by = tested (is k w.kind) (x p text) 3 p (going_fine _ _ l.1 e l.3) in
    let kind : w.kind ≡ k = kind_is k w.kind by.0 ∙ plain (value_in w.kind) in
    (p, l.1, text, ws, ap (λ v. v ∷ ws) (word_is w k text kind refl), subst (λ t. Proper t text) kind l.2, sym (e ∙ by.1) ∙ l.3, l.4)

-- a word that its kind alone spells
pub mark_back : (k : Token) (mark : List ℕ) (ws : List Word) (s : State) (u : ℕ → State) (out : Outline) → ((v : ℕ) → rebuilt (kind_number k) v ≡ k) → is k End ≡ false → ((t : List ℕ) → Proper k t → t ≡ mark) → ((t : Token) (p : ℕ) (text : List ℕ) → step s t p text ≡ cond (is k t) (goes (u p)) (fails 3 p)) → Leads ws s out → (p : ℕ) × (rest : List Word) × (ws ≡ record { kind = k; spelling = mark } ∷ rest) × Leads rest (u p) out
mark_back k mark ws s u out plain other spelt steps l =
    let b = kind_back k ws s (λ p text. goes (u p)) out plain other steps l in (
      b.0,
      b.3,
      b.4 ∙ ap (λ t. record { kind = k; spelling = t } ∷ b.3) (spelt b.2 b.5),
      subst (λ v. Leads b.3 v out) (sym (same_state (u b.0) b.1 b.6)) b.7,
    )

-- a number up to a limit
pub number_back : (limit : ℕ) (ws : List Word) (s : State) (x : Token → ℕ → Outcome) (out : Outline) → limit < 2 ^ 32 → ((t : Token) (p : ℕ) (text : List ℕ) → step s t p text ≡ number_upto limit t p (x t p)) → Leads ws s out → (p : ℕ) × (u : State) × (w : Word) × (rest : List Word) × (ws ≡ w ∷ rest) × (w.kind ≡ Number (value_in w.kind)) × (value_in w.kind ≤ limit) × (x w.kind p ≡ goes u) × Leads rest u out
unfolding Leads
number_back limit [] s x out small steps l = absurd (subst Fine (sym l.2 ∙ steps End l.0 l.1) tt)
number_back limit (w ∷ ws) s x out small steps l =
    let p = l.0 in
    let e = steps w.kind p w.spelling in
    let by = number_read limit w.kind p (x w.kind p) small (going_fine _ _ l.1 e l.3) in
    (p, l.1, w, ws, refl, by.0, by.1, sym (e ∙ by.2) ∙ l.3, l.4)

-- a number and the state after it
pub record Figure (limit : ℕ) (u : ℕ → ℕ → State) (out : Outline) (ws : List Word) : Type 0 where
  pub place : ℕ
  pub value : ℕ
  pub word : Word
  pub rest : List Word
  pub ws_are : ws ≡ word ∷ rest
  pub is_number : word.kind ≡ Number value
  pub in_limit : value ≤ limit
  pub onward : Leads rest (u value place) out

pub figure_back : (limit : ℕ) (ws : List Word) (s : State) (u : ℕ → ℕ → State) (out : Outline) → limit < 2 ^ 32 → ((t : Token) (p : ℕ) (text : List ℕ) → step s t p text ≡ number_upto limit t p (goes (u (value_in t) p))) → Leads ws s out → Figure limit u out ws
figure_back limit ws s u out small steps l =
    let b = number_back limit ws s (λ t p. goes (u (value_in t) p)) out small steps l in
    record {
      place = b.0;
      value = value_in b.2.kind;
      word = b.2;
      rest = b.3;
      ws_are = b.4;
      is_number = b.5;
      in_limit = b.6;
      onward = subst (λ v. Leads b.3 v out) (sym (same_state (u (value_in b.2.kind) b.0) b.1 b.7)) b.8;
    }
