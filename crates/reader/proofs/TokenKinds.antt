-- What a test of a token's kind tells, and what an outcome that goes on tells of the tests before it.
use Rattle.std.proofs.Common.{◌≡◌, ℕ, ◌^◌, ◌<◌, ◌≤◌, Bool, true, false, cond, ltb, List, [], ◌∷◌, ◌++◌, length, get_or, sym, refl, ap, ◌∙◌, subst, ⊎_elim, arith}
use Rattle.std.proofs.lemmas.List.{take_at}
use Rattle.std.proofs.lemmas.Bool.{eqb-true, or_cases, ltb-false, le-ltb, cond-false}
use Rattle.lexer.specs.declared.Token.{Token}
use Rattle.lexer.specs.declared.Token.TheVariants.{LineEnd, Number, HugeNumber, Name, Capitals, Percent, Dots, Colon, Open, Close, Comma, Equals, Minus, End}
use Rattle.lexer.specs.Meanings.{Denotes, Spells}
use Rattle.description.specs.Outlines.{Outline}
use Rattle.reader.specs.Words.{kind_number, is, is_number, value_in}
use Rattle.reader.specs.Reading.{State, Outcome, goes, ends, fails, number_upto}

-- the token of a kind's number and a value
abbrev pub rebuilt : ℕ → ℕ → Token
rebuilt n v =
    get_or (LineEnd ∷ Number v ∷ HugeNumber ∷ Name ∷ Capitals ∷ Percent ∷ Dots ∷ Colon ∷ Open ∷ Close ∷ Comma ∷ Equals ∷ Minus ∷ End ∷ []) n End

rebuilt_same : (t : Token) → rebuilt (kind_number t) (value_in t) ≡ t
rebuilt_same LineEnd = refl
rebuilt_same (Number v) = refl
rebuilt_same HugeNumber = refl
rebuilt_same Name = refl
rebuilt_same Capitals = refl
rebuilt_same Percent = refl
rebuilt_same Dots = refl
rebuilt_same Colon = refl
rebuilt_same Open = refl
rebuilt_same Close = refl
rebuilt_same Comma = refl
rebuilt_same Equals = refl
rebuilt_same Minus = refl
rebuilt_same End = refl

pub kind_is : (k t : Token) → is k t ≡ true → t ≡ rebuilt (kind_number k) (value_in t)
kind_is k t e = sym (rebuilt_same t) ∙ ap (λ n. rebuilt n (value_in t)) (eqb-true (kind_number t) (kind_number k) e)

-- an outcome that goes on or ends was not told by a fault
abbrev pub Fine : Outcome → Type 0
Fine (goes s) = Unit {0}
Fine (ends o) = Unit {0}
Fine (fails k p) = ⊥

pub tested : (b : Bool) (x : Outcome) (k p : ℕ) → Fine (cond b x (fails k p)) → (b ≡ true) × (cond b x (fails k p) ≡ x)
tested true x k p f = (refl, refl)
tested false x k p f = absurd f

pub passed : (b : Bool) (x : Outcome) (k p : ℕ) → Fine (cond b (fails k p) x) → (b ≡ false) × (cond b (fails k p) x ≡ x)
passed true x k p f = absurd f
passed false x k p f = (refl, refl)

pub fine_goes : (x : Outcome) (s : State) → x ≡ goes s → Fine x
fine_goes x s e = subst Fine (sym e) tt

pub fine_ends : (x : Outcome) (o : Outline) → x ≡ ends o → Fine x
fine_ends x o e = subst Fine (sym e) tt

-- a number up to a limit below 2 ^ 32
pub number_read : (limit : ℕ) (t : Token) (p : ℕ) (x : Outcome) → limit < 2 ^ 32 → Fine (number_upto limit t p x) → (t ≡ Number (value_in t)) × (value_in t ≤ limit) × (number_upto limit t p x ≡ x)
number_read limit t p x small f =
    let number = tested (is_number t) (cond (ltb limit (value_in t)) (fails 6 p) x) 3 p f in
    let below = passed (ltb limit (value_in t)) x 6 p (subst Fine number.1 f) in
    let low = ltb-false limit (value_in t) below.0 in (
      ⊎_elim (λ e. kind_is (Number 0) t e) (λ e. absurd (huge t (kind_is HugeNumber t e) low)) (or_cases (is (Number 0) t) (is HugeNumber t) number.0),
      low,
      number.1 ∙ below.1,
    )
  where
    huge : (t : Token) → t ≡ HugeNumber → value_in t ≤ limit → ⊥
    huge t e h = omega (arith, ap value_in e)

pub number_goes : (limit v p : ℕ) (t : Token) (x : Outcome) → t ≡ Number v → v ≤ limit → number_upto limit t p x ≡ x
number_goes limit v p t x e h = ap (λ t. number_upto limit t p x) e ∙ cond-false (ltb limit v) (fails 6 p) x (le-ltb limit v h)

-- what a word's bytes are by its kind alone
abbrev pub Proper : Token → List ℕ → Type 0
Proper LineEnd t = t ≡ 10 ∷ []
Proper (Number v) t = v < 2 ^ 32
Proper HugeNumber t = Unit {0}
Proper Name t = Unit {0}
Proper Capitals t = Unit {0}
Proper Percent t = Unit {0}
Proper Dots t = t ≡ 46 ∷ 46 ∷ []
Proper Colon t = t ≡ 58 ∷ []
Proper Open t = t ≡ 40 ∷ []
Proper Close t = t ≡ 41 ∷ []
Proper Comma t = t ≡ 44 ∷ []
Proper Equals t = t ≡ 61 ∷ []
Proper Minus t = t ≡ 45 ∷ []
Proper End t = Unit {0}

spelt : (word t rest : List ℕ) → Spells word (t ++ rest) (length t) → t ≡ word
spelt word t rest s = sym (take_at t rest (length t) refl) ∙ s.1

pub proper : (k : Token) (t rest : List ℕ) → Denotes k (t ++ rest) (length t) → Proper k t
proper LineEnd t rest d = spelt _ t rest d
proper (Number v) t rest d = d.3
proper HugeNumber t rest d = tt
proper Name t rest d = tt
proper Capitals t rest d = tt
proper Percent t rest d = tt
proper Dots t rest d = spelt _ t rest d
proper Colon t rest d = spelt _ t rest d
proper Open t rest d = spelt _ t rest d
proper Close t rest d = spelt _ t rest d
proper Comma t rest d = spelt _ t rest d
proper Equals t rest d = spelt _ t rest d
proper Minus t rest d = spelt _ t rest d
proper End t rest d = tt
