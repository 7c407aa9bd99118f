-- What a token is, said without how it is found: the bytes that stand at its place.
use Rattle.std.specs.Prelude.{◌≡◌, ℕ, ◌+◌, ◌-◌, ◌^◌, ◌<◌, ◌≤◌, Bool, true, false, List, [], ◌∷◌, length, take, drop, Ok, Err, codes, slice_index, slice_index_or}
use Rattle.lexer.specs.declared.Token.{Token}
use Rattle.lexer.specs.declared.Token.TheVariants.{LineEnd, Number, HugeNumber, Name, Capitals, Percent, Dots, Colon, Open, Close, Comma, Equals, Minus, End}
use Rattle.lexer.specs.declared.LexicalFault.{LexicalFault}
use Rattle.lexer.specs.declared.LexicalFault.TheVariants.{StrayByte, LongName}
use Rattle.lexer.specs.Bytes.{is_digit, is_capital, is_lower, is_lower_or_digit, base_ten}
use Rattle.lexer.specs.Tokens.{token_at, lexical_place}

-- the first n bytes pass the test, and n is as long as can be: the byte after them, if there is one, does not pass
pub record RunOf (test : ℕ → Bool) (bs : List ℕ) (n : ℕ) : Type 0 where
  pub inside : n ≤ length bs
  pub passes : (k : ℕ) → k < n → test (slice_index bs k) ≡ true
  pub stops : n < length bs → test (slice_index bs n) ≡ false

-- the first n bytes are this word
abbrev pub Spells : List ℕ → List ℕ → ℕ → Type 0
Spells word bs n = (n ≡ length word) × (take n bs ≡ word)

-- the first n bytes are a token of this kind; 37 is the code of %
abbrev pub Denotes : Token → List ℕ → ℕ → Type 0
Denotes LineEnd bs n = Spells (10 ∷ []) bs n
Denotes (Number v) bs n = RunOf is_digit bs n × (0 < n) × (base_ten (take n bs) ≡ v) × (v < 2 ^ 32)
Denotes HugeNumber bs n = RunOf is_digit bs n × (0 < n) × (2 ^ 32 ≤ base_ten (take n bs))
Denotes Name bs n = RunOf is_lower_or_digit bs n × (0 < n) × (n ≤ 8) × (is_lower (slice_index bs 0) ≡ true)
Denotes Capitals bs n = RunOf is_capital bs n × (0 < n)
Denotes Percent bs n = (slice_index bs 0 ≡ 37) × (0 < n) × RunOf is_lower_or_digit (drop 1 bs) (n - 1)
Denotes Dots bs n = Spells (codes "..") bs n
Denotes Colon bs n = Spells (codes ":") bs n
Denotes Open bs n = Spells (codes "(") bs n
Denotes Close bs n = Spells (codes ")") bs n
Denotes Comma bs n = Spells (codes ",") bs n
Denotes Equals bs n = Spells (codes "=") bs n
Denotes Minus bs n = Spells (codes "-") bs n
Denotes End bs n = (bs ≡ []) × (n ≡ 0)

-- no token stands at the front of the bytes, and why: no name begins there, or one that is over 8 long
abbrev pub Missing : LexicalFault → List ℕ → Type 0
Missing (StrayByte p) bs = ((t : Token) (n : ℕ) → Denotes t bs n → ⊥) × (is_lower (slice_index bs 0) ≡ false)
Missing (LongName p) bs = (is_lower (slice_index bs 0) ≡ true) × ((n : ℕ) → RunOf is_lower_or_digit bs n → 8 < n)

-- from offset o up to place p only spaces stand
abbrev pub SpacesOnly : List ℕ → ℕ → ℕ → Type 0
SpacesOnly bs o p = (o ≤ p) × ((k : ℕ) → o ≤ k → k < p → slice_index bs k ≡ 32)

-- after offset o of the text the next token is of this kind, at place p and n long
pub record NextIs (bs : List ℕ) (o : ℕ) (t : Token) (p n : ℕ) : Type 0 where
  pub spaces : SpacesOnly bs o p
  pub inside : p + n ≤ length bs
  pub denotes : Denotes t (drop p bs) n

-- after offset o of the text no token is next, and this fault is told at the byte after the spaces
pub record NextFails (bs : List ℕ) (o : ℕ) (f : LexicalFault) : Type 0 where
  pub spaces : SpacesOnly bs o (lexical_place f)
  pub inside : lexical_place f < length bs
  pub past_spaces : slice_index_or bs (lexical_place f) 0 ≡ 32 → ⊥
  pub missing : Missing f (drop (lexical_place f) bs)

-- what is read is the token that stands there, and the token that stands there is read
abbrev pub ReadsWhatStands : Type 0
ReadsWhatStands =
    (bs : List ℕ) (o : ℕ) → o ≤ length bs → (t : Token) (p n : ℕ) →
    (token_at bs o ≡ Ok (t, (p, n)) → NextIs bs o t p n) × (NextIs bs o t p n → token_at bs o ≡ Ok (t, (p, n)))

-- a fault is told exactly where no token stands
abbrev pub FaultsWhereNoneStands : Type 0
FaultsWhereNoneStands =
    (bs : List ℕ) (o : ℕ) → o ≤ length bs → (f : LexicalFault) →
    (token_at bs o ≡ Err f → NextFails bs o f) × (NextFails bs o f → token_at bs o ≡ Err f)

-- a token is found again from its own place
abbrev pub FoundAgain : Type 0
FoundAgain = (bs : List ℕ) (o : ℕ) → o ≤ length bs → (t : Token) (p n : ℕ) → token_at bs o ≡ Ok (t, (p, n)) → token_at bs p ≡ Ok (t, (p, n))
