-- The text format of descriptions as a grammar: which bytes are which description. Nothing here reads.
use Rattle.std.specs.Prelude.{◌≡◌, ℕ, zero, suc, ◌-◌, ◌^◌, ◌≤◌, true, ◌⊎◌, List, [], ◌∷◌, ◌++◌, length, Some, None, Ok, Err, codes, Option, ◌≢◌}
use Rattle.std.specs.List.{flat_map, AllByRecursion}
use Rattle.operators.specs.declared.Unary.{Unary}
use Rattle.operators.specs.declared.Binary.{Binary}
use Rattle.operators.specs.declared.Operator.TheVariants.{Cnst, Var, One, Two}
use Rattle.operators.specs.Operators.{operator_name}
use Rattle.lexer.specs.declared.Token.{Token}
use Rattle.lexer.specs.declared.Token.TheVariants.{LineEnd, Number, Name, Capitals, Percent, Dots, Colon, Open, Close, Comma, Equals, Minus, End}
use Rattle.lexer.specs.Meanings.{Denotes}
use Rattle.description.specs.Outlines.{Part, operand, one_sided, two_sided, constant, variable, Declaration, Production, Outline}
use Rattle.reader.specs.Reading.{lies, within_limits, reading}

-- a word of a text: a token's kind and its bytes
pub record Word : Type 0 where
  pub kind : Token
  pub spelling : List ℕ

-- the bytes are these words: any spaces before each and at the end, and each word as long as can be
abbrev pub Spaced : List Word → List ℕ → Type 0
Spaced [] bytes = AllByRecursion (λ b. b ≡ 32) bytes
Spaced (w ∷ ws) bytes =
    (spaces : List ℕ) × (rest : List ℕ) × (bytes ≡ spaces ++ (w.spelling ++ rest)) × AllByRecursion (λ b. b ≡ 32) spaces
    × Denotes w.kind (w.spelling ++ rest) (length w.spelling) × (w.kind ≢ End) × Spaced ws rest

abbrev pub name_word : List ℕ → Word
name_word t = record { kind = Name; spelling = t }

abbrev pub capitals_word : List ℕ → Word
capitals_word t = record { kind = Capitals; spelling = t }

abbrev pub percent_word : List ℕ → Word
percent_word t = record { kind = Percent; spelling = t }

abbrev pub line_end : Word
line_end = record { kind = LineEnd; spelling = 10 ∷ [] }

abbrev pub colon : Word
colon = record { kind = Colon; spelling = codes ":" }

abbrev pub open_bracket : Word
open_bracket = record { kind = Open; spelling = codes "(" }

abbrev pub close_bracket : Word
close_bracket = record { kind = Close; spelling = codes ")" }

abbrev pub comma : Word
comma = record { kind = Comma; spelling = codes "," }

abbrev pub dots : Word
dots = record { kind = Dots; spelling = codes ".." }

abbrev pub equals_sign : Word
equals_sign = record { kind = Equals; spelling = codes "=" }

abbrev pub minus_sign : Word
minus_sign = record { kind = Minus; spelling = codes "-" }

-- name a, counted from 0, has this text
abbrev pub Named : List Declaration → ℕ → List ℕ → Type 0
Named [] a t = ⊥
Named (d ∷ ds) zero t = d.spelled ≡ t
Named (d ∷ ds) (suc a) t = Named ds a t

-- no two names have one text
abbrev pub Apart : List Declaration → Type 0
Apart [] = Unit {0}
Apart (d ∷ ds) = AllByRecursion (λ e. e.spelled ≢ d.spelled) ds × Apart ds

-- a pattern as a tree
pub data Form : Type 0 where
  name_form : ℕ → Form
  constant_form : ℕ → ℕ → Form
  variable_form : Form
  one_form : Unary → Form → Form
  two_form : Binary → Form → Form → Form

-- its items in reading order
abbrev pub items_in : Form → List Part
items_in (name_form a) = operand a ∷ []
items_in (constant_form low high) = constant low high ∷ []
items_in variable_form = variable ∷ []
items_in (one_form o f) = one_sided o ∷ items_in f
items_in (two_form o f g) = two_sided o ∷ (items_in f ++ items_in g)

-- PATTERN: a name, a leaf, or an operator with its parts in brackets; a full range may be left out
abbrev pub PatternWords : List Declaration → Form → List Word → Type 0
PatternWords ds (name_form a) ws = (t : List ℕ) × Named ds a t × (ws ≡ name_word t ∷ [])
PatternWords ds (constant_form low high) ws =
    ((low ≡ 0) × (high ≡ 2 ^ 32 - 1) × (ws ≡ capitals_word (operator_name Cnst) ∷ []))
    ⊎ ((first : Word) × (last : Word) × (first.kind ≡ Number low) × (last.kind ≡ Number high) × (low ≤ high)
    × (ws ≡ capitals_word (operator_name Cnst) ∷ colon ∷ first ∷ dots ∷ last ∷ []))
PatternWords ds variable_form ws = ws ≡ capitals_word (operator_name Var) ∷ []
PatternWords ds (one_form o f) ws =
    (part : List Word) × PatternWords ds f part
    × (ws ≡ capitals_word (operator_name (One o)) ∷ open_bracket ∷ (part ++ close_bracket ∷ []))
PatternWords ds (two_form o f g) ws =
    (left : List Word) × (right : List Word) × PatternWords ds f left × PatternWords ds g right
    × (ws ≡ capitals_word (operator_name (Two o)) ∷ open_bracket ∷ (left ++ comma ∷ (right ++ close_bracket ∷ [])))

-- MNEMONIC, or `-` at a chain rule between names of equal PLACE
abbrev pub EmissionWord : List Declaration → ℕ → List Part → Option (List ℕ) → Word → Type 0
EmissionWord ds a items (Some m) w = w ≡ name_word m
EmissionWord ds a items None w = (w ≡ minus_sign) × ((b : ℕ) × (items ≡ operand b ∷ []) × (lies ds a ≡ lies ds b))

-- NAME: PATTERN = MNEMONIC SIZE CYCLES
pub record RuleWords (ds : List Declaration) (r : Production) (ws : List Word) : Type 0 where
  pub left_text : List ℕ
  pub left_is : Named ds r.derives left_text
  pub pattern_form : Form
  pub items_are : r.parts ≡ items_in pattern_form
  pub few_items : within_limits r.parts ≡ true
  pub pattern_words : List Word
  pub pattern_is : PatternWords ds pattern_form pattern_words
  pub emission_word : Word
  pub emission_is : EmissionWord ds r.derives r.parts r.emits emission_word
  pub size_word : Word
  pub size_is : size_word.kind ≡ Number r.in_bytes
  pub size_limit : r.in_bytes ≤ 99
  pub cycles_word : Word
  pub cycles_is : cycles_word.kind ≡ Number r.in_cycles
  pub cycles_limit : r.in_cycles ≤ 999
  pub words_are : ws ≡ name_word left_text ∷ colon ∷ (pattern_words ++ equals_sign ∷ emission_word ∷ size_word ∷ cycles_word ∷ [])

-- the rules, each on a line of its own: a line end before each
abbrev pub RuleLines : List Declaration → List Production → List Word → Type 0
RuleLines ds [] ws = ws ≡ []
RuleLines ds (r ∷ rs) ws =
    (first : List Word) × (rest : List Word) × RuleWords ds r first × RuleLines ds rs rest × (ws ≡ line_end ∷ (first ++ rest))

-- %nt NAME PLACE
abbrev pub declaration_words : Declaration → List Word
declaration_words d = percent_word (codes "%nt") ∷ name_word d.spelled ∷ capitals_word (d.lies_in ∷ []) ∷ line_end ∷ []

-- the lines after the header: declarations, %start NAME, rules; the last line end may be missing
pub record Describes (o : Outline) (ws : List Word) : Type 0 where
  pub some_name : 1 ≤ length o.declarations
  pub few_names : length o.declarations ≤ 16
  pub names_apart : Apart o.declarations
  pub few_rules : length o.productions ≤ 128
  pub start : ℕ
  pub start_text : List ℕ
  pub starts : o.begins ≡ Some start
  pub start_is : Named o.declarations start start_text
  pub rule_words : List Word
  pub rules_are : RuleLines o.declarations o.productions rule_words
  pub last_end : List Word
  pub last_is : (last_end ≡ []) ⊎ (last_end ≡ line_end ∷ [])
  pub words_are :
      ws ≡ line_end ∷ (flat_map declaration_words o.declarations ++ (percent_word (codes "%start") ∷ name_word start_text ∷ (rule_words ++ last_end)))

-- the bytes are this description: the mark, one space, the version 1, and then those words
pub record Text (o : Outline) (bytes : List ℕ) : Type 0 where
  pub version : List ℕ
  pub rest : List ℕ
  pub bytes_are : bytes ≡ codes "BTG " ++ (version ++ rest)
  pub version_is : Denotes (Number 1) (version ++ rest) (length version)
  pub words : List Word
  pub spaced : Spaced words rest
  pub describes : Describes o words

-- a text is accepted as a description exactly if it is that description
abbrev pub AcceptsExactly : Type 0
AcceptsExactly = (bs : List ℕ) (o : Outline) → (reading bs ≡ Ok o → Text o bs) × (Text o bs → reading bs ≡ Ok o)

-- no text is two descriptions
abbrev pub OneAtMost : Type 0
OneAtMost = (bs : List ℕ) (o p : Outline) → Text o bs → Text p bs → o ≡ p

-- a refusal's place is within the text or its end
abbrev pub PlacesWithin : Type 0
PlacesWithin = (bs : List ℕ) (k p : ℕ) → reading bs ≡ Err (k, p) → p ≤ length bs
