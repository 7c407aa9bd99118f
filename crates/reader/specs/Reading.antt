-- Reading token by token: what may follow, what has been read, and the first fault reached. A fault is its number and its
-- place; at one token the lowest number is told, so whether a token may follow (3) is asked before its value (4 to 8).
use Rattle.std.specs.Prelude.{ℕ, zero, suc, ◌+◌, ◌-◌, ◌^◌, Bool, false, cond, ◌&&◌, List, [], ◌∷◌, ◌++◌, length, take, drop, is_some, Some, None, Ok, Err, codes, Option, Result, ◌==◌, nat_le, nat_lt, slice_index}
use Rattle.operators.specs.declared.Operator.{Operator}
use Rattle.operators.specs.declared.Operator.TheVariants.{Cnst, Var, One, Two}
use Rattle.lexer.specs.declared.Token.{Token}
use Rattle.lexer.specs.declared.Token.TheVariants.{LineEnd, Name, Capitals, Percent, Dots, Colon, Open, Close, Comma, Equals, Minus, End}
use Rattle.lexer.specs.declared.LexicalFault.{LexicalFault}
use Rattle.lexer.specs.Bytes.{is_digit}
use Rattle.lexer.specs.Tokens.{token_at, lexical_place}
use Rattle.description.specs.Names.{same_text}
use Rattle.description.specs.Outlines.{Part, operand, one_sided, two_sided, constant, variable, Declaration, Outline}
use Rattle.reader.specs.Words.{is, is_number, value_in, declared_from, operator_called}

-- an open bracket of a pattern: how many parts its operator has, where the operator stands, how many parts are read
pub record Bracket : Type 0 where
  pub wants : ℕ
  pub stands : ℕ
  pub filled : ℕ

-- the rule being read: its left name, the items so far, the open brackets with the innermost first
pub record Draft : Type 0 where
  pub left_name : ℕ
  pub so_far : List Part
  pub brackets : List Bracket

-- what may follow
pub data Awaits : Type 0 where
  header_end : Awaits
  directive : Awaits
  new_name : Awaits
  name_place : List ℕ → Awaits
  declaration_end : Awaits
  start_name : Awaits
  start_end : Awaits
  rule_or_end : Awaits
  left_colon : Draft → Awaits
  first_item : Draft → Awaits
  item : Draft → Awaits
  opening : ℕ → ℕ → Draft → Awaits
  after_item : Draft → Awaits
  after_constant : Draft → Awaits
  low_end : Draft → Awaits
  two_dots : ℕ → ℕ → Draft → Awaits
  high_end : ℕ → ℕ → Draft → Awaits
  mnemonic_word : Draft → Awaits
  size_number : Option (List ℕ) → Draft → Awaits
  cycles_number : ℕ → Option (List ℕ) → Draft → Awaits
  rule_end : Awaits

-- what has been read, and where the line began
pub record State : Type 0 where
  pub outline : Outline
  pub line : ℕ
  pub awaits : Awaits

-- after a token: more is read, the text is this description, or it is refused
pub data Outcome : Type 0 where
  goes : State → Outcome
  ends : Outline → Outcome
  fails : ℕ → ℕ → Outcome

abbrev pub to : State → Awaits → State
to s w = record { outline = s.outline; line = s.line; awaits = w }

-- at the beginning of the next line, after a line end at place p
abbrev pub next_line : State → ℕ → Awaits → State
next_line s p w = record { outline = s.outline; line = p + 1; awaits = w }

abbrev pub operands_among : List Part → ℕ
operands_among [] = 0
operands_among (operand a ∷ xs) = 1 + operands_among xs
operands_among (one_sided o ∷ xs) = operands_among xs
operands_among (two_sided o ∷ xs) = operands_among xs
operands_among (constant l h ∷ xs) = operands_among xs
operands_among (variable ∷ xs) = operands_among xs

abbrev pub leaves_among : List Part → ℕ
leaves_among [] = 0
leaves_among (operand a ∷ xs) = leaves_among xs
leaves_among (one_sided o ∷ xs) = leaves_among xs
leaves_among (two_sided o ∷ xs) = leaves_among xs
leaves_among (constant l h ∷ xs) = 1 + leaves_among xs
leaves_among (variable ∷ xs) = 1 + leaves_among xs

-- whether some items keep the limits: at most 7 items, 2 operands, 2 leaves
abbrev pub within_limits : List Part → Bool
within_limits xs = nat_le (length xs) 7 && (nat_le (operands_among xs) 2 && nat_le (leaves_among xs) 2)

-- one part more in the innermost bracket
abbrev pub filled_one : List Bracket → List Bracket
filled_one [] = []
filled_one (b ∷ bs) = record { wants = b.wants; stands = b.stands; filled = b.filled + 1 } ∷ bs

abbrev pub with_brackets : Draft → List Bracket → Draft
with_brackets d bs = record { left_name = d.left_name; so_far = d.so_far; brackets = bs }

-- one item more
abbrev pub gained : Draft → Part → Draft
gained d x = record { left_name = d.left_name; so_far = d.so_far ++ x ∷ []; brackets = d.brackets }

-- a part of the innermost bracket, or the pattern, is read
abbrev pub part_read : Draft → Draft
part_read d = with_brackets d (filled_one d.brackets)

-- one item more, if the limits allow it
abbrev pub gain : State → Draft → Part → (Draft → Awaits) → Outcome
gain s d x w = cond (within_limits (d.so_far ++ x ∷ [])) (goes (to s (w (gained d x)))) (fails 7 s.line)

-- the number of a declared name
abbrev pub declared : State → List ℕ → Option ℕ
declared s t = declared_from 0 t s.outline.declarations

-- an operand: a declared name
abbrev pub operand_item : State → Draft → ℕ → Option ℕ → Outcome
operand_item s d p None = fails 4 p
operand_item s d p (Some a) = gain s d (operand a) (λ e. after_item (part_read e))

-- a leaf, or an operator whose bracket must follow
abbrev pub capital_item : State → Draft → ℕ → Option Operator → Outcome
capital_item s d p None = fails 4 p
capital_item s d p (Some Cnst) = gain s d (constant 0 (2 ^ 32 - 1)) (λ e. after_constant (part_read e))
capital_item s d p (Some Var) = gain s d variable (λ e. after_item (part_read e))
capital_item s d p (Some (One o)) = gain s d (one_sided o) (opening 1 p)
capital_item s d p (Some (Two o)) = gain s d (two_sided o) (opening 2 p)

-- an item, or what else may stand there
abbrev pub any_item : State → Draft → Token → ℕ → List ℕ → Outcome → Outcome
any_item s d t p text other =
    cond (is Name t) (operand_item s d p (declared s text))
    (cond (is Capitals t) (capital_item s d p (operator_called text)) other)

-- `)` right after `(`: no part
abbrev pub no_parts : List Bracket → ℕ → Outcome
no_parts [] p = fails 3 p
no_parts (b ∷ bs) p = fails 5 b.stands

-- after an item: the pattern's end where no bracket is open; else one comma, and `)` after as many parts as are wanted
abbrev pub item_done : State → Draft → List Bracket → Token → ℕ → Outcome
item_done s d [] t p = cond (is Equals t) (goes (to s (mnemonic_word d))) (fails 3 p)
item_done s d (b ∷ bs) t p =
    cond (is Comma t) (cond (b.filled == 1) (goes (to s (item d))) (fails 3 p))
    (cond (is Close t)
    (cond (b.filled == b.wants) (goes (to s (after_item (part_read (with_brackets d bs))))) (fails 5 b.stands))
    (fails 3 p))

-- the last item replaced: the range of a constant is told after it
abbrev pub last_replaced : List Part → Part → List Part
last_replaced xs x = take (length xs - 1) xs ++ x ∷ []

abbrev pub ranged : Draft → ℕ → ℕ → Draft
ranged d low high = record { left_name = d.left_name; so_far = last_replaced d.so_far (constant low high); brackets = d.brackets }

-- the letter of the PLACE of name i
abbrev pub lies : List Declaration → ℕ → ℕ
lies [] i = 0
lies (d ∷ ds) zero = d.lies_in
lies (d ∷ ds) (suc i) = lies ds i

-- whether the items are one name of the same PLACE as name a
abbrev pub renames : List Declaration → ℕ → List Part → Bool
renames ds a [] = false
renames ds a (operand b ∷ []) = lies ds a == lies ds b
renames ds a (operand b ∷ x ∷ xs) = false
renames ds a (one_sided o ∷ xs) = false
renames ds a (two_sided o ∷ xs) = false
renames ds a (constant l h ∷ xs) = false
renames ds a (variable ∷ xs) = false

-- a number up to a limit
abbrev pub number_upto : ℕ → Token → ℕ → Outcome → Outcome
number_upto limit t p then = cond (is_number t) (cond (nat_lt limit (value_in t)) (fails 6 p) then) (fails 3 p)

-- the rule is whole
abbrev pub rule_read : State → Draft → Option (List ℕ) → ℕ → ℕ → State
rule_read s d e size cycles = record {
  outline = record {
    declarations = s.outline.declarations;
    begins = s.outline.begins;
    productions = s.outline.productions ++ record {
      derives = d.left_name;
      parts = d.so_far;
      emits = e;
      in_bytes = size;
      in_cycles = cycles;
    } ∷ [];
  };
  line = s.line;
  awaits = rule_end;
}

abbrev pub name_declared : State → List ℕ → ℕ → State
name_declared s letters place = record {
  outline = record {
    declarations = s.outline.declarations ++ record { spelled = letters; lies_in = place } ∷ [];
    begins = s.outline.begins;
    productions = s.outline.productions;
  };
  line = s.line;
  awaits = declaration_end;
}

abbrev pub started : State → ℕ → State
started s i = record {
  outline = record { declarations = s.outline.declarations; begins = Some i; productions = s.outline.productions };
  line = s.line;
  awaits = start_end;
}

abbrev pub start_found : State → ℕ → Option ℕ → Outcome
start_found s p None = fails 4 p
start_found s p (Some i) = goes (started s i)

abbrev pub left_found : State → ℕ → Option ℕ → Outcome
left_found s p None = fails 4 p
left_found s p (Some i) =
    cond (nat_le 128 (length s.outline.productions)) (fails 7 s.line)
    (goes (to s (left_colon (record { left_name = i; so_far = []; brackets = [] }))))

-- one token t at place p, whose bytes are text
abbrev pub step_at : Awaits → State → Token → ℕ → List ℕ → Outcome
step_at header_end s t p text = cond (is LineEnd t) (goes (next_line s p directive)) (fails 3 p)
step_at directive s t p text =
    cond (is Percent t && same_text text (codes "%nt")) (goes (to s new_name))
    (cond (is Percent t && (same_text text (codes "%start") && nat_lt 0 (length s.outline.declarations))) (goes (to s start_name))
    (fails 3 p))
step_at new_name s t p text =
    cond (is Name t)
    (cond (nat_le 16 (length s.outline.declarations)) (fails 7 p)
    (cond (is_some (declared s text)) (fails 8 p) (goes (to s (name_place text)))))
    (fails 3 p)
step_at (name_place letters) s t p text =
    cond (is Capitals t && length text == 1) (goes (name_declared s letters (slice_index text 0))) (fails 3 p)
step_at declaration_end s t p text = cond (is LineEnd t) (goes (next_line s p directive)) (fails 3 p)
step_at start_name s t p text = cond (is Name t) (start_found s p (declared s text)) (fails 3 p)
step_at start_end s t p text =
    cond (is LineEnd t) (goes (next_line s p rule_or_end)) (cond (is End t) (ends s.outline) (fails 3 p))
step_at rule_or_end s t p text =
    cond (is Name t) (left_found s p (declared s text)) (cond (is End t) (ends s.outline) (fails 3 p))
step_at (left_colon d) s t p text = cond (is Colon t) (goes (to s (item d))) (fails 3 p)
step_at (first_item d) s t p text = any_item s d t p text (cond (is Close t) (no_parts d.brackets p) (fails 3 p))
step_at (item d) s t p text = any_item s d t p text (fails 3 p)
step_at (opening wants stands d) s t p text =
    cond (is Open t) (goes (to s (first_item (with_brackets d (record { wants = wants; stands = stands; filled = 0 } ∷ d.brackets)))))
    (fails 3 p)
step_at (after_item d) s t p text = item_done s d d.brackets t p
step_at (after_constant d) s t p text = cond (is Colon t) (goes (to s (low_end d))) (item_done s d d.brackets t p)
step_at (low_end d) s t p text = number_upto (2 ^ 32 - 1) t p (goes (to s (two_dots (value_in t) p d)))
step_at (two_dots low at d) s t p text = cond (is Dots t) (goes (to s (high_end low at d))) (fails 3 p)
step_at (high_end low at d) s t p text =
    number_upto (2 ^ 32 - 1) t p (cond (nat_lt (value_in t) low) (fails 6 at) (goes (to s (after_item (ranged d low (value_in t))))))
step_at (mnemonic_word d) s t p text =
    cond (is Name t) (goes (to s (size_number (Some text) d)))
    (cond (is Minus t)
    (cond (renames s.outline.declarations d.left_name d.so_far) (goes (to s (size_number None d))) (fails 8 p))
    (fails 3 p))
step_at (size_number e d) s t p text = number_upto 99 t p (goes (to s (cycles_number (value_in t) e d)))
step_at (cycles_number size e d) s t p text = number_upto 999 t p (goes (rule_read s d e size (value_in t)))
step_at rule_end s t p text =
    cond (is LineEnd t) (goes (next_line s p rule_or_end)) (cond (is End t) (ends s.outline) (fails 3 p))

abbrev pub step : State → Token → ℕ → List ℕ → Outcome
step s t p text = step_at s.awaits s t p text

-- a description, or a fault's number and place
abbrev pub Answer : Type 0
Answer = Result Outline (ℕ × ℕ)

-- the outcome of a token carried on by what reads the rest
abbrev pub carried : Outcome → (State → Answer) → Answer
carried (goes s) rest = rest s
carried (ends o) rest = Ok o
carried (fails k p) rest = Err (k, p)

-- a token, or the fault of the layer below, which arrives as 3
abbrev pub with_token : List ℕ → State → Result (Token × (ℕ × ℕ)) LexicalFault → (ℕ → State → Answer) → Answer
with_token bs s (Ok x) rest =
    carried (step s x.0 x.1.0 (take x.1.1 (drop x.1.0 bs))) (rest (x.1.0 + x.1.1))
with_token bs s (Err f) rest = Err (3, lexical_place f)

-- the text from offset o on, in at most so many tokens
abbrev pub read_from : ℕ → List ℕ → ℕ → State → Answer
read_from zero bs o s = Err (3, o)
read_from (suc turns) bs o s = with_token bs s (token_at bs o) (λ next after. read_from turns bs next after)

abbrev pub nothing_read : State
nothing_read = record { outline = record { declarations = []; begins = None; productions = [] }; line = 0; awaits = header_end }

-- after the mark and the space: the version's digits stand right there, and then come the tokens
abbrev pub versioned : List ℕ → Result (Token × (ℕ × ℕ)) LexicalFault → Answer
versioned bs (Ok x) = cond (value_in x.0 == 1) (read_from (length bs) bs (x.1.0 + x.1.1) nothing_read) (Err (2, 4))
versioned bs (Err f) = Err (3, 4)

abbrev pub after_mark : List ℕ → Answer
after_mark bs =
    cond (slice_index bs 3 == 32) (cond (is_digit (slice_index bs 4)) (versioned bs (token_at bs 4)) (Err (3, 4))) (Err (3, 3))

-- the description that a text is, or its first fault
abbrev pub reading : List ℕ → Answer
reading bs = cond (same_text (take 3 bs) (codes "BTG")) (after_mark bs) (Err (1, 0))
