-- What the reader's memory stands for: the state and the outcomes of the definition of reading.
use Rattle.std.specs.Prelude.{◌≡◌, ℕ, ◌-◌, ◌^◌, ◌≤◌, Bool, true, false, cond, List, [], ◌∷◌, ◌++◌, map, Some, None, Ok, Err, Option, Result}
use Rattle.operators.specs.declared.Operator.{Operator}
use Rattle.operators.specs.declared.Operator.TheVariants.{Cnst, Var, One, Two}
use Rattle.lexer.specs.declared.Token.{Token}
use Rattle.pattern.specs.Letters.{letters_of}
use Rattle.description.specs.declared.descriptions.Description.{Description}
use Rattle.description.specs.Descriptions.{names_of, rules_of, start_of}
use Rattle.description.specs.Outlines.{Part, one_sided, two_sided, constant, variable, Declaration, Production, part_of, declaration_of, production_of, emitted, outline_of}
use Rattle.reader.specs.declared.faults.ReadFault.{ReadFault}
use Rattle.reader.specs.declared.sketches.Sketch.{Sketch}
use Rattle.reader.specs.declared.progress.Expect.{Expect}
use Rattle.reader.specs.declared.progress.Expect.TheVariants.{HeaderEnd, Directive, NewName, NamePlace, DeclarationEnd, StartName, StartEnd, RuleOrEnd, LeftColon, FirstPart, NextPart, Opening, AfterPart, AfterConstant, LowEnd, TwoDots, HighEnd, Mnemonic, Size, Cycles, RuleEnd}
use Rattle.reader.specs.declared.progress.Progress.{Progress}
use Rattle.reader.specs.declared.lexemes.Lexeme.{Lexeme}
use Rattle.reader.specs.Words.{is_number, value_in}
use Rattle.reader.specs.Sketches.{brackets_of}
use Rattle.reader.specs.Faults.{fault_number, fault_place}
use Rattle.reader.specs.Reading.{Draft, Awaits, State, Outcome, Answer, header_end, directive, new_name, name_place, declaration_end, start_name, start_end, rule_or_end, left_colon, first_item, item, opening, after_item, after_constant, low_end, two_dots, high_end, mnemonic_word, size_number, cycles_number, rule_end, goes, ends, fails, with_brackets, step, number_upto}

abbrev pub draft_of : Sketch → Draft
draft_of d = record {
  left_name = d.left;
  so_far = map part_of d.items;
  brackets = brackets_of d.opened;
}

-- a rule of which only the left name is read
abbrev pub empty_draft : ℕ → Draft
empty_draft a = record { left_name = a; so_far = []; brackets = [] }

-- one open bracket more, of an operator with n parts at place p
abbrev pub opened_in : Draft → ℕ → ℕ → Draft
opened_in d n p = with_brackets d (record { wants = n; stands = p; filled = 0 } ∷ d.brackets)

-- the item of an operator, with the full range for a constant
abbrev pub part_for : Operator → Part
part_for Cnst = constant 0 (2 ^ 32 - 1)
part_for Var = variable
part_for (One o) = one_sided o
part_for (Two o) = two_sided o

-- the rule that has been read
abbrev pub production_from : Draft → Option (List ℕ) → ℕ → ℕ → Production
production_from d e size cycles = record {
  derives = d.left_name;
  parts = d.so_far;
  emits = e;
  in_bytes = size;
  in_cycles = cycles;
}

-- the last item is a constant
abbrev pub EndsInConstant : List Part → Type 0
EndsInConstant xs = (ys : List Part) × (low : ℕ) × (high : ℕ) × (xs ≡ ys ++ constant low high ∷ [])

abbrev pub awaits_of : Expect → Awaits
awaits_of HeaderEnd = header_end
awaits_of Directive = directive
awaits_of NewName = new_name
awaits_of (NamePlace n) = name_place (letters_of n)
awaits_of DeclarationEnd = declaration_end
awaits_of StartName = start_name
awaits_of StartEnd = start_end
awaits_of RuleOrEnd = rule_or_end
awaits_of (LeftColon d) = left_colon (draft_of d)
awaits_of (FirstPart d) = first_item (draft_of d)
awaits_of (NextPart d) = item (draft_of d)
awaits_of (Opening h d) = opening h.arity h.place (draft_of d)
awaits_of (AfterPart d) = after_item (draft_of d)
awaits_of (AfterConstant d) = after_constant (draft_of d)
awaits_of (LowEnd d) = low_end (draft_of d)
awaits_of (TwoDots l d) = two_dots l.value l.place (draft_of d)
awaits_of (HighEnd l d) = high_end l.value l.place (draft_of d)
awaits_of (Mnemonic d) = mnemonic_word (draft_of d)
awaits_of (Size e d) = size_number (emitted e) (draft_of d)
awaits_of (Cycles n e d) = cycles_number n (emitted e) (draft_of d)
awaits_of RuleEnd = rule_end

-- whether the start name has been read
abbrev pub start_read : Awaits → Bool
start_read header_end = false
start_read directive = false
start_read new_name = false
start_read (name_place t) = false
start_read declaration_end = false
start_read start_name = false
start_read start_end = true
start_read rule_or_end = true
start_read (left_colon d) = true
start_read (first_item d) = true
start_read (item d) = true
start_read (opening n p d) = true
start_read (after_item d) = true
start_read (after_constant d) = true
start_read (low_end d) = true
start_read (two_dots l p d) = true
start_read (high_end l p d) = true
start_read (mnemonic_word d) = true
start_read (size_number e d) = true
start_read (cycles_number n e d) = true
start_read rule_end = true

abbrev pub declarations_of : Progress → List Declaration
declarations_of g = map declaration_of (names_of g.description)

abbrev pub productions_of : Progress → List Production
productions_of g = map production_of (rules_of g.description)

-- the state in which this is awaited; a description has a start with its first name, and the text only after %start
abbrev pub stands : Progress → Awaits → State
stands g w = record {
  outline = record {
    declarations = declarations_of g;
    begins = cond (start_read w) (start_of g.description) None;
    productions = productions_of g;
  };
  line = g.line_start;
  awaits = w;
}

-- what the answer to a token stands for, where the memory is then g
abbrev pub outcome_of : Progress → Result (Option Expect) ReadFault → Outcome
outcome_of g (Ok (Some e)) = goes (stands g (awaits_of e))
outcome_of g (Ok None) = ends (outline_of g.description)
outcome_of g (Err f) = fails (fault_number f) (fault_place f)

-- one token more, where this is awaited
abbrev pub stepped : Progress → Awaits → Lexeme → Outcome
stepped g w x = step (stands g w) x.token x.place x.text.now

-- what the answer to a number with a limit says: the number, or why there is none
abbrev pub NumberRead : Result ℕ ReadFault → ℕ → Token → ℕ → Type 0
NumberRead (Ok v) limit t p = (is_number t ≡ true) × (value_in t ≡ v) × (v ≤ limit)
NumberRead (Err f) limit t p = (o : Outcome) → fails (fault_number f) (fault_place f) ≡ number_upto limit t p o

-- what the answer to a whole text stands for
abbrev pub answer_of : Result Description ReadFault → Answer
answer_of (Ok d) = Ok (outline_of d)
answer_of (Err f) = Err (fault_number f, fault_place f)
