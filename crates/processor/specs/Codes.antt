-- Which code a board has taken, and how it is written as words and read back.
use Rattle.std.specs.Prelude.{ℕ, ◌+◌, ◌-◌, ◌/◌, Bool, true, false, cond, ◌&&◌, List, [], ◌∷◌, ◌++◌, length, Some, None, Option, ◌==◌, nat_le, slice_index}
use Rattle.std.specs.Str.{bytes_eq}
use Rattle.board.specs.Machines.{Machine, Operation, operation_of, operand_letters, operation_leaves, arity, leaf_total}
use Rattle.board.specs.Payloads.{admits_all}
use Rattle.board.specs.States.{Act, did_issue, did_store}
use Rattle.board.specs.Acts.{last_of, before_last}
use Rattle.processor.specs.Designs.{Design, store_opcode, first_word}
use Rattle.processor.specs.Simulations.{has_payload}

-- whether an act can be taken where operands wait in the PLACES w
abbrev pub issue_taken : Machine → List ℕ → List ℕ → Option Operation → Bool
issue_taken m w ps None = false
issue_taken m w ps (Some o) =
    bytes_eq (last_of (arity o) w) (operand_letters o)
    && (admits_all (operation_leaves o) ps && (length ps == leaf_total o && nat_le (length w - arity o + 1) m.deepest))

abbrev pub taken : Machine → List ℕ → Act → Bool
taken m w (did_issue op ps) = issue_taken m w ps (operation_of m op)
taken m w (did_store v) = bytes_eq (last_of 1 w) (m.store_letter ∷ []) && nat_le v 63

-- the PLACES that wait after it
abbrev pub waiting_by : List ℕ → Option Operation → List ℕ
waiting_by w None = w
waiting_by w (Some o) = before_last (arity o) w ++ o.result_letter ∷ []

abbrev pub waiting_after : Machine → List ℕ → Act → List ℕ
waiting_after m w (did_issue op ps) = waiting_by w (operation_of m op)
waiting_after m w (did_store v) = before_last 1 w

-- the same of acts one after another
abbrev pub all_taken : Machine → List ℕ → List Act → Bool
all_taken m w [] = true
all_taken m w (a ∷ rest) = taken m w a && all_taken m (waiting_after m w a) rest

abbrev pub waiting_after_all : Machine → List ℕ → List Act → List ℕ
waiting_after_all m w [] = w
waiting_after_all m w (a ∷ rest) = waiting_after_all m (waiting_after m w a) rest

-- an act as words: the first word, then the payloads
abbrev pub operands_by : Option Operation → ℕ
operands_by None = 0
operands_by (Some o) = arity o

abbrev pub issue_words : Design → List ℕ → ℕ → List ℕ → ℕ → List ℕ
issue_words d w op ps n = first_word d op (length w - n) n ∷ ps

abbrev pub act_words : Design → List ℕ → Act → List ℕ
act_words d w (did_issue op ps) = issue_words d w op ps (operands_by (operation_of d.fixed_part op))
act_words d w (did_store v) = issue_words d w store_opcode (v ∷ []) 1

-- code as words
abbrev pub encoded : Design → List ℕ → List Act → List ℕ
encoded d w [] = []
encoded d w (a ∷ rest) = act_words d w a ++ encoded d (waiting_after d.fixed_part w a) rest

-- words as code
abbrev pub act_of : ℕ → List ℕ → Act
act_of op ps = cond (op == store_opcode) (did_store (slice_index ps 0)) (did_issue op ps)

abbrev pub decoded : Design → List ℕ → List Act
decoded d [] = []
decoded d (f ∷ []) = act_of (f / 256) [] ∷ []
decoded d (f ∷ p ∷ ws) =
    cond (has_payload d f) (act_of (f / 256) (p ∷ []) ∷ decoded d ws) (act_of (f / 256) [] ∷ decoded d (p ∷ ws))
