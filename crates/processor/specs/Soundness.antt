-- What a processor owes, so that what is encoded for it runs: at every instruction it finds the operands where they wait and
-- leaves the result where it is to wait.
use Rattle.std.specs.Prelude.{◌≡◌, ℕ, ◌+◌, ◌-◌, ◌<◌, ◌≤◌, true, false, List, [], ◌∷◌, ◌++◌, length, Some, None}
use Rattle.board.specs.Machines.{Operation, operation_of, operand_letters, arity, leaf_total}
use Rattle.board.specs.Acts.{last_of, before_last}
use Rattle.board.specs.Laws.{LawfulMachine}
use Rattle.processor.specs.Designs.{Design, store_opcode, first_word}

-- the first words of an operation, and of a store, where operands wait in the PLACES w
abbrev pub issue_word : Design → ℕ → Operation → List ℕ → ℕ
issue_word d n o w = first_word d n (length w - arity o) (arity o)

abbrev pub store_word : Design → List ℕ → ℕ
store_word d w = first_word d store_opcode (length w - 1) 1

-- the operation o of opcode n runs where operands wait in the PLACES w, the last of them its own
pub record OperationRuns (d : Design) (n : ℕ) (o : Operation) (w own : List ℕ) : Type 0 where
  pub placed : d.misplaced_at (issue_word d n o w) (arity o) 1 own ≡ false
  pub operands_found : d.operands_at (issue_word d n o w) (operand_letters o) own ≡ last_of (arity o) (d.values_at w own)
  pub result_held : (v : ℕ) → d.holds (before_last (arity o) w ++ o.result_letter ∷ []) (d.with_result (issue_word d n o w) (arity o) o.result_letter v own) ≡ true
  pub result_read : (v : ℕ) → d.values_at (before_last (arity o) w ++ o.result_letter ∷ []) (d.with_result (issue_word d n o w) (arity o) o.result_letter v own) ≡ before_last (arity o) (d.values_at w own) ++ v ∷ []

-- the store runs where operands wait in the PLACES w, the last of them in the store PLACE
pub record StoreRuns (d : Design) (w own : List ℕ) : Type 0 where
  pub placed : d.misplaced_at (store_word d w) 1 0 own ≡ false
  pub operand_found : d.operands_at (store_word d w) (d.fixed_part.store_letter ∷ []) own ≡ last_of 1 (d.values_at w own)
  pub rest_held : d.holds (before_last 1 w) (d.after_store (store_word d w) own) ≡ true
  pub rest_read : d.values_at (before_last 1 w) (d.after_store (store_word d w) own) ≡ before_last 1 (d.values_at w own)

pub record Sound (d : Design) : Type 0 where
  pub lawful_machine : LawfulMachine d.fixed_part
  pub store_apart : operation_of d.fixed_part store_opcode ≡ None
  pub opcodes_short : (n : ℕ) (o : Operation) → operation_of d.fixed_part n ≡ Some o → n < 256
  -- at most one payload follows a first word
  pub one_payload : (n : ℕ) (o : Operation) → operation_of d.fixed_part n ≡ Some o → leaf_total o ≤ 1
  pub low_is_byte : (depth operands : ℕ) → d.low_of depth operands < 256
  pub starts : d.holds [] d.at_start ≡ true
  pub value_each : (w own : List ℕ) → d.holds w own ≡ true → length (d.values_at w own) ≡ length w
  pub operations_run : (n : ℕ) (o : Operation) (w own : List ℕ) → operation_of d.fixed_part n ≡ Some o → last_of (arity o) w ≡ operand_letters o → length w - arity o + 1 ≤ d.fixed_part.deepest → d.holds w own ≡ true → OperationRuns d n o w own
  pub stores_run : (w own : List ℕ) → last_of 1 w ≡ d.fixed_part.store_letter ∷ [] → d.holds w own ≡ true → StoreRuns d w own

-- every operation's result lies in a PLACE, which is a capital letter
abbrev pub IsCapital : ℕ → Type 0
IsCapital a = (65 ≤ a) × (a ≤ 90)

abbrev pub ResultsInPlaces : Design → Type 0
ResultsInPlaces d = (n : ℕ) (o : Operation) → operation_of d.fixed_part n ≡ Some o → IsCapital o.result_letter
