-- What a simulator does with a list of words: one instruction's step by the table, and the steps one after another.
use Rattle.std.specs.Prelude.{◌≡◌, ℕ, ◌+◌, ◌-◌, ◌/◌, ◌<◌, Bool, false, cond, List, [], ◌∷◌, length, Some, None, Option, ◌==◌, ◌≢◌, nat_lt, slice_index, slice_set}
use Rattle.pattern.specs.Shapes.{Leaf, variable_number, shape_value}
use Rattle.board.specs.Machines.{Operation, operation_of, operand_letters, operation_leaves, arity}
use Rattle.board.specs.Payloads.{admits_all}
use Rattle.processor.specs.Designs.{Design, store_opcode}

-- a line of the table: an operation, or the store
pub data Entry : Type 0 where
  operation_entry : Operation → Entry
  store_entry : Entry

abbrev pub entry_by : Option Operation → Option Entry
entry_by None = None
entry_by (Some o) = Some (operation_entry o)

-- the line of an opcode, if there is one
abbrev pub entry_of : Design → ℕ → Option Entry
entry_of d n = cond (n == store_opcode) (Some store_entry) (entry_by (operation_of d.fixed_part n))

abbrev pub entry_letters : Design → Entry → List ℕ
entry_letters d (operation_entry o) = operand_letters o
entry_letters d store_entry = d.fixed_part.store_letter ∷ []

abbrev pub entry_leaves : Entry → List Leaf
entry_leaves (operation_entry o) = operation_leaves o
entry_leaves store_entry = variable_number ∷ []

abbrev pub entry_results : Entry → ℕ
entry_results (operation_entry o) = 1
entry_results store_entry = 0

-- the variables, and the processor's own words
pub record Running : Type 0 where
  pub setting_now : List ℕ
  pub own_now : List ℕ

-- what an operation makes of the processor's own words
abbrev pub applied : Design → ℕ → Operation → List ℕ → List ℕ → List ℕ → List ℕ
applied d f o ps σ own =
    d.with_result f (arity o) o.result_letter (shape_value o.shape (d.operands_at f (operand_letters o) own) ps σ) own

-- the value that a store stores
abbrev pub stored_value : Design → ℕ → List ℕ → ℕ
stored_value d f own = slice_index (d.operands_at f (d.fixed_part.store_letter ∷ []) own) 0

-- what a line of the table does, by its first word and its payloads
abbrev pub carried_out : Design → ℕ → List ℕ → Running → Entry → Running
carried_out d f ps s (operation_entry o) = record { setting_now = s.setting_now; own_now = applied d f o ps s.setting_now s.own_now }
carried_out d f ps s store_entry = record {
  setting_now = slice_set s.setting_now (slice_index ps 0) (stored_value d f s.own_now);
  own_now = d.after_store f s.own_now;
}

-- an instruction is refused with a number, or goes on
pub data Step : Type 0 where
  fails : ℕ → Step
  goes : Running → Step

-- 31 for an unknown opcode, 32 where the first word cannot be carried out, 33 for a payload that is missing or not admitted
abbrev pub step_by : Design → ℕ → List ℕ → Running → Option Entry → Step
step_by d f ps s None = fails 31
step_by d f ps s (Some e) =
    cond (d.misplaced_at f (length (entry_letters d e)) (entry_results e) s.own_now) (fails 32)
    (cond (admits_all (entry_leaves e) ps) (goes (carried_out d f ps s e)) (fails 33))

abbrev pub step_of : Design → ℕ → List ℕ → Running → Step
step_of d f ps s = step_by d f ps s (entry_of d (f / 256))

-- whether a payload follows the first word
abbrev pub takes_payload : Option Entry → Bool
takes_payload None = false
takes_payload (Some e) = nat_lt 0 (length (entry_leaves e))

abbrev pub has_payload : Design → ℕ → Bool
has_payload d f = takes_payload (entry_of d (f / 256))

-- how a simulation ends: with the variables and the processor's words, or refused with a number at the index of a first word
pub data Ending : Type 0 where
  left : Running → Ending
  refused_at : ℕ → ℕ → Ending

abbrev pub go_on : Step → ℕ → (Running → Ending) → Ending
go_on (fails k) n next = refused_at k n
go_on (goes s) n next = next s

-- the instructions one after another, where the first of the words has index n
abbrev pub simulated : Design → ℕ → List ℕ → Running → Ending
simulated d n [] s = left s
simulated d n (f ∷ []) s = go_on (step_of d f [] s) n left
simulated d n (f ∷ p ∷ ws) s =
    cond (has_payload d f) (go_on (step_of d f (p ∷ []) s) n (λ s'. simulated d (n + 2) ws s'))
    (go_on (step_of d f [] s) n (λ s'. simulated d (n + 1) (p ∷ ws) s'))

-- from the words ws at index n the simulation goes on with the words rest
pub record GoesOn (d : Design) (n : ℕ) (ws : List ℕ) (s : Running) (rest : List ℕ) (s' : Running) : Type 0 where
  pub shorter : length rest < length ws
  pub goes_to : simulated d n ws s ≡ simulated d (n + (length ws - length rest)) rest s'

-- or it is refused there
abbrev pub Stops : Design → ℕ → List ℕ → Running → ℕ → ℕ → Type 0
Stops d n ws s k p = simulated d n ws s ≡ refused_at k p

abbrev pub running : List ℕ → List ℕ → Running
running σ own = record { setting_now = σ; own_now = own }

abbrev pub from_start : Design → List ℕ → Running
from_start d σ = running σ d.at_start

-- number k applies at place p to a simulation of the words ws from the variables σ; 34 comes first of all
pub data SimulationDenied (d : Design) (ws σ : List ℕ) (k p : ℕ) : Type 0 where
  of_count : k ≡ 34 → p ≡ length σ → (length σ ≢ 64) → SimulationDenied d ws σ k p
  at_instruction : length σ ≡ 64 → simulated d 0 ws (from_start d σ) ≡ refused_at k p → SimulationDenied d ws σ k p

-- the simulation goes through, and takes the variables from σ to σ'
pub record Simulated (d : Design) (ws σ σ' : List ℕ) : Type 0 where
  pub counted : length σ ≡ 64
  pub at_end : Running
  pub goes_through : simulated d 0 ws (from_start d σ) ≡ left at_end
  pub leaves : σ' ≡ at_end.setting_now
