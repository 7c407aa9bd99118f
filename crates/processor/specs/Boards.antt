-- The state of a board that keeps its code as words, and when its words and its waiting PLACES belong together.
use Rattle.std.specs.Prelude.{◌≡◌, ℕ, ◌+◌, ◌-◌, ◌≤◌, true, List, [], ◌∷◌, length, Some}
use Rattle.board.specs.Machines.{Machine, Operation, operation_of, operand_letters, operation_leaves, arity, leaf_total}
use Rattle.board.specs.Payloads.{admits_all}
use Rattle.board.specs.States.{Outcome, State}
use Rattle.board.specs.Acts.{last_of}
use Rattle.processor.specs.Designs.{Design}
use Rattle.processor.specs.Simulations.{Ending, left, refused_at, simulated, from_start}
use Rattle.processor.specs.Codes.{all_taken, waiting_after_all, encoded, decoded}

-- what a simulation leaves, where operands then wait in the PLACES w; no code that a board took is refused
abbrev pub outcome_by : Design → List ℕ → Ending → Outcome
outcome_by d w (left s) = record { ends = s.setting_now; held_values = d.values_at w s.own_now }
outcome_by d w (refused_at k n) = record { ends = []; held_values = [] }

-- the effect is what the simulator does with the words
abbrev pub state_of : Design → List ℕ → ℕ → List ℕ → State
state_of d ws free w = record {
  unused = free;
  acts = decoded d ws;
  place_letters = w;
  effect = λ σ. outcome_by d w (simulated d 0 ws (from_start d σ));
}

-- the words ws are the encoding of code that could be taken, after which operands wait in the PLACES w
abbrev pub Belongs : Design → List ℕ → List ℕ → Type 0
Belongs d ws w =
    (encoded d [] (decoded d ws) ≡ ws) × (all_taken d.fixed_part [] (decoded d ws) ≡ true)
    × (waiting_after_all d.fixed_part [] (decoded d ws) ≡ w)

-- nothing speaks against an issue of this opcode with these payloads: o is its operation, its operands are the last that wait, and
-- payloads, depth and free words allow it
pub record IssueAllowed (m : Machine) (w : List ℕ) (free op a b : ℕ) (o : Operation) : Type 0 where
  pub is : operation_of m op ≡ Some o
  pub operands_wait : last_of (arity o) w ≡ operand_letters o
  pub admitted_both : admits_all (operation_leaves o) (a ∷ b ∷ []) ≡ true
  pub shallow : length w - arity o + 1 ≤ m.deepest
  pub room : 1 + leaf_total o ≤ free

-- the same of a store
pub record StoreAllowed (m : Machine) (w : List ℕ) (free v : ℕ) : Type 0 where
  pub operand_waits : last_of 1 w ≡ m.store_letter ∷ []
  pub within : v ≤ 63
  pub room : 2 ≤ free
