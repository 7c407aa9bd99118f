-- What code does by the meanings of its operations, with no word about how a processor does it; and that encoded code does this.
use Rattle.std.specs.Prelude.{◌≡◌, ℕ, true, List, [], ◌∷◌, ◌++◌, Some, None, Option, slice_index, slice_set}
use Rattle.pattern.specs.Shapes.{shape_value}
use Rattle.board.specs.Machines.{Machine, Operation, operation_of, arity}
use Rattle.board.specs.States.{Act, did_issue, did_store, Outcome}
use Rattle.board.specs.Acts.{last_of, before_last}
use Rattle.processor.specs.Designs.{Design}
use Rattle.processor.specs.Simulations.{Running, left, simulated, from_start}
use Rattle.processor.specs.Codes.{all_taken, waiting_after_all, encoded}
use Rattle.processor.specs.Soundness.{Sound}
use Rattle.processor.specs.Boards.{outcome_by}

-- an operation's operands leave and its value joins
abbrev pub meant_by : List ℕ → Outcome → Option Operation → Outcome
meant_by ps x None = x
meant_by ps x (Some o) = record {
  ends = x.ends;
  held_values = before_last (arity o) x.held_values ++ shape_value o.shape (last_of (arity o) x.held_values) ps x.ends ∷ [];
}

abbrev pub meant : Machine → Outcome → Act → Outcome
meant m x (did_issue op ps) = meant_by ps x (operation_of m op)
meant m x (did_store v) = record {
  ends = slice_set x.ends v (slice_index (last_of 1 x.held_values) 0);
  held_values = before_last 1 x.held_values;
}

abbrev pub meant_all : Machine → Outcome → List Act → Outcome
meant_all m x [] = x
meant_all m x (a ∷ rest) = meant_all m (meant m x a) rest

-- before any code
abbrev pub untouched : List ℕ → Outcome
untouched σ = record { ends = σ; held_values = [] }

-- a simulation of the words ws goes through, and leaves with the PLACES w this outcome
pub record GoesThrough (d : Design) (ws w σ : List ℕ) (x : Outcome) : Type 0 where
  pub at_end : Running
  pub through : simulated d 0 ws (from_start d σ) ≡ left at_end
  pub outcome_is : outcome_by d w (left at_end) ≡ x

-- for every processor: code that a board can take, written as words, is never refused, and does what the meanings say
abbrev pub EncodedRuns : Type 0
EncodedRuns =
    (d : Design) → Sound d → (code : List Act) → all_taken d.fixed_part [] code ≡ true → (σ : List ℕ) → GoesThrough d (encoded d [] code) (waiting_after_all d.fixed_part [] code) σ (meant_all d.fixed_part (untouched σ) code)
