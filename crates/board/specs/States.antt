-- A board's state, which is read only by the functions here: free words, code, the PLACES of the operands that wait, and the
-- effect of the code on each setting. A setting is the list of the variables' words.
use Rattle.std.specs.Prelude.{ℕ, List, length}

-- what a board was told and took: an opcode with the payloads used, or a store by its variable
pub data Act : Type 0 where
  did_issue : ℕ → List ℕ → Act
  did_store : ℕ → Act

-- what code makes of a setting: the end setting, and the values that then wait, the deepest first
pub record Outcome : Type 0 where
  pub ends : List ℕ
  pub held_values : List ℕ

pub record State : Type 0 where
  pub unused : ℕ
  pub acts : List Act
  pub place_letters : List ℕ
  pub effect : List ℕ → Outcome

abbrev pub free_in : State → ℕ
free_in s = s.unused

abbrev pub code_in : State → List Act
code_in s = s.acts

-- the PLACES that wait, the deepest first, and how many
abbrev pub waiting_in : State → List ℕ
waiting_in s = s.place_letters

abbrev pub depth_in : State → ℕ
depth_in s = length (waiting_in s)

-- the end setting and the waiting values, from a setting
abbrev pub end_from : State → List ℕ → List ℕ
end_from s σ = (s.effect σ).ends

abbrev pub values_from : State → List ℕ → List ℕ
values_from s σ = (s.effect σ).held_values
