-- What is true of every board: of what is fixed, and of every state.
use Rattle.std.specs.Prelude.{◌≡◌, ℕ, ◌≤◌, true, List, [], ◌∷◌, length, ◌≢◌}
use Rattle.std.specs.List.{AllByRecursion}
use Rattle.pattern.specs.Items.{pattern_items}
use Rattle.pattern.specs.Shapes.{reading}
use Rattle.board.specs.Machines.{Machine, Operation}
use Rattle.board.specs.States.{State, code_in, waiting_in, depth_in, end_from, values_from}

-- no two of the operations have the same f
abbrev pub NoTwoShare : {X : Type 0} → (Operation → X) → List Operation → Type 0
NoTwoShare f [] = Unit {0}
NoTwoShare f (o ∷ os) = AllByRecursion (λ q. f q ≢ f o) os × NoTwoShare f os

pub record LawfulMachine (m : Machine) : Type 0 where
  pub some_depth : 1 ≤ m.deepest
  pub shallow : m.deepest ≤ 64
  pub opcodes_once : NoTwoShare (λ o. o.opcode_number) m.operations
  pub mnemonics_once : NoTwoShare (λ o. o.letters) m.operations
  -- every meaning is a pattern within the limits
  pub meanings_within : AllByRecursion (λ o. pattern_items (reading o.shape) ≡ true) m.operations

pub record LawfulState (s : State) : Type 0 where
  -- with no code nothing waits, and each setting ends as itself
  pub nothing_waits : code_in s ≡ [] → waiting_in s ≡ []
  pub ends_as_itself : code_in s ≡ [] → (σ : List ℕ) → length σ ≡ 64 → end_from s σ ≡ σ
  pub value_each : (σ : List ℕ) → length σ ≡ 64 → length (values_from s σ) ≡ depth_in s
  pub settings_whole : (σ : List ℕ) → length σ ≡ 64 → length (end_from s σ) ≡ 64

pub record Lawful (m : Machine) (s : State) : Type 0 where
  pub machine_lawful : LawfulMachine m
  pub state_lawful : LawfulState s
