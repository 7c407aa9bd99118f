-- When a board refuses an issue, a store and a run, and what each makes of its state where it is granted.
use Rattle.std.specs.Prelude.{◌≡◌, ℕ, ◌+◌, ◌-◌, ◌<◌, false, List, [], ◌∷◌, ◌++◌, length, take, drop, Some, None, ◌≢◌, slice_index, slice_set}
use Rattle.pattern.specs.Shapes.{shape_value}
use Rattle.tree.specs.Refusals.{RefusedBy, GrantedBy}
use Rattle.board.specs.Machines.{Machine, Operation, operation_of, operand_letters, operation_leaves, arity, leaf_total}
use Rattle.board.specs.Payloads.{admits_all}
use Rattle.board.specs.States.{did_issue, did_store, State, free_in, code_in, waiting_in, end_from, values_from}

-- the last n of a list, and what stands before them
abbrev pub last_of : {X : Type 0} → ℕ → List X → List X
last_of n xs = drop (length xs - n) xs

abbrev pub before_last : {X : Type 0} → ℕ → List X → List X
before_last n xs = take (length xs - n) xs

-- the order of checks
abbrev pub board_order : List ℕ
board_order = 21 ∷ 22 ∷ 23 ∷ 24 ∷ 25 ∷ []

-- where operands wait in the PLACES w and so many words are free: number k applies, at place p, to an issue of this opcode with the
-- payloads a and b
pub data IssueFails (m : Machine) (w : List ℕ) (free op a b k p : ℕ) : Type 0 where
  unknown_opcode : k ≡ 21 → p ≡ length w → operation_of m op ≡ None → IssueFails m w free op a b k p
  operands_lacking : (o : Operation) → k ≡ 22 → p ≡ length w → operation_of m op ≡ Some o → (last_of (arity o) w ≢ operand_letters o) → IssueFails m w free op a b k p
  payload_barred : (o : Operation) → k ≡ 23 → p ≡ length w → operation_of m op ≡ Some o → admits_all (operation_leaves o) (a ∷ b ∷ []) ≡ false → IssueFails m w free op a b k p
  too_deep : (o : Operation) → k ≡ 24 → p ≡ length w → operation_of m op ≡ Some o → m.deepest < length w - arity o + 1 → IssueFails m w free op a b k p
  no_room : (o : Operation) → k ≡ 25 → p ≡ length w → operation_of m op ≡ Some o → free < 1 + leaf_total o → IssueFails m w free op a b k p

abbrev pub IssueDenied : Machine → State → ℕ → ℕ → ℕ → ℕ → ℕ → Type 0
IssueDenied m s op a b = RefusedBy board_order (IssueFails m (waiting_in s) (free_in s) op a b)

abbrev pub IssueGranted : Machine → State → ℕ → ℕ → ℕ → Type 0
IssueGranted m s op a b = GrantedBy (IssueFails m (waiting_in s) (free_in s) op a b)

-- an issue is granted, and the state after it is s'
pub record Issued (m : Machine) (s : State) (op a b : ℕ) (s' : State) : Type 0 where
  pub granted : IssueGranted m s op a b
  pub by : Operation
  pub is : operation_of m op ≡ Some by
  pub waits : waiting_in s' ≡ before_last (arity by) (waiting_in s) ++ by.result_letter ∷ []
  pub paid : free_in s ≡ free_in s' + (1 + leaf_total by)
  pub gained : code_in s' ≡ code_in s ++ did_issue op (take (leaf_total by) (a ∷ b ∷ [])) ∷ []
  pub ends_same : (σ : List ℕ) → length σ ≡ 64 → end_from s' σ ≡ end_from s σ
  -- operands and payloads are filled in from the left, and variables are read from the end setting
  pub joins : (σ : List ℕ) → length σ ≡ 64 → values_from s' σ ≡ before_last (arity by) (values_from s σ) ++ shape_value by.shape (last_of (arity by) (values_from s σ)) (a ∷ b ∷ []) (end_from s σ) ∷ []

-- the same of a store into variable v
pub data StoreFails (m : Machine) (w : List ℕ) (free v k p : ℕ) : Type 0 where
  operand_lacking : k ≡ 22 → p ≡ length w → (last_of 1 w ≢ m.store_letter ∷ []) → StoreFails m w free v k p
  variable_over : k ≡ 23 → p ≡ length w → 63 < v → StoreFails m w free v k p
  no_room_to_store : k ≡ 25 → p ≡ length w → free < 2 → StoreFails m w free v k p

abbrev pub StoreDenied : Machine → State → ℕ → ℕ → ℕ → Type 0
StoreDenied m s v = RefusedBy board_order (StoreFails m (waiting_in s) (free_in s) v)

abbrev pub StoreGranted : Machine → State → ℕ → Type 0
StoreGranted m s v = GrantedBy (StoreFails m (waiting_in s) (free_in s) v)

-- a store is granted, and the state after it is s'
pub record Stored (m : Machine) (s : State) (v : ℕ) (s' : State) : Type 0 where
  pub granted : StoreGranted m s v
  pub waits : waiting_in s' ≡ before_last 1 (waiting_in s)
  pub paid : free_in s ≡ free_in s' + 2
  pub gained : code_in s' ≡ code_in s ++ did_store v ∷ []
  pub ends_set : (σ : List ℕ) → length σ ≡ 64 → end_from s' σ ≡ slice_set (end_from s σ) v (slice_index (last_of 1 (values_from s σ)) 0)
  pub leaves : (σ : List ℕ) → length σ ≡ 64 → values_from s' σ ≡ before_last 1 (values_from s σ)

-- number k applies, at place p, to a run over the variables σ
pub data RunFails (σ : List ℕ) (k p : ℕ) : Type 0 where
  wrong_count : k ≡ 34 → p ≡ length σ → (length σ ≢ 64) → RunFails σ k p

-- a run is granted, and the variables become the end setting
pub record Ran (s : State) (σ σ' : List ℕ) : Type 0 where
  pub granted : GrantedBy (RunFails σ)
  pub leaves : σ' ≡ end_from s σ
