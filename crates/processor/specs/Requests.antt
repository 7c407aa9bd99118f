-- What a board that keeps its code as words makes of an issue: the words to append, and where its result waits.
use Rattle.std.specs.Prelude.{◌≡◌, ℕ, ◌-◌, List, [], ◌∷◌, length, take}
use Rattle.board.specs.Machines.{Operation, arity, leaf_total}
use Rattle.tree.specs.Refusals.{RefusedBy}
use Rattle.board.specs.declared.instructions.Instruction.{Instruction}
use Rattle.board.specs.Instructions.{Denotes}
use Rattle.board.specs.Acts.{board_order, IssueFails, StoreFails}
use Rattle.processor.specs.declared.requests.Emission.{Emission}
use Rattle.processor.specs.Designs.{Design}
use Rattle.processor.specs.Soundness.{issue_word, store_word}
use Rattle.processor.specs.Boards.{IssueAllowed, StoreAllowed}

-- an issue is allowed, and this is to be appended: the first word and the payloads used; the result is to wait above those below it
pub record Emits (d : Design) (w : List ℕ) (free op a b : ℕ) (e : Emission) : Type 0 where
  pub by : Operation
  pub allowed : IssueAllowed d.fixed_part w free op a b by
  pub words_are : e.words ≡ issue_word d op by w ∷ take (leaf_total by) (a ∷ b ∷ [])
  pub below_is : e.below ≡ length w - arity by
  pub result_is : e.result ≡ by.result_letter

-- a store is allowed, and these are its words
pub record EmitsStore (d : Design) (w : List ℕ) (free v : ℕ) (ws : List ℕ) : Type 0 where
  pub allowed : StoreAllowed d.fixed_part w free v
  pub words_are : ws ≡ store_word d w ∷ v ∷ []

-- an issue is allowed, by this instruction
pub record AllowedBy (d : Design) (w : List ℕ) (free op a b : ℕ) (i : Instruction) : Type 0 where
  pub by : Operation
  pub allowed : IssueAllowed d.fixed_part w free op a b by
  pub is : Denotes i by

-- it is refused with number k at place p
abbrev pub IssueRefused : Design → List ℕ → ℕ → ℕ → ℕ → ℕ → ℕ → ℕ → Type 0
IssueRefused d w free op a b = RefusedBy board_order (IssueFails d.fixed_part w free op a b)

abbrev pub StoreRefused : Design → List ℕ → ℕ → ℕ → ℕ → ℕ → Type 0
StoreRefused d w free v = RefusedBy board_order (StoreFails d.fixed_part w free v)
