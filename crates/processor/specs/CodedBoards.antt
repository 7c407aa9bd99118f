-- The state of a board, and what a call writes into its memory.
use Rattle.std.specs.Prelude.{◌≡◌, ℕ, ◌≤◌, List, [], ◌∷◌, ◌++◌, length, take, drop, reverse, Some}
use Rattle.tree.specs.Stacks.{held, beyond}
use Rattle.board.specs.Machines.{Operation, operation_of, leaf_total}
use Rattle.board.specs.States.{State, end_from}
use Rattle.processor.specs.declared.Processor.{Ghosts}
use Rattle.processor.specs.declared.boards.CodedBoard.{CodedBoard}
use Rattle.processor.specs.Boards.{state_of}
use Rattle.processor.specs.Simulations.{Simulated}
use Rattle.processor.specs.Soundness.{issue_word, store_word}

module _ {P : Type 0} {by : Ghosts P} where
  -- the words of its code, and the memory beyond them
  abbrev pub code_words : CodedBoard P by → List ℕ
  code_words b = reverse (held b.code)

  abbrev pub beyond_code : CodedBoard P by → List ℕ
  beyond_code b = beyond b.code

  -- the PLACES that wait
  abbrev pub waiting_places : CodedBoard P by → List ℕ
  waiting_places b = b.waiting

  -- all memory beyond the code is free
  abbrev pub board_state : CodedBoard P by → State
  board_state b = state_of by.design (code_words b) (length (beyond_code b)) (waiting_places b)

  -- the words ws stand after the code's, and the memory beyond them is untouched
  pub record Wrote (b : CodedBoard P by) (ws : List ℕ) (after : CodedBoard P by) : Type 0 where
    pub words_gained : code_words after ≡ code_words b ++ ws
    pub rest_kept : beyond_code after ≡ drop (length ws) (beyond_code b)

  -- so it is, and then operands wait in the PLACES w
  pub record Grew (b : CodedBoard P by) (ws w : List ℕ) (after : CodedBoard P by) : Type 0 where
    pub wrote : Wrote b ws after
    pub waits : waiting_places after ≡ w

  -- what an issue writes: the first word, then the payloads used
  pub record WroteIssue (b : CodedBoard P by) (op first' second' : ℕ) (after : CodedBoard P by) : Type 0 where
    pub operation : Operation
    pub is : operation_of by.design.fixed_part op ≡ Some operation
    pub wrote : Wrote b (issue_word by.design op operation (waiting_places b) ∷ take (leaf_total operation) (first' ∷ second' ∷ [])) after

  -- what a store writes: the first word, then the variable
  abbrev pub WroteStore : CodedBoard P by → ℕ → CodedBoard P by → Type 0
  WroteStore b v after = Wrote b (store_word by.design (waiting_places b) ∷ v ∷ []) after

-- what a board has encoded its simulator never refuses with 64 variables, and it leaves the end setting
abbrev pub EncodedIsRun : {P : Type 0} → Ghosts P → Type 0
EncodedIsRun {P} by =
    (b : CodedBoard P by) (σ : List ℕ) → length σ ≡ 64 → Simulated by.design (code_words b) σ (end_from (board_state b) σ)

-- no more operands wait than the depth limit allows
abbrev pub WaitsWithin : {P : Type 0} → Ghosts P → Type 0
WaitsWithin {P} by = (b : CodedBoard P by) → length (waiting_places b) ≤ by.design.fixed_part.deepest
