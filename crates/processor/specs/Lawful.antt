-- How the words of a board run, and that every board is lawful: a proof that stands here, since the board's law `lawful` is it.
use Rattle.std.specs.Prelude.{◌≡◌, ℕ, true, List, [], ◌∷◌, length, Some, None, Option, refl}
use Rattle.std.proofs.Common.{sym, ap, ◌∙◌, length-set}
use Rattle.board.specs.Machines.{Machine, Operation, operation_of}
use Rattle.board.specs.States.{Act, did_issue, did_store, Outcome}
use Rattle.board.specs.Laws.{LawfulState, Lawful}
use Rattle.processor.specs.Designs.{Design}
use Rattle.processor.specs.Simulations.{Running, left, simulated, from_start}
use Rattle.processor.specs.Codes.{waiting_after_all, decoded}
use Rattle.processor.specs.Soundness.{Sound}
use Rattle.processor.specs.Boards.{outcome_by, state_of, Belongs}
use Rattle.processor.specs.Meanings.{meant_by, meant, meant_all, untouched}
use Rattle.processor.specs.Runs.{code_runs, starts_empty}
use Rattle.processor.specs.declared.Processor.{Ghosts}
use Rattle.processor.specs.declared.boards.CodedBoard.{CodedBoard}
use Rattle.processor.specs.CodedBoards.{code_words, beyond_code, waiting_places, board_state}

ends_by : (ps : List ℕ) (x : Outcome) (o : Option Operation) → length (meant_by ps x o).ends ≡ length x.ends
ends_by ps x None = refl
ends_by ps x (Some o) = refl

-- a setting keeps its length
ends_length : (m : Machine) (x : Outcome) (code : List Act) → length (meant_all m x code).ends ≡ length x.ends
ends_length m x [] = refl
ends_length m x (did_issue op ps ∷ rest) = ends_length m (meant m x (did_issue op ps)) rest ∙ ends_by ps x (operation_of m op)
ends_length m x (did_store v ∷ rest) = ends_length m (meant m x (did_store v)) rest ∙ length-set x.ends v _

module _ (d : Design) (sound : Sound d) (ws w : List ℕ) (belongs : Belongs d ws w) where
  -- how the words run
  pub record WordsRun (σ : List ℕ) : Type 0 where
    pub at_end : Running
    pub through : simulated d 0 ws (from_start d σ) ≡ left at_end
    pub still_held : d.holds w at_end.own_now ≡ true
    pub means : outcome_by d w (left at_end) ≡ meant_all d.fixed_part (untouched σ) (decoded d ws)

  pub words_run : (σ : List ℕ) → WordsRun σ
  words_run σ =
      let r = code_runs d sound [] (decoded d ws) 0 (from_start d σ) belongs.1 sound.starts in
      record {
        at_end = r.at_end;
        through = ap (λ us. simulated d 0 us (from_start d σ)) (sym belongs.0) ∙ r.through;
        still_held = ap (λ w'. d.holds w' r.at_end.own_now) (sym belongs.2) ∙ r.still_held;
        means = ap (λ w'. outcome_by d w' (left r.at_end)) (sym belongs.2) ∙ r.means
            ∙ ap (λ x. meant_all d.fixed_part x (decoded d ws)) (starts_empty d sound σ);
      }

  -- the effect of the words is what the meanings say
  pub effect_meant : (free : ℕ) (σ : List ℕ) → (state_of d ws free w).effect σ ≡ meant_all d.fixed_part (untouched σ) (decoded d ws)
  effect_meant free σ = ap (outcome_by d w) (words_run σ).through ∙ (words_run σ).means

  pub state_lawful : (free : ℕ) → LawfulState (state_of d ws free w)
  state_lawful free = record {
    nothing_waits = λ e. sym belongs.2 ∙ ap (waiting_after_all d.fixed_part []) e;
    ends_as_itself = λ e σ h. ap (λ x. x.ends) (effect_meant free σ) ∙ ap (λ code. (meant_all d.fixed_part (untouched σ) code).ends) e;
    value_each = λ σ h. ap (λ x. length x.held_values) (ap (outcome_by d w) (words_run σ).through) ∙ sound.value_each w (words_run σ).at_end.own_now (words_run σ).still_held;
    settings_whole = λ σ h. ap (λ x. length x.ends) (effect_meant free σ) ∙ ends_length d.fixed_part (untouched σ) (decoded d ws) ∙ h;
  }

pub board_lawful : {P : Type 0} {by : Ghosts P} → Sound by.design → (b : CodedBoard P by) → Lawful by.design.fixed_part (board_state b)
board_lawful {P} {by} sound b = record {
  machine_lawful = sound.lawful_machine;
  state_lawful = state_lawful by.design sound (code_words b) (waiting_places b) b.belongs (length (beyond_code b));
}
