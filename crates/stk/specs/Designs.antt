-- The STK board as words: first words are opcode × 256, and the processor's words are its stack, the newest value last.
use Rattle.std.specs.Prelude.{ℕ, ◌+◌, ◌-◌, ◌%◌, Bool, not, ◌&&◌, ◌||◌, List, [], ◌∷◌, ◌++◌, length, ◌==◌, nat_le, nat_lt}
use Rattle.board.specs.Acts.{last_of, before_last}
use Rattle.processor.specs.Designs.{Design}
use Rattle.stk.specs.Table.{stk_machine}

-- a first word cannot be carried out where its low byte is not 0, there are too few values, or there would be over 64
abbrev pub stack_misplaced : ℕ → ℕ → ℕ → List ℕ → Bool
stack_misplaced f operands results own =
    not (f % 256 == 0) || (nat_lt (length own) operands || nat_lt 64 (length own - operands + results))

abbrev pub stk_design : Design
stk_design = record {
  fixed_part = stk_machine;
  low_of = λ depth operands. 0;
  at_start = [];
  misplaced_at = stack_misplaced;
  operands_at = λ f places own. last_of (length places) own;
  with_result = λ f operands place v own. before_last operands own ++ v ∷ [];
  after_store = λ f own. before_last 1 own;
  values_at = λ places own. own;
  holds = λ places own. (length own == length places) && nat_le (length places) 64;
}
