-- The REG board as words: a first word is opcode × 256 + i × 16 + j, where i is the depth of the result and j that of the last operand.
-- The processor's words are its sixteen registers, D0 to D7 and then A0 to A7; the operand at depth i waits in D or A number i.
use Rattle.std.specs.Prelude.{ℕ, ◌+◌, ◌*◌, ◌/◌, ◌%◌, Bool, cond, not, ◌&&◌, ◌||◌, List, [], ◌∷◌, length, replicate, ◌==◌, nat_le, nat_lt, slice_index, slice_set}
use Rattle.processor.specs.Designs.{Design}
use Rattle.reg.specs.Table.{address_place, reg_machine}

-- where the register with that PLACE and number stands among the sixteen
abbrev pub slot : ℕ → ℕ → ℕ
slot place i = cond (place == address_place) (8 + i) i

-- the registers of these PLACES, whose numbers count up from i
abbrev pub registers_from : ℕ → List ℕ → List ℕ → List ℕ
registers_from i [] own = []
registers_from i (p ∷ ps) own = slice_index own (slot p i) ∷ registers_from (i + 1) ps own

-- what j is to be for so many operands: i + 1 for two, i for one, otherwise 0
abbrev pub j_for : ℕ → ℕ → ℕ
j_for i n = cond (n == 2) (i + 1) (cond (n == 1) i 0)

-- i and j of a first word
abbrev pub i_of : ℕ → ℕ
i_of f = f % 256 / 16

abbrev pub j_of : ℕ → ℕ
j_of f = f % 16

-- a first word cannot be carried out where i or j is over 7, or j is not what so many operands ask
abbrev pub reg_misplaced : ℕ → ℕ → Bool
reg_misplaced f n = nat_lt 7 (i_of f) || (nat_lt 7 (j_of f) || not (j_of f == j_for (i_of f) n))

abbrev pub reg_design : Design
reg_design = record {
  fixed_part = reg_machine;
  low_of = λ i n. (i * 16 + j_for i n) % 256;
  at_start = replicate 16 0;
  misplaced_at = λ f n results own. reg_misplaced f n;
  operands_at = λ f places own. registers_from (i_of f) places own;
  with_result = λ f n place v own. slice_set own (slot place (i_of f)) v;
  after_store = λ f own. own;
  values_at = λ places own. registers_from 0 places own;
  holds = λ places own. (length own == 16) && nat_le (length places) 8;
}
