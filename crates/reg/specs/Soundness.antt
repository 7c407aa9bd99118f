-- What is encoded for the registers runs on them.
use Rattle.std.specs.Prelude.{◌≡◌, ℕ, ◌+◌, ◌-◌, ◌*◌, ◌%◌, ◌≤◌, true, false, ◌&&◌, leb, List, [], ◌∷◌, ◌++◌, length, take, drop, ◌==◌, nat_le, nat_lt, slice_index, slice_index_or, slice_set, refl}
use Rattle.std.proofs.Common.{sym, ap, ◌∙◌, arith, length-set, length-append}
use Rattle.std.proofs.lemmas.List.{get_or-set_same, length-take-le}
use Rattle.std.proofs.lemmas.Bool.{and_parts, and_from, eqb-true, eq-eqb, leb-true, le-leb, ltb-true}
use Rattle.pattern.specs.Items.{pattern_items}
use Rattle.pattern.specs.Shapes.{reading}
use Rattle.board.specs.Machines.{operand_letters, arity, leaf_total}
use Rattle.board.specs.Acts.{last_of, before_last}
use Rattle.board.specs.Laws.{LawfulMachine}
use Rattle.processor.specs.Designs.{store_opcode}
use Rattle.processor.specs.Soundness.{Sound, ResultsInPlaces}
use Rattle.processor.proofs.Judging.{enough_wait}
use Rattle.processor.proofs.Tables.{found_among, every_all, every_found, once_by_number, once_by_text}
use Rattle.reg.specs.Table.{data_place, reg_operations, reg_machine}
use Rattle.reg.specs.Designs.{slot, registers_from, j_for, i_of, reg_misplaced, reg_design}
use Rattle.reg.specs.Registers.{registers_length, registers_drop, registers_take, registers_append, registers_set, slot_within}
use Rattle.reg.specs.FirstWords.{j_within, i_back, j_back, well_placed}

-- sixteen registers, and at most eight operands that wait
abbrev Held : List ℕ → List ℕ → Type 0
Held w own = (length own ≡ 16) × (length w ≤ 8)

held_read : (w own : List ℕ) → (length own == 16 && nat_le (length w) 8) ≡ true → Held w own
held_read w own h =
    let both = and_parts (length own == 16) _ h in
    (eqb-true (length own) 16 both.0, leb-true (length w) 8 both.1)

held_from : (w own : List ℕ) → Held w own → (length own == 16 && nat_le (length w) 8) ≡ true
held_from w own h = and_from _ _ (eq-eqb (length own) 16 h.0) (le-leb (length w) 8 h.1)

-- an instruction of opcode op whose n operands, in the PLACES ls, are the last that wait
module _ (op n : ℕ) (w own ls : List ℕ) (counted : n ≡ length ls) (wait : last_of n w ≡ ls) (shallow : length w - n + 1 ≤ 8) (held : Held w own) where
  abbrev its_depth : ℕ
  its_depth = length w - n

  abbrev its_word : ℕ
  its_word = op * 256 + (its_depth * 16 + j_for its_depth n) % 256

  enough : n ≤ length w
  enough = omega (arith, enough_wait w ls (ap (λ k. last_of k w) (sym counted) ∙ wait))

  j_low : j_for its_depth n ≤ 7
  j_low = j_within its_depth n (omega arith) (omega (arith, enough, held.1))

  i_is : i_of its_word ≡ its_depth
  i_is = i_back op its_depth (j_for its_depth n) (omega arith) j_low

  is_placed : reg_misplaced its_word n ≡ false
  is_placed = well_placed its_word its_depth n i_is (j_back op its_depth (j_for its_depth n) (omega arith) j_low) (omega arith) j_low

  found : registers_from (i_of its_word) ls own ≡ last_of n (registers_from 0 w own)
  found =
      let from-0 : its_depth ≡ 0 + its_depth = omega arith in
      (λ x. registers_from ((i_is ∙ from-0) x) (sym wait x) own) ∙ sym (registers_drop its_depth 0 w own)
      ∙ ap (λ k. drop (k - n) (registers_from 0 w own)) (sym (registers_length 0 w own))

  rest_is : registers_from 0 (before_last n w) own ≡ before_last n (registers_from 0 w own)
  rest_is = sym (registers_take its_depth 0 w own) ∙ ap (λ k. take (k - n) (registers_from 0 w own)) (sym (registers_length 0 w own))

  before_length : length (before_last n w) ≡ its_depth
  before_length = length-take-le its_depth w (omega arith)

  module _ (p v : ℕ) where
    held_after : Held (before_last n w ++ p ∷ []) (slice_set own (slot p (i_of its_word)) v)
    held_after = (length-set own _ v ∙ held.0, omega (arith, length-append (before_last n w) (p ∷ []), before_length))

    set_read : slice_index_or (slice_set own (slot p its_depth) v) (slot p (0 + length (before_last n w))) 0 ≡ v
    set_read =
        let here : 0 + length (before_last n w) ≡ its_depth = omega (arith, before_length) in
        ap (λ k. slice_index (slice_set own (slot p its_depth) v) (slot p k)) here
        ∙ get_or-set_same own (slot p its_depth) v 0 (omega (arith, slot_within p its_depth (omega arith), held.0))

    read_after : registers_from 0 (before_last n w ++ p ∷ []) (slice_set own (slot p (i_of its_word)) v) ≡ before_last n (registers_from 0 w own) ++ v ∷ []
    read_after =
        ap (λ k. registers_from 0 (before_last n w ++ p ∷ []) (slice_set own (slot p k) v)) i_is
        ∙ registers_append 0 (before_last n w) (p ∷ []) (slice_set own (slot p its_depth) v)
        ∙ (λ x. (registers_set 0 (before_last n w) own p its_depth v (omega (arith, before_length)) (omega arith) ∙ rest_is) x ++ set_read x ∷ [])

machine_lawful : LawfulMachine reg_machine
unfolding reg_operations
machine_lawful = record {
  some_depth = omega arith;
  shallow = omega arith;
  opcodes_once = once_by_number reg_operations refl;
  mnemonics_once = once_by_text reg_operations refl;
  meanings_within = every_all (λ o. pattern_items (reading o.shape)) reg_operations refl;
}

pub reg_sound : Sound reg_design
unfolding reg_operations
reg_sound = record {
  lawful_machine = machine_lawful;
  store_apart = refl;
  opcodes_short = λ n o e.
      omega (arith, ltb-true o.opcode_number 256 (every_found (λ q. nat_lt q.opcode_number 256) reg_operations refl n o e), (found_among reg_operations n o e).1);
  one_payload = λ n o e. leb-true (leaf_total o) 1 (every_found (λ q. leb (leaf_total q) 1) reg_operations refl n o e);
  low_is_byte = λ i n. omega arith;
  starts = refl;
  value_each = λ w own h. registers_length 0 w own;
  operations_run = λ n o w own e wait shallow h.
      let held = held_read w own h in
      let ls = operand_letters o in
      record {
        placed = is_placed n (arity o) w own ls refl wait shallow held;
        operands_found = found n (arity o) w own ls refl wait shallow held;
        result_held = λ v. held_from _ _ (held_after n (arity o) w own ls refl wait shallow held o.result_letter v);
        result_read = read_after n (arity o) w own ls refl wait shallow held o.result_letter;
      };
  stores_run = λ w own wait h.
      let held = held_read w own h in
      let ls = data_place ∷ [] in
      let shallow : length w - 1 + 1 ≤ 8 = omega (arith, held.1) in
      record {
        placed = is_placed store_opcode 1 w own ls refl wait shallow held;
        operand_found = found store_opcode 1 w own ls refl wait shallow held;
        rest_held = held_from (before_last 1 w) own (held.0, omega (arith, before_length store_opcode 1 w own ls refl wait shallow held));
        rest_read = rest_is store_opcode 1 w own ls refl wait shallow held;
      };
}

pub reg_result_places : ResultsInPlaces reg_design
unfolding reg_operations
reg_result_places n o e =
    let a = o.result_letter in
    let both = and_parts (leb 65 a) _ (every_found (λ q. leb 65 q.result_letter && leb q.result_letter 90) reg_operations refl n o e) in
    (leb-true 65 a both.0, leb-true a 90 both.1)
