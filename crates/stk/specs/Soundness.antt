-- What is encoded for a stack runs on it.
use Rattle.std.specs.Prelude.{◌≡◌, ℕ, ◌+◌, ◌-◌, ◌*◌, ◌%◌, ◌≤◌, true, false, not, ◌&&◌, ltb, leb, List, [], ◌∷◌, ◌++◌, length, Some, ◌==◌, nat_eq, nat_le, nat_lt, refl}
use Rattle.std.proofs.Common.{arith}
use Rattle.std.proofs.lemmas.List.{length-append, length-take}
use Rattle.std.proofs.lemmas.Bool.{and_parts, and_from, or_from, not_from_true, eqb-true, leb-true, ltb-true, eq-eqb, le-leb, le-ltb}
use Rattle.pattern.specs.Items.{pattern_items}
use Rattle.pattern.specs.Shapes.{reading}
use Rattle.board.specs.Machines.{Operation, operation_of, operand_letters, arity, leaf_total}
use Rattle.board.specs.Acts.{before_last}
use Rattle.board.specs.Laws.{LawfulMachine}
use Rattle.processor.specs.Designs.{store_opcode}
use Rattle.processor.specs.Soundness.{Sound, ResultsInPlaces}
use Rattle.processor.proofs.Judging.{enough_wait}
use Rattle.processor.proofs.Tables.{found_among, every_all, every_found, once_by_number, once_by_text}
use Rattle.stk.specs.Table.{stack_place, stk_operations, stk_machine}
use Rattle.stk.specs.Designs.{stack_misplaced, stk_design}

machine_lawful : LawfulMachine stk_machine
unfolding stk_operations
machine_lawful = record {
  some_depth = omega arith;
  shallow = omega arith;
  opcodes_once = once_by_number stk_machine.operations refl;
  mnemonics_once = once_by_text stk_machine.operations refl;
  meanings_within = every_all (λ o. pattern_items (reading o.shape)) stk_machine.operations refl;
}

-- a stack that holds w is as high
height : (w own : List ℕ) → (length own == length w && nat_le (length w) 64) ≡ true → (length own ≡ length w) × (length w ≤ 64)
height w own h =
    let both = and_parts (length own == length w) _ h in
    (eqb-true _ _ both.0, leb-true (length w) 64 both.1)

held_by : (w own : List ℕ) → length own ≡ length w → length w ≤ 64 → (length own == length w && nat_le (length w) 64) ≡ true
held_by w own e l = and_from (length own == length w) _ (eq-eqb _ _ e) (le-leb (length w) 64 l)

-- a word of opcode n and low byte 0 is carried out where there are values enough and room
placed_at : (n operands results : ℕ) (own : List ℕ) → operands ≤ length own → length own - operands + results ≤ 64 → stack_misplaced (n * 256 + 0) operands results own ≡ false
placed_at n operands results own enough room =
    or_from (not ((n * 256 + 0) % 256 == 0)) _ (not_from_true _ (eq-eqb ((n * 256 + 0) % 256) 0 (omega arith)))
    (or_from (nat_lt (length own) operands) _ (le-ltb (length own) operands enough) (le-ltb 64 (length own - operands + results) room))

length_before : (n : ℕ) (xs : List ℕ) → length (before_last n xs) ≡ length xs - n
length_before n xs = omega (arith, length-take (length xs - n) xs)

pub stk_sound : Sound stk_design
unfolding stk_operations
stk_sound = record {
  lawful_machine = machine_lawful;
  store_apart = refl;
  opcodes_short = λ n o e.
      let found = found_among stk_machine.operations n o e in
      omega (arith, ltb-true o.opcode_number 256 (every_found (λ q. ltb q.opcode_number 256) stk_machine.operations refl n o e), found.1);
  one_payload = λ n o e. leb-true (leaf_total o) 1 (every_found (λ q. leb (leaf_total q) 1) stk_machine.operations refl n o e);
  low_is_byte = λ depth operands. omega arith;
  starts = refl;
  value_each = λ w own h. (height w own h).0;
  operations_run = λ n o w own e wait deep h.
      let high = height w own h in
      let enough = enough_wait w (operand_letters o) wait in
      let gone = length_before (arity o) own in
      let gone' = length_before (arity o) w in
      record {
        placed = placed_at n (arity o) 1 own (omega arith) (omega arith);
        operands_found = refl;
        result_held = λ v. held_by (before_last (arity o) w ++ o.result_letter ∷ []) (before_last (arity o) own ++ v ∷ []) (omega (arith, length-append (before_last (arity o) w) (o.result_letter ∷ []), length-append (before_last (arity o) own) (v ∷ []))) (omega (arith, length-append (before_last (arity o) w) (o.result_letter ∷ [])));
        result_read = λ v. refl;
      };
  stores_run = λ w own wait h.
      let high = height w own h in
      let enough = enough_wait w (stack_place ∷ []) wait in
      record {
        placed = placed_at store_opcode 1 0 own (omega arith) (omega arith);
        operand_found = refl;
        rest_held = held_by (before_last 1 w) (before_last 1 own) (omega (arith, length_before 1 own, length_before 1 w)) (omega (arith, length_before 1 w));
        rest_read = refl;
      };
}

-- every result lies in PLACE S
pub result_in_stack : (n : ℕ) (o : Operation) → operation_of stk_machine n ≡ Some o → o.result_letter ≡ stack_place
unfolding stk_operations
result_in_stack n o e =
    eqb-true o.result_letter stack_place (every_found (λ q. nat_eq q.result_letter stack_place) stk_operations refl n o e)

-- so in a PLACE
pub stk_result_places : ResultsInPlaces stk_design
stk_result_places n o e = (omega (arith, result_in_stack n o e), omega (arith, result_in_stack n o e))
