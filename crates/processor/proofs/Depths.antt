-- How many operands wait after code that was taken.
use Rattle.std.proofs.Common.{◌≡◌, ℕ, ◌+◌, ◌-◌, ◌≤◌, true, List, [], ◌∷◌, length, Some, None, Option, subst, arith, length-append, length-take}
use Rattle.std.specs.Prelude.{◌==◌}
use Rattle.std.specs.Str.{bytes_eq}
use Rattle.std.proofs.lemmas.Bool.{and_parts, leb-true}
use Rattle.board.specs.Machines.{Machine, Operation, operation_of, operand_letters, operation_leaves, arity, leaf_total}
use Rattle.board.specs.Payloads.{admits_all}
use Rattle.board.specs.States.{Act, did_issue, did_store}
use Rattle.board.specs.Acts.{before_last, last_of}
use Rattle.processor.specs.declared.Processor.{Ghosts}
use Rattle.processor.specs.Codes.{taken, issue_taken, waiting_by, all_taken, waiting_after_all, decoded}
use Rattle.processor.specs.CodedBoards.{code_words, WaitsWithin}

shallow_by : (m : Machine) (w ps : List ℕ) (r : Option Operation) → length w ≤ m.deepest → issue_taken m w ps r ≡ true → length (waiting_by w r) ≤ m.deepest
shallow_by m w ps None h e = h
shallow_by m w ps (Some o) h e =
    let past_operands = (and_parts (bytes_eq (last_of (arity o) w) (operand_letters o)) _ e).1 in
    let past_payloads = (and_parts (admits_all (operation_leaves o) ps) _ past_operands).1 in
    let shallow = leb-true (length w - arity o + 1) m.deepest (and_parts (length ps == leaf_total o) _ past_payloads).1 in
    omega (arith, shallow, length-append (before_last (arity o) w) (o.result_letter ∷ []), length-take (length w - arity o) w)

waits_shallow : (m : Machine) (w : List ℕ) (code : List Act) → length w ≤ m.deepest → all_taken m w code ≡ true → length (waiting_after_all m w code) ≤ m.deepest
waits_shallow m w [] h e = h
waits_shallow m w (did_issue op ps ∷ rest) h e =
    let both = and_parts (issue_taken m w ps (operation_of m op)) _ e in
    waits_shallow m (waiting_by w (operation_of m op)) rest (shallow_by m w ps (operation_of m op) h both.0) both.1
waits_shallow m w (did_store v ∷ rest) h e =
    waits_shallow m (before_last 1 w) rest (omega (arith, h, length-take (length w - 1) w)) (and_parts (taken m w (did_store v)) (all_taken m (before_last 1 w) rest) e).1

pub waits_within_lem : {P : Type 0} {by : Ghosts P} → WaitsWithin by
waits_within_lem {P} {by} b =
    subst (λ w. length w ≤ by.design.fixed_part.deepest) b.belongs.2
    (waits_shallow by.design.fixed_part [] (decoded by.design (code_words b)) (omega arith) b.belongs.1)
