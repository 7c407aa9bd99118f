use Rattle.std.proofs.Common.{◌≡◌, ◌<◌, Some, sym, ap, ◌∙◌, ⊎_elim, arith}
use Rattle.std.specs.Cmp.Lexicographic.{bytes_decides}
use Rattle.std.proofs.lemmas.Bool.{cases_lt, both_ways}
use Rattle.pattern.specs.Letters.{letters_of}
use Rattle.board.specs.Machines.{operation_of}
use Rattle.processor.proofs.Judging.{some_same, none_some}
use Rattle.processor.proofs.Tables.{found_among, listed_found, has_among, all_among}
use Rattle.processor.proofs.naming.named.Goals as goal
use Rattle.processor.proofs.naming.named.Goals.{in-Some+else-eq, in_default}

pub loop-opcode-preserved : goal.loop-opcode-preserved
loop-opcode-preserved g c n o l e h =
    let m = g.P.Processor.design.fixed_part in
    let k = c.loop-opcode.opcode in
    ⊎_elim (λ before. c.loop-opcode.invariant n o before e h)
    (λ now'.
    let here : operation_of m k ≡ Some o = let same : k ≡ n = omega arith in ap (operation_of m) same ∙ e in
    elim c.match-operation.branch [
      | in-Some+else-eq w ↦
          let found = w.in-Some.ensures in
          let spelt : letters_of w.in-Some.instruction.mnemonic ≡ letters_of c.args.mnemonic.now = found.2.mnemonic_is ∙ ap (λ x. x.letters) (some_same found.1 here) ∙ h in
          both_ways _ w.if-eq.false (w.eq.ensures ∙ (bytes_decides _ _).1 spelt)
      | in_default w ↦ none_some w.in_default.ensures here
    ])
    (cases_lt n k)

pub returns-then-eq : goal.returns-then-eq
returns-then-eq g c =
    let found = c.in-Some.ensures in
    let m = g.P.Processor.design.fixed_part in
    let is = found_among m.operations c.loop-opcode.opcode found.0 found.1 in
    (found.0, has_among found.0 m.operations is.0, sym found.2.mnemonic_is ∙ (bytes_decides _ _).0 (sym c.eq.ensures ∙ c.if-eq.true), found.2)

pub returns : goal.returns
returns g c =
    let m = g.P.Processor.design.fixed_part in
    let sound = g.met.P.Processor.sound in
    all_among _ m.operations
    (λ o a h.
    let is = listed_found m.operations o sound.lawful_machine.opcodes_once a in
    let short : o.opcode_number < 256 = sound.opcodes_short o.opcode_number o is in
    c.loop-opcode.invariant o.opcode_number o (omega arith) is h)
