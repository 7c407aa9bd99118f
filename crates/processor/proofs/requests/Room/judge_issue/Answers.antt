use Rattle.std.proofs.Common.{◌≡◌, ◌+◌, ◌-◌, ◌≤◌, [], ◌∷◌, length, take, ap, ◌∙◌, arith, length-take}
use Rattle.board.specs.Machines.{operand_letters, arity, leaf_total}
use Rattle.processor.specs.Designs.{first_word}
use Rattle.processor.proofs.Judging.{arity_is, leaf_total_is, enough_wait, front_words}
use Rattle.processor.proofs.requests.Room.judge_issue.Goals as goal

pub overflow_sub-below : goal.overflow_sub-below
overflow_sub-below g c =
    let found = c.in_ok-instruction.ensures in
    let o = found.by in
    omega (arith, enough_wait c.args.self.now.waiting.now (operand_letters o) found.allowed.operands_wait, arity_is c.in_ok-instruction.instruction o found.is)

pub slice_bounds-all-end : goal.slice_bounds-all-end
slice_bounds-all-end g c =
    let found = c.in_ok-instruction.ensures in
    omega (arith, leaf_total_is c.in_ok-instruction.instruction found.by found.is, g.met.P.Processor.sound.one_payload c.args.request.opcode found.by found.allowed.is)

pub slice_bounds-try_from-end : goal.slice_bounds-try_from-end
slice_bounds-try_from-end g c =
    let found = c.in_ok-instruction.ensures in
    let n = 1 + c.in_ok-instruction.instruction.meaning.leaves in
    omega (arith, length-take n (c.first_word-first.result ∷ c.args.request.first ∷ []), leaf_total_is c.in_ok-instruction.instruction found.by found.is, g.met.P.Processor.sound.one_payload c.args.request.opcode found.by found.allowed.is)

pub returns : goal.returns
returns g c =
    let found = c.in_ok-instruction.ensures in
    let i = c.in_ok-instruction.instruction in
    let o = found.by in
    let d = g.P.Processor.design in
    let w = c.args.self.now.waiting.now in
    let op = c.args.request.opcode in
    let few : leaf_total o ≤ 1 = g.met.P.Processor.sound.one_payload op o found.allowed.is in
    let operands = arity_is i o found.is in
    let leaves = leaf_total_is i o found.is in
    let first : c.first_word-first.result ≡ first_word d op (length w - arity o) (arity o) = c.first_word-first.ensures ∙ ap (λ n. first_word d op (length w - n) n) operands in
    record {
      by = o;
      allowed = found.allowed;
      words_are = c.in-Ok.ensures.0 ∙ (λ j. take (1 + leaves j) (first j ∷ c.args.request.first ∷ [])) ∙ front_words (leaf_total o) (first_word d op (length w - arity o) (arity o)) c.args.request.first c.args.request.second few;
      below_is = ap (λ n. length w - n) operands;
      result_is = found.is.result_is;
    }
