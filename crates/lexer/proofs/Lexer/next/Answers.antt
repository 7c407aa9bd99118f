use Rattle.std.proofs.Common.{◌+◌, arith}
use Rattle.lexer.proofs.Standing.{read_inside}
use Rattle.lexer.proofs.Lexer.next.Goals as goal

pub overflow_add-self : goal.overflow_add-self
overflow_add-self c =
    let l = c.args.self.now in
    omega (arith, read_inside l.text.now (l.offset + c.run_length.result) (omega arith) c.front.result c.front.ensures _ _ c.in_ok-token.was)

pub invariant_of-self : goal.invariant_of-self
invariant_of-self c =
    let l = c.args.self.now in
    record { within = read_inside l.text.now (l.offset + c.run_length.result) (omega arith) c.front.result c.front.ensures _ _ c.in_ok-token.was }
