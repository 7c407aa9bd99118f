use Rattle.std.proofs.Common.{◌≡◌, ℕ, ◌<◌, Some}
use Rattle.pattern.specs.Letters.{letters_of}
use Rattle.board.specs.Machines.{Operation, operation_of}
use Rattle.processor.proofs.naming.named.Given as goal

abbrev pub invariant-loop-opcode : goal.invariant-loop-opcode
invariant-loop-opcode g l =
    (n : ℕ) (o : Operation) → n < l.opcode → operation_of g.P.Processor.design.fixed_part n ≡ Some o → o.letters ≡ letters_of l.mnemonic → ⊥
