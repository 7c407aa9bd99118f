use Rattle.std.proofs.Common.{◌≡◌, ◌^◌, ◌<◌, drop}
use Rattle.lexer.specs.Bytes.{read_on, base_ten}
use Rattle.lexer.proofs.runs.number_value.Given as goal

abbrev pub invariant-loop-digit : goal.invariant-loop-digit
invariant-loop-digit l = (read_on l.value (drop l.digit-index l.digits) ≡ base_ten l.digits) × (l.value < 2 ^ 32)
