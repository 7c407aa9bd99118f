use Rattle.std.proofs.Common.{◌≡◌, ℕ, suc, ◌-◌, ◌≤◌, length}
use Rattle.reader.specs.Reading.{read_from, nothing_read}
use Rattle.reader.specs.States.{awaits_of, stands}
use Rattle.reader.specs.Soundness.{Sound}
use Rattle.reader.proofs.read.read_lines.Given as goal

abbrev pub invariant-loop-token : goal.invariant-loop-token
invariant-loop-token l =
    (turns : ℕ)
    × (length l.lexer.text.now - l.lexer.offset ≤ turns)
    × (read_from (suc turns) l.lexer.text.now l.lexer.offset (stands l.progress (awaits_of l.expect))
    ≡ read_from (length l.initial.lexer.text.now) l.initial.lexer.text.now l.initial.lexer.offset nothing_read)
    × Sound (stands l.progress (awaits_of l.expect))
    × (l.lexer.text.now ≡ l.initial.lexer.text.now)

abbrev pub decreases-loop-token : goal.decreases-loop-token
decreases-loop-token l = length l.lexer.text.now - l.lexer.offset
