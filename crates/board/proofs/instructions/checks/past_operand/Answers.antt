use Rattle.std.proofs.Common.{◌∷◌, ap, ◌∙◌, arith, ltb-false, ltb-true}
use Rattle.std.specs.Str.{bytes_eq}
use Rattle.board.specs.Instructions.{operand_list}
use Rattle.board.proofs.Fronts.{same_front, other_front, no_front}
use Rattle.board.proofs.instructions.checks.past_operand.Goals as goal
use Rattle.board.proofs.instructions.checks.past_operand.Goals.{in_default-letters-via-then-letters-lt1, in_default-letters-via-in-len1-up+else-first-letter}

pub returns-in-len1-up : goal.returns-in-len1-up
returns-in-len1-up c xs =
    let s = c.args.letters.now in
    ap (λ x. bytes_eq s (operand_list (x ∷ xs))) c.in-Operand.is
    ∙ same_front s c.in-Operand.letter (operand_list xs) (omega (arith, ltb-true, ltb-false)) c.if-first-letter.true

pub returns-in_default-letters : goal.returns-in_default-letters
returns-in_default-letters c xs =
    let s = c.args.letters.now in
    ap (λ x. bytes_eq s (operand_list (x ∷ xs))) c.in-Operand.is
    ∙ elim c.in_default-letters.branch [
      | in_default-letters-via-then-letters-lt1 w ↦ no_front s c.in-Operand.letter (operand_list xs) (omega (arith, ltb-true, ltb-false))
      | in_default-letters-via-in-len1-up+else-first-letter w ↦ other_front s c.in-Operand.letter (operand_list xs) (omega (arith, ltb-true, ltb-false)) w.if-first-letter.false
    ]
