-- Each fault's number and place.
use Rattle.std.specs.Prelude.{ℕ, Some, None, Option}
use Rattle.tree.specs.declared.faults.EvaluationFault.{EvaluationFault}
use Rattle.tree.specs.declared.faults.EvaluationFault.TheVariants.{WrongCount, Refused}
use Rattle.tree.specs.declared.faults.StatementFault.{StatementFault}
use Rattle.tree.specs.declared.faults.StatementFault.TheVariants.{Malformed, TooLong, VariableOver}

abbrev pub statement_number : StatementFault → ℕ
statement_number (Malformed p) = 11
statement_number TooLong = 12
statement_number (VariableOver p) = 13

abbrev pub statement_place : StatementFault → ℕ
statement_place (Malformed p) = p
statement_place TooLong = 256
statement_place (VariableOver p) = p

abbrev pub evaluation_number : EvaluationFault → ℕ
evaluation_number (WrongCount n) = 34
evaluation_number (Refused i f) = statement_number f

abbrev pub evaluation_place : EvaluationFault → ℕ
evaluation_place (WrongCount n) = n
evaluation_place (Refused i f) = statement_place f

-- which statement it was, counted from 0, if it was one
abbrev pub evaluation_statement : EvaluationFault → Option ℕ
evaluation_statement (WrongCount n) = None
evaluation_statement (Refused i f) = Some i
