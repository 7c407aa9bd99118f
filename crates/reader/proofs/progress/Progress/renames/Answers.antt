use Rattle.std.proofs.Common.{arith}
use Rattle.std.proofs.lemmas.Grind.{common_steps}
use Rattle.reader.proofs.Ruled.{lies_is}
use Rattle.reader.proofs.progress.Progress.renames.Goals as goal

pub returns-in-Operand : goal.returns-in-Operand
returns-in-Operand c = grind (arith, common_steps, lies_is)
