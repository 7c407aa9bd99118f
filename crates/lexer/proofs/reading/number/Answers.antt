use Rattle.std.proofs.Common.{arith}
use Rattle.std.proofs.lemmas.Grind.{common_steps}
use Rattle.std.proofs.lemmas.List.Sums.{prefix_len_passes}
use Rattle.lexer.proofs.reading.number.Goals as goal

pub number_value-requires : goal.number_value-requires
number_value-requires c k h = grind (arith, common_steps, prefix_len_passes)
