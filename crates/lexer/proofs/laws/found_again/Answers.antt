use Rattle.lexer.proofs.Standing.{found_again_lem}
use Rattle.lexer.proofs.laws.found_again.Goals as goal

pub returns : goal.returns
returns c = found_again_lem
