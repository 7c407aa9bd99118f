use Rattle.lexer.proofs.Standing.{reads_what_stands_lem}
use Rattle.lexer.proofs.laws.reads_what_stands.Goals as goal

pub returns : goal.returns
returns c = reads_what_stands_lem
