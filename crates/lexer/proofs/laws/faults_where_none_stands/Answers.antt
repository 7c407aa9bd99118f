use Rattle.lexer.proofs.Standing.{faults_where_none_stands_lem}
use Rattle.lexer.proofs.laws.faults_where_none_stands.Goals as goal

pub returns : goal.returns
returns c = faults_where_none_stands_lem
