use Rattle.std.proofs.Common.{length}
use Rattle.processor.specs.CodedBoards.{code_words, beyond_code, waiting_places}
use Rattle.processor.proofs.Keeping.{words_simulated}
use Rattle.processor.proofs.laws.encoded_is_run.Goals as goal

pub returns : goal.returns
returns g c b =
    words_simulated g.P.Processor.design g.met.P.Processor.sound (code_words b) (waiting_places b) b.belongs (length (beyond_code b))
