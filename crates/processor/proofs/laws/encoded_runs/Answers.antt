use Rattle.processor.specs.Runs.{encoded_runs_lem}
use Rattle.processor.proofs.laws.encoded_runs.Goals as goal

pub returns : goal.returns
returns c = encoded_runs_lem
