use Rattle.reader.proofs.Places.{places_within_lem}
use Rattle.reader.proofs.laws.places_within.Goals as goal

pub returns : goal.returns
returns c = places_within_lem
