-- The signed reading of a word.
use Rattle.std.proofs.Common.{arith}
use Rattle.std.proofs.lemmas.Int.{ints}
use Rattle.operators.specs.Operators.{SignedReading}

pub signed_reading_lem : SignedReading
signed_reading_lem w h = (λ low. grind (arith, ints), λ high. grind (arith, ints))
