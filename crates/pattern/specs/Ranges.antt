-- The payloads that a range admits.
use Rattle.std.specs.Prelude.{ℕ, ◌^◌, ◌<◌, ◌≤◌, Bool, ◌&&◌, nat_le}
use Rattle.pattern.specs.declared.intervals.Interval.{Interval}

-- a word from the low end to the high end
abbrev pub Admits : Interval → ℕ → Type 0
Admits i w = (i.low ≤ w) × (w ≤ i.high)

-- the same as a test
abbrev pub admitted : Interval → ℕ → Bool
admitted i w = nat_le i.low w && nat_le w i.high

-- each word that the one admits the other admits
abbrev pub Within : Interval → Interval → Type 0
Within i j = (w : ℕ) → w < 2 ^ 32 → Admits i w → Admits j w
