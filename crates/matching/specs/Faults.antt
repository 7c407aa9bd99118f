-- What a refusal to find the parts says.
use Rattle.std.specs.Prelude.{ℕ}
use Rattle.matching.specs.declared.faults.PartsFault.{PartsFault}
use Rattle.matching.specs.declared.faults.PartsFault.TheVariants.{MemoryTooShort}

-- how many places of memory are wanted
abbrev pub places_wanted : PartsFault → ℕ
places_wanted (MemoryTooShort n) = n
