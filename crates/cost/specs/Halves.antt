-- Why both halves of a size stop together.
use Rattle.std.specs.Prelude.{◌≡◌, ℕ, ◌+◌, ◌-◌, ◌^◌, ◌<◌, true, false}
use Rattle.std.proofs.Common.{arith}
use Rattle.cost.specs.declared.kinds.Size.{Size}
use Rattle.cost.specs.Amounts.{size_kind, stopped}

-- a sum of sizes in which each half stops by itself
abbrev pub halves_alone : Size → Size → Size
halves_alone a b = record {
  bytes = stopped (a.bytes + b.bytes);
  amount = stopped (a.amount + b.amount);
  short = omega arith;
  bounded = omega arith;
}

abbrev pub size_at : (n m : ℕ) → n < 2 ^ 32 → m < 2 ^ 32 → Size
size_at n m p q = record { bytes = n; amount = m; short = p; bounded = q }

-- (4294967294, 9) is at most (4294967295, 0); with (1, 0) added to both in that way it no longer is
abbrev pub HalvesAloneFail : Type 0
HalvesAloneFail =
    let low = size_at (2 ^ 32 - 2) 9 (omega arith) (omega arith) in
    let high = size_at (2 ^ 32 - 1) 0 (omega arith) (omega arith) in
    let more = size_at 1 0 (omega arith) (omega arith) in
    (size_kind.at_most low high ≡ true) × (size_kind.at_most (halves_alone low more) (halves_alone high more) ≡ false)
