-- The three cost kinds. An amount is a number up to 4294967295, at which a sum stops.
use Rattle.std.specs.Prelude.{ℕ, ◌+◌, ◌-◌, ◌^◌, ◌<◌, min, max, true, false, cond, ◌&&◌, ◌||◌, ◌==◌, nat_le, nat_lt}
use Rattle.std.proofs.Common.{arith}
use Rattle.cost.specs.declared.kinds.Cycles.{Cycles}
use Rattle.cost.specs.declared.kinds.Size.{Size}
use Rattle.cost.specs.declared.kinds.Longest.{Longest}
use Rattle.cost.specs.Kinds.{Kind}

abbrev pub last_amount : ℕ
last_amount = 2 ^ 32 - 1

-- a number, stopped at the last amount
abbrev pub stopped : ℕ → ℕ
stopped n = min n last_amount

-- cycles: a sum that stops at the last amount
abbrev pub cycles_kind : Kind Cycles
cycles_kind = record {
  no_cost = record { amount = 0; bounded = omega arith };
  rule_cost = λ f. record { amount = f.cycles; bounded = omega (arith, f.quick) };
  sum_of = λ a b. record { amount = stopped (a.amount + b.amount); bounded = omega arith };
  at_most = λ a b. nat_le a.amount b.amount;
}

-- the second half of a sum of sizes, where n is the sum of the first halves: if that passes the last amount both halves
-- become the last amount, else the second stops there alone
abbrev pub second_half : ℕ → ℕ → ℕ
second_half n m = cond (nat_lt last_amount n) last_amount (stopped m)

pub second_bounded : (n m : ℕ) → second_half n m < 2 ^ 32
second_bounded n m =
    elim (nat_lt last_amount n) as (λ b. cond b last_amount (stopped m) < 2 ^ 32) [ true ↦ omega arith | false ↦ omega arith ]

-- size: the pair of bytes and cycles, compared by the first half, then by the second
abbrev pub size_kind : Kind Size
size_kind = record {
  no_cost = record { bytes = 0; amount = 0; short = omega arith; bounded = omega arith };
  rule_cost = λ f. record { bytes = f.size; amount = f.cycles; short = omega (arith, f.light); bounded = omega (arith, f.quick) };
  sum_of = λ a b. record {
    bytes = stopped (a.bytes + b.bytes);
    amount = second_half (a.bytes + b.bytes) (a.amount + b.amount);
    short = omega arith;
    bounded = second_bounded (a.bytes + b.bytes) (a.amount + b.amount);
  };
  at_most = λ a b. nat_lt a.bytes b.bytes || (a.bytes == b.bytes && nat_le a.amount b.amount);
}

-- longest: the sum is the larger of two
abbrev pub longest_kind : Kind Longest
longest_kind = record {
  no_cost = record { amount = 0; bounded = omega arith };
  rule_cost = λ f. record { amount = f.cycles; bounded = omega (arith, f.quick) };
  sum_of = λ a b. record { amount = max a.amount b.amount; bounded = omega (arith, a.bounded, b.bounded) };
  at_most = λ a b. nat_le a.amount b.amount;
}
