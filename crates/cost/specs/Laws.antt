-- That each of the three kinds is lawful, for every value of its type.
use Rattle.std.specs.Prelude.{◌≡◌, ℕ, ◌+◌, ◌*◌, ◌^◌, ◌<◌, ◌≤◌, min, true, ◌⊎◌, ◌==◌, nat_le, nat_lt}
use Rattle.std.proofs.Common.{inl, inr, ⊎_elim, arith}
use mathlib.Core.HLevel.{is_prop→PathP}
use Rattle.std.proofs.Math.Bridge.{le_prop}
use Rattle.std.proofs.lemmas.Bool.{leb-true, le-leb, ltb-true, lt-ltb, le-ltb, eqb-true, eq-eqb, and_parts, and_from, or_cases, or_left, or_right, cond-true, cond-false, cases_lt}
use Rattle.cost.specs.declared.kinds.Cycles.{Cycles}
use Rattle.cost.specs.declared.kinds.Size.{Size}
use Rattle.cost.specs.declared.kinds.Longest.{Longest}
use Rattle.cost.specs.Kinds.{Lawful}
use Rattle.cost.specs.Amounts.{cycles_kind, size_kind, longest_kind, second_half, last_amount}

-- two values of a kind are equal if their amounts are
pub same_cycles : (a b : Cycles) → a.amount ≡ b.amount → a ≡ b
same_cycles a b e i = record { amount = e i; bounded = is_prop→PathP (λ j. e j < 2 ^ 32) (λ j. le_prop) a.bounded b.bounded i }

either_order : (m n : ℕ) → (nat_le m n ≡ true) ⊎ (nat_le n m ≡ true)
either_order m n = ⊎_elim (λ h. inl (le-leb m n (omega arith))) (λ h. inr (le-leb n m h)) (cases_lt m n)

pub cycles_lawful : Lawful cycles_kind
cycles_lawful = record {
  associative = λ a b c. same_cycles _ _ (omega arith);
  commutative = λ a b. same_cycles _ _ (omega arith);
  neutral = λ a. same_cycles _ _ (omega (arith, a.bounded));
  reflexive = λ a. le-leb _ _ (omega arith);
  transitive = λ a b c p q. le-leb _ _ (omega (arith, leb-true a.amount b.amount p, leb-true b.amount c.amount q));
  antisymmetric = λ a b p q. same_cycles a b (omega (arith, leb-true a.amount b.amount p, leb-true b.amount a.amount q));
  total = λ a b. either_order a.amount b.amount;
  least_of_all = λ a. le-leb _ _ (omega arith);
  monotone = λ a b c p. le-leb _ _ (omega (arith, leb-true a.amount b.amount p));
}

pub same_longest : (a b : Longest) → a.amount ≡ b.amount → a ≡ b
same_longest a b e i = record { amount = e i; bounded = is_prop→PathP (λ j. e j < 2 ^ 32) (λ j. le_prop) a.bounded b.bounded i }

pub longest_lawful : Lawful longest_kind
longest_lawful = record {
  associative = λ a b c. same_longest _ _ (omega arith);
  commutative = λ a b. same_longest _ _ (omega arith);
  neutral = λ a. same_longest _ _ (omega arith);
  reflexive = λ a. le-leb _ _ (omega arith);
  transitive = λ a b c p q. le-leb _ _ (omega (arith, leb-true a.amount b.amount p, leb-true b.amount c.amount q));
  antisymmetric = λ a b p q. same_longest a b (omega (arith, leb-true a.amount b.amount p, leb-true b.amount a.amount q));
  total = λ a b. either_order a.amount b.amount;
  least_of_all = λ a. le-leb _ _ (omega arith);
  monotone = λ a b c p. le-leb _ _ (omega (arith, leb-true a.amount b.amount p));
}

pub same_size : (a b : Size) → a.bytes ≡ b.bytes → a.amount ≡ b.amount → a ≡ b
same_size a b e f i = record {
  bytes = e i;
  amount = f i;
  short = is_prop→PathP (λ j. e j < 2 ^ 32) (λ j. le_prop) a.short b.short i;
  bounded = is_prop→PathP (λ j. f j < 2 ^ 32) (λ j. le_prop) a.bounded b.bounded i;
}

-- a size as one number, by which sizes are ordered
abbrev weight : Size → ℕ
weight a = a.bytes * 2 ^ 32 + a.amount

weight_from : (a b : Size) → size_kind.at_most a b ≡ true → weight a ≤ weight b
weight_from a b e =
    ⊎_elim (λ l. omega (arith, ltb-true a.bytes b.bytes l, a.bounded))
    (λ r.
    let both = and_parts (a.bytes == b.bytes) (nat_le a.amount b.amount) r in
    omega (arith, eqb-true a.bytes b.bytes both.0, leb-true a.amount b.amount both.1))
    (or_cases (nat_lt a.bytes b.bytes) _ e)

from_weight : (a b : Size) → weight a ≤ weight b → size_kind.at_most a b ≡ true
from_weight a b h =
    ⊎_elim (λ l. or_left (nat_lt a.bytes b.bytes) _ (lt-ltb a.bytes b.bytes l))
    (λ g.
    let same : a.bytes ≡ b.bytes = omega (arith, b.bounded) in
    or_right (nat_lt a.bytes b.bytes) _
    (and_from _ _ (eq-eqb a.bytes b.bytes same) (le-leb a.amount b.amount (omega arith))))
    (cases_lt a.bytes b.bytes)

-- the second half of a sum is the last amount where the first halves pass it, else the stopped sum
pub half_is : (n m : ℕ) → ((last_amount < n) × (second_half n m ≡ last_amount)) ⊎ ((n ≤ last_amount) × (second_half n m ≡ min m last_amount))
half_is n m =
    ⊎_elim (λ l. inl (l, cond-true (nat_lt last_amount n) last_amount (min m last_amount) (lt-ltb last_amount n l)))
    (λ g. inr (g, cond-false (nat_lt last_amount n) last_amount (min m last_amount) (le-ltb last_amount n g)))
    (cases_lt last_amount n)

half_associative : (a b c x y z : ℕ) → a < 2 ^ 32 → b < 2 ^ 32 → c < 2 ^ 32 → x < 2 ^ 32 → y < 2 ^ 32 → z < 2 ^ 32 → second_half (min (a + b) last_amount + c) (second_half (a + b) (x + y) + z) ≡ second_half (a + min (b + c) last_amount) (x + second_half (b + c) (y + z))
half_associative a b c x y z ha hb hc hx hy hz =
    omega (
      arith,
      half_is (a + b) (x + y),
      half_is (min (a + b) last_amount + c) (second_half (a + b) (x + y) + z),
      half_is (b + c) (y + z),
      half_is (a + min (b + c) last_amount) (x + second_half (b + c) (y + z)),
    )

pub size_lawful : Lawful size_kind
size_lawful = record {
  associative = λ a b c. same_size _ _ (omega arith) (half_associative a.bytes b.bytes c.bytes a.amount b.amount c.amount a.short b.short c.short a.bounded b.bounded c.bounded);
  commutative = λ a b. same_size _ _ (omega arith) (omega (arith, half_is (a.bytes + b.bytes) (a.amount + b.amount), half_is (b.bytes + a.bytes) (b.amount + a.amount)));
  neutral = λ a. same_size _ _ (omega (arith, a.short)) (omega (arith, half_is (0 + a.bytes) (0 + a.amount), a.short, a.bounded));
  reflexive = λ a. from_weight a a (omega arith);
  transitive = λ a b c p q. from_weight a c (omega (arith, weight_from a b p, weight_from b c q));
  antisymmetric = λ a b p q. same_size a b (omega (arith, weight_from a b p, weight_from b a q, a.bounded, b.bounded)) (omega (arith, weight_from a b p, weight_from b a q, a.bounded, b.bounded));
  total = λ a b. ⊎_elim (λ h. inl (from_weight a b (omega arith))) (λ h. inr (from_weight b a h)) (cases_lt (weight a) (weight b));
  least_of_all = λ a. from_weight size_kind.no_cost a (omega arith);
  monotone = λ a b c p. from_weight (size_kind.sum_of a c) (size_kind.sum_of b c) (omega (arith, weight_from a b p, half_is (a.bytes + c.bytes) (a.amount + c.amount), half_is (b.bytes + c.bytes) (b.amount + c.amount), a.short, b.short, c.short, a.bounded, b.bounded, c.bounded));
}
