-- Values with equal contents are equal: ranges by their ends, names by their letters.
use Rattle.std.proofs.Common.{◌≡◌, suc, ◌^◌, ◌≤◌, true}
use mathlib.Core.Bool.{Bool-set}
use mathlib.Core.HLevel.{is_prop→PathP}
use native.Mathlib.Bridge.{le_prop}
use Rattle.pattern.specs.declared.intervals.Interval.{Interval}
use Rattle.pattern.specs.declared.names.ShortName.{ShortName}
use Rattle.pattern.specs.Letters.{letters_of}
use Rattle.pattern.specs.Names.{short_name}

pub same_interval : (i j : Interval) → i.low ≡ j.low → i.high ≡ j.high → i ≡ j
same_interval i j e f = λ k. record {
  low = e k;
  high = f k;
  ordered = is_prop→PathP (λ k. e k ≤ f k) (λ k. le_prop) i.ordered j.ordered k;
  bounded = is_prop→PathP (λ k. suc (f k) ≤ 2 ^ 32) (λ k. le_prop) i.bounded j.bounded k;
}

pub same_name : (a b : ShortName) → letters_of a ≡ letters_of b → a ≡ b
same_name a b e = λ k. record {
  letters = e k;
  formed = is_prop→PathP (λ k. short_name (e k) ≡ true) (λ k. Bool-set _ _) a.formed b.formed k;
}
