-- Cost kinds and the laws by which one is lawful.
use Rattle.std.specs.Prelude.{◌≡◌, Bool, true, ◌⊎◌}
use Rattle.pattern.specs.declared.figures.Figures.{Figures}

-- nothing, the cost of a rule from its numbers, the sum, and the question whether one cost is at most another
pub record Kind (C : Type 0) : Type 0 where
  pub no_cost : C
  pub rule_cost : Figures → C
  pub sum_of : C → C → C
  pub at_most : C → C → Bool

pub record Lawful {C : Type 0} (k : Kind C) : Type 0 where
  pub associative : (a b c : C) → k.sum_of (k.sum_of a b) c ≡ k.sum_of a (k.sum_of b c)
  pub commutative : (a b : C) → k.sum_of a b ≡ k.sum_of b a
  pub neutral : (a : C) → k.sum_of k.no_cost a ≡ a
  pub reflexive : (a : C) → k.at_most a a ≡ true
  pub transitive : (a b c : C) → k.at_most a b ≡ true → k.at_most b c ≡ true → k.at_most a c ≡ true
  pub antisymmetric : (a b : C) → k.at_most a b ≡ true → k.at_most b a ≡ true → a ≡ b
  pub total : (a b : C) → (k.at_most a b ≡ true) ⊎ (k.at_most b a ≡ true)
  pub least_of_all : (a : C) → k.at_most k.no_cost a ≡ true
  pub monotone : (a b c : C) → k.at_most a b ≡ true → k.at_most (k.sum_of a c) (k.sum_of b c) ≡ true
