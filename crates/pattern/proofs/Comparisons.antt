-- What the comparisons decide.
use Rattle.std.proofs.Common.{◌≡◌, true, ◌&&◌, sym, refl, ap, ◌∙◌, rules}
use Rattle.std.specs.Prelude.{Decides, nat_eq}
use Rattle.std.specs.Cmp.Lexicographic.{pointwise_decides}
use Rattle.std.proofs.lemmas.Bool.{and_parts, and_from, eqb-true, eq-eqb, false≢true}
use denote.Enum.Bare.{same_true}
use Rattle.operators.specs.declared.Unary.{Unary as UnaryOperator}
use Rattle.operators.specs.declared.Unary.TheVariants.{Neg, Not}
use Rattle.operators.specs.declared.Binary.{Binary as BinaryOperator}
use Rattle.operators.specs.declared.Binary.TheVariants.{Add, Sub, Mul, And, Or, Xor, Shl, Shr, Sar, Lt}
use Rattle.operators.specs.contracts.Unary.{the_type as unary_type}
use Rattle.operators.specs.contracts.Binary.{the_type as binary_type}
use Rattle.operators.specs.contracts.UnaryPartialEq.TheImpl.{ghosts as unary_comparison}
use Rattle.operators.specs.contracts.BinaryPartialEq.TheImpl.{ghosts as binary_comparison}
use Rattle.pattern.specs.contracts.intervals.IntervalPartialEq.TheImpl.{ghosts as interval_comparison}
use Rattle.pattern.specs.contracts.items.ItemPartialEq.TheImpl.{ghosts as item_comparison}
use Rattle.pattern.specs.contracts.patterns.PatternPartialEq.TheImpl.{ghosts as pattern_comparison}
use Rattle.pattern.specs.declared.intervals.Interval.{Interval}
use Rattle.pattern.specs.declared.items.Item.{Item}
use Rattle.pattern.specs.declared.items.Item.TheVariants.{Operand, Unary, Binary, Constant, Variable}
use Rattle.pattern.specs.declared.patterns.Pattern.{Pattern}
use Rattle.pattern.specs.Items.{count_of_operands, count_of_leaves}
use Rattle.pattern.specs.Patterns.{items_of}
use Rattle.pattern.proofs.Same.{same_interval}

unary_itself : (o : UnaryOperator) → unary_comparison.eq o o ≡ true
unary_itself Neg = refl
unary_itself Not = refl

binary_itself : (o : BinaryOperator) → binary_comparison.eq o o ≡ true
binary_itself Add = refl
binary_itself Sub = refl
binary_itself Mul = refl
binary_itself And = refl
binary_itself Or = refl
binary_itself Xor = refl
binary_itself Shl = refl
binary_itself Shr = refl
binary_itself Sar = refl
binary_itself Lt = refl

pub intervals_decide : (i j : Interval) → Decides (interval_comparison.eq i j) (i ≡ j)
intervals_decide i j = (
  λ e. let both = and_parts (nat_eq i.low j.low) (nat_eq i.high j.high) e in same_interval i j (eqb-true _ _ both.0) (eqb-true _ _ both.1),
  λ e. and_from (nat_eq i.low j.low) (nat_eq i.high j.high) (eq-eqb _ _ (ap (λ (k : Interval). k.low) e)) (eq-eqb _ _ (ap (λ (k : Interval). k.high) e)),
)

pub items_decide : (a b : Item) → Decides (item_comparison.eq a b) (a ≡ b)
items_decide (Operand a) (Operand b) = (λ e. ap Operand (eqb-true a b e), λ e. let same : a ≡ b = cc in eq-eqb a b same)
items_decide (Unary o) (Unary p) = (
  λ e. ap Unary (same_true unary_type (search rules) o p e),
  λ e. let same : o ≡ p = cc in ap (unary_comparison.eq o) (sym same) ∙ unary_itself o,
)
items_decide (Binary o) (Binary p) = (
  λ e. ap Binary (same_true binary_type (search rules) o p e),
  λ e. let same : o ≡ p = cc in ap (binary_comparison.eq o) (sym same) ∙ binary_itself o,
)
items_decide (Constant i) (Constant j) = (
  λ e. ap Constant ((intervals_decide i j).0 e),
  λ e. let same : i ≡ j = cc in (intervals_decide i j).1 same,
)
items_decide Variable Variable = (λ e. refl, λ e. refl)
items_decide a b = (λ e. absurd (false≢true e), λ e. cc)

pub patterns_decide : (p q : Pattern) → Decides (pattern_comparison.eq p q) (items_of p ≡ items_of q)
patterns_decide p q =
    let compared = pointwise_decides items_decide p.items q.items in (
      λ e. compared.0 (and_parts _ (nat_eq p.operands q.operands && nat_eq p.leaves q.leaves) e).0,
      λ e. and_from _ _ (compared.1 e)
          (and_from (nat_eq p.operands q.operands) (nat_eq p.leaves q.leaves)
          (eq-eqb _ _ (p.counted ∙ ap count_of_operands e ∙ sym q.counted)) (eq-eqb _ _ (p.tallied ∙ ap count_of_leaves e ∙ sym q.tallied))),
    )
