-- Values with equal contents are equal: patterns by their items, places by their letters, figures by their numbers.
use Rattle.std.proofs.Common.{◌≡◌, ◌≤◌, true, sym, ap, ◌∙◌}
use mathlib.Core.Bool.{Bool-set}
use mathlib.Core.HLevel.{is_prop→PathP}
use native.Mathlib.Bridge.{le_prop}
use Rattle.std.proofs.Math.Nat.{ℕ_set}
use Rattle.pattern.specs.declared.figures.Figures.{Figures}
use Rattle.pattern.specs.declared.patterns.Pattern.{Pattern}
use Rattle.pattern.specs.declared.places.Place.{Place}
use Rattle.pattern.specs.Items.{pattern_items, count_of_operands, count_of_leaves}
use Rattle.pattern.specs.Patterns.{items_of}

pub same_place : (p q : Place) → p.letter ≡ q.letter → p ≡ q
same_place p q e = λ k. record {
  letter = e k;
  from = is_prop→PathP (λ k. 65 ≤ e k) (λ k. le_prop) p.from q.from k;
  to = is_prop→PathP (λ k. e k ≤ 90) (λ k. le_prop) p.to q.to k;
}

pub same_figures : (f g : Figures) → f.size ≡ g.size → f.cycles ≡ g.cycles → f ≡ g
same_figures f g d e = λ k. record {
  size = d k;
  cycles = e k;
  light = is_prop→PathP (λ k. d k ≤ 99) (λ k. le_prop) f.light g.light k;
  quick = is_prop→PathP (λ k. e k ≤ 999) (λ k. le_prop) f.quick g.quick k;
}

pub same_pattern : (p q : Pattern) → items_of p ≡ items_of q → p ≡ q
same_pattern p q e =
    let operands : p.operands ≡ q.operands = p.counted ∙ ap count_of_operands e ∙ sym q.counted in
    let leaves : p.leaves ≡ q.leaves = p.tallied ∙ ap count_of_leaves e ∙ sym q.tallied in
    λ k. record {
      items = e k;
      operands = operands k;
      leaves = leaves k;
      formed = is_prop→PathP (λ k. pattern_items (e k) ≡ true) (λ k. Bool-set _ _) p.formed q.formed k;
      counted = is_prop→PathP (λ k. operands k ≡ count_of_operands (e k)) (λ k. ℕ_set _ _) p.counted q.counted k;
      tallied = is_prop→PathP (λ k. leaves k ≡ count_of_leaves (e k)) (λ k. ℕ_set _ _) p.tallied q.tallied k;
    }
