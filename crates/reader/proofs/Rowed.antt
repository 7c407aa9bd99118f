-- The items of a rule in their row, one more and the last swapped.
use Rattle.std.proofs.Common.{◌≡◌, ◌+◌, ◌≤◌, List, [], ◌∷◌, ◌++◌, map, length, Some, None, Option, Result, MatchOption, MatchResult, sym, ap, ◌∙◌, arith}
use Rattle.std.proofs.lemmas.List.{length-map, length_push, map_push}
use Rattle.pattern.specs.declared.items.Item.{Item}
use Rattle.description.specs.Outlines.{constant, part_of}
use Rattle.description.proofs.Rows.{pushed}
use Rattle.reader.specs.Reading.{last_replaced}
use Rattle.reader.specs.States.{EndsInConstant}
use Rattle.reader.proofs.Parts.{replaced_last}

-- one item more, as the parts tell it
pub record Grown (before after : List Item) (x : Item) : Type 0 where
  pub parts : map part_of after ≡ map part_of before ++ part_of x ∷ []
  pub count : length after ≡ length before + 1

pub grown : (r : Result (Unit {0}) Item) (before after : List Item) (x : Item) → MatchResult r (λ _. after ≡ before ++ x ∷ []) (λ e. (e ≡ x) × (length before ≡ 7) × (after ≡ before)) → (length before ≡ 7 → ⊥) → Grown before after x
grown r before after x push room =
    let is = pushed r 7 before after x push room in
    record { parts = ap (map part_of) is ∙ map_push part_of before x; count = ap length is ∙ length_push before x }

-- the last item, a constant, swapped for another
pub record Swapped (before after : List Item) (x : Item) : Type 0 where
  pub parts : map part_of after ≡ last_replaced (map part_of before) (part_of x)
  pub count : length after ≡ length before

pub swapped : (o : Option Item) (r : Result (Unit {0}) Item) (before front after : List Item) (x : Item) → MatchOption o ((before ≡ []) × (front ≡ [])) (λ e. before ≡ front ++ e ∷ []) → MatchResult r (λ _. after ≡ front ++ x ∷ []) (λ e. (e ≡ x) × (length front ≡ 7) × (after ≡ front)) → EndsInConstant (map part_of before) → length before ≤ 7 → Swapped before after x
swapped None r before front after x none push ends few =
    absurd (omega (arith, ap length none.0, ap length ends.3, length_push ends.0 (constant ends.1 ends.2), length-map before part_of))
swapped (Some e) r before front after x was push ends few =
    let longer = ap length was ∙ length_push front e in
    let more = grown r front after x push (λ full. omega (arith, full, longer, few)) in record {
      parts =
          more.parts
          ∙ sym (ap (λ ys. last_replaced (map part_of ys) (part_of x)) was ∙ ap (λ ys. last_replaced ys (part_of x)) (map_push part_of front e)
          ∙ replaced_last (map part_of front) (part_of e) (part_of x));
      count = more.count ∙ sym longer;
    }
