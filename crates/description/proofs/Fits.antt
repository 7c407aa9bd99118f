-- Rules that fit some names fit more of them.
use Rattle.std.proofs.Common.{◌≡◌, ℕ, zero, suc, ◌<◌, ◌≤◌, true, ◌&&◌, eqb, ltb, List, [], ◌∷◌, ◌++◌, length, Some, None, Option, refl, ap, ◌∙◌, subst, arith, length-append}
use Rattle.std.proofs.lemmas.Bool.{and_from, and_parts, ltb-true, lt-ltb}
use Rattle.std.specs.List.{list_all}
use Rattle.std.proofs.lemmas.Option.{none-some}
use Rattle.pattern.specs.declared.names.ShortName.{ShortName}
use Rattle.pattern.specs.declared.items.Item.{Item}
use Rattle.pattern.specs.declared.items.Item.TheVariants.{Operand, Unary, Binary, Constant, Variable}
use Rattle.pattern.specs.Patterns.{items_of}
use Rattle.description.specs.declared.rules.Nonterminal.{Nonterminal}
use Rattle.description.specs.declared.rules.Rule.{Rule}
use Rattle.description.specs.Rules.{only_operand}
use Rattle.description.specs.Names.{place_letter}
use Rattle.description.specs.Fits.{operand_below, operands_below, chain_at_place, may_emit, rule_fits, all_fit}

below_more : (a m n : ℕ) → m ≤ n → ltb a m ≡ true → ltb a n ≡ true
below_more a m n h e = lt-ltb a n (omega (arith, ltb-true a m e))

operand_more : (m n : ℕ) (x : Item) → m ≤ n → operand_below m x ≡ true → operand_below n x ≡ true
operand_more m n (Operand a) h e = below_more a m n h e
operand_more m n (Unary o) h e = refl
operand_more m n (Binary o) h e = refl
operand_more m n (Constant i) h e = refl
operand_more m n Variable h e = refl

operands_more : (m n : ℕ) (xs : List Item) → m ≤ n → operands_below m xs ≡ true → operands_below n xs ≡ true
operands_more m n [] h e = refl
operands_more m n (x ∷ xs) h e =
    let both = and_parts (operand_below m x) (operands_below m xs) e in
    and_from _ _ (operand_more m n x h both.0) (operands_more m n xs h both.1)

place_more : (ns more : List Nonterminal) (i : ℕ) → i < length ns → place_letter (ns ++ more) i ≡ place_letter ns i
place_more [] more i h = absurd (omega arith)
place_more (n ∷ ns) more zero h = refl
place_more (n ∷ ns) more (suc i) h = place_more ns more i (omega arith)

-- the operand of a chain rule is declared
pub only_below : (n : ℕ) (xs : List Item) (b : ℕ) → operands_below n xs ≡ true → only_operand xs ≡ Some b → b < n
only_below n [] b e o = absurd (none-some b o)
only_below n (Operand a ∷ []) b e o =
    let same : a ≡ b = cc in
    subst (λ k. k < n) same (ltb-true a n (and_parts (ltb a n) true e).0)
only_below n (Operand a ∷ x ∷ xs) b e o = absurd (none-some b o)
only_below n (Unary u ∷ xs) b e o = absurd (none-some b o)
only_below n (Binary u ∷ xs) b e o = absurd (none-some b o)
only_below n (Constant i ∷ xs) b e o = absurd (none-some b o)
only_below n (Variable ∷ xs) b e o = absurd (none-some b o)

module _ (ns more : List Nonterminal) where
  chain_more : (a : ℕ) (o : Option ℕ) → a < length ns → ((b : ℕ) → o ≡ Some b → b < length ns) → chain_at_place ns a o ≡ true → chain_at_place (ns ++ more) a o ≡ true
  chain_more a None h k e = e
  chain_more a (Some b) h k e = ap (λ p. eqb p (place_letter (ns ++ more) b)) (place_more ns more a h) ∙ ap (eqb (place_letter ns a)) (place_more ns more b (k b refl)) ∙ e

  emit_more : (r : Rule) (e : Option ShortName) → r.left < length ns → operands_below (length ns) (items_of r.pattern) ≡ true → may_emit ns r e ≡ true → may_emit (ns ++ more) r e ≡ true
  emit_more r None h k e = chain_more r.left (only_operand (items_of r.pattern)) h (λ b o. only_below (length ns) (items_of r.pattern) b k o) e
  emit_more r (Some m) h k e = refl

  fits_more : (r : Rule) → rule_fits ns r ≡ true → rule_fits (ns ++ more) r ≡ true
  fits_more r e =
      let first = and_parts (ltb r.left (length ns)) _ e in
      let second = and_parts (operands_below (length ns) (items_of r.pattern)) _ first.1 in
      let longer : length ns ≤ length (ns ++ more) = omega (arith, length-append ns more) in
      and_from _ _ (below_more r.left _ _ longer first.0)
      (and_from _ _ (operands_more _ _ (items_of r.pattern) longer second.0)
      (emit_more r r.mnemonic (ltb-true _ _ first.0) second.0 second.1))

  pub all_more : (rs : List Rule) → all_fit ns rs ≡ true → all_fit (ns ++ more) rs ≡ true
  all_more [] e = refl
  all_more (r ∷ rs) e =
      let both = and_parts (rule_fits ns r) (all_fit ns rs) e in
      and_from _ _ (fits_more r both.0) (all_more rs both.1)

pub all_push : (ns : List Nonterminal) (rs : List Rule) (r : Rule) → all_fit ns rs ≡ true → rule_fits ns r ≡ true → all_fit ns (rs ++ r ∷ []) ≡ true
all_push ns [] r e f = and_from _ true f refl
all_push ns (q ∷ rs) r e f =
    let both = and_parts (rule_fits ns q) (all_fit ns rs) e in
    and_from _ _ both.0 (all_push ns rs r both.1 f)

pub fits_from : (ns : List Nonterminal) (r : Rule) {n : ℕ} → length ns ≡ n → r.left < n → operands_below n (items_of r.pattern) ≡ true → may_emit ns r r.mnemonic ≡ true → rule_fits ns r ≡ true
fits_from ns r {n} e h o m =
    and_from _ _ (lt-ltb _ _ (omega arith)) (and_from _ _ (ap (λ k. operands_below k (items_of r.pattern)) e ∙ o) m)

-- a walk over the items asks each of them
pub all_below : (n : ℕ) (xs : List Item) → list_all (operand_below n) xs ≡ operands_below n xs
all_below n [] = refl
all_below n (x ∷ xs) = ap (λ b. operand_below n x && b) (all_below n xs)
