-- A rule that has been read is taken by the description.
use Rattle.std.proofs.Common.{◌≡◌, ℕ, zero, suc, ◌+◌, ◌≤◌, true, cond, ◌&&◌, eqb, ltb, leb, List, [], ◌∷◌, ◌++◌, map, length, Some, None, Option, sym, refl, ap, ◌∙◌, subst, ap₂, arith}
use Rattle.std.specs.List.{AllByRecursion}
use Rattle.std.proofs.lemmas.List.{length-map, map_push}
use Rattle.std.proofs.lemmas.Bool.{and_from, and_parts, lt-ltb, le-ltb, both_ways, cond-true, cond-false}
use Rattle.lexer.specs.declared.Token.{Token}
use Rattle.pattern.specs.declared.items.Item.{Item}
use Rattle.pattern.specs.declared.items.Item.TheVariants.{Operand, Unary, Binary, Constant, Variable}
use Rattle.pattern.specs.Items.{item_parts, whole_from, count_of_operands, count_of_leaves, pattern_items}
use Rattle.pattern.specs.declared.names.ShortName.{ShortName}
use Rattle.pattern.specs.Patterns.{items_of}
use Rattle.description.specs.declared.descriptions.Description.{Description}
use Rattle.description.specs.declared.rules.Nonterminal.{Nonterminal}
use Rattle.description.specs.declared.rules.Rule.{Rule}
use Rattle.description.specs.declared.refusals.RuleRefusal.{RuleRefusal}
use Rattle.description.specs.declared.refusals.RuleRefusal.TheVariants.{TooMany, LeftUndeclared, OperandUndeclared, NotRename}
use Rattle.description.specs.Names.{place_letter}
use Rattle.description.specs.Rules.{only_operand}
use Rattle.description.specs.Fits.{operand_below, operands_below, chain_at_place, may_emit}
use Rattle.description.specs.Descriptions.{names_of, rules_of, start_of, RuleAdded, RuleDenied}
use Rattle.description.specs.Outlines.{part_of, declaration_of, production_of, emitted}
use Rattle.reader.specs.declared.progress.Progress.{Progress}
use Rattle.reader.specs.Words.{is_number, value_in}
use Rattle.reader.specs.Reading.{Draft, Awaits, Outcome, lies, renames, operands_among, leaves_among, within_limits, number_upto, rule_read, rule_end, cycles_number, goes, fails}
use Rattle.reader.specs.States.{declarations_of, stands, production_from}
use Rattle.reader.specs.Soundness.{OperandIn, Fitting, MayEmit, parts_in, whole_parts}

pub lies_is : (ns : List Nonterminal) (i : ℕ) → lies (map declaration_of ns) i ≡ place_letter ns i
lies_is [] i = refl
lies_is (n ∷ ns) zero = refl
lies_is (n ∷ ns) (suc i) = lies_is ns i

renames_is : (ns : List Nonterminal) (a : ℕ) (xs : List Item) → renames (map declaration_of ns) a (map part_of xs) ≡ chain_at_place ns a (only_operand xs)
renames_is ns a [] = refl
renames_is ns a (Operand b ∷ []) = ap₂ eqb (lies_is ns a) (lies_is ns b)
renames_is ns a (Operand b ∷ x ∷ xs) = refl
renames_is ns a (Unary o ∷ xs) = refl
renames_is ns a (Binary o ∷ xs) = refl
renames_is ns a (Constant i ∷ xs) = refl
renames_is ns a (Variable ∷ xs) = refl

-- items and the parts that they stand for
parts_are : (x : Item) → parts_in (part_of x) ≡ item_parts x
parts_are (Operand a) = refl
parts_are (Unary o) = refl
parts_are (Binary o) = refl
parts_are (Constant i) = refl
parts_are Variable = refl

whole_is : (n : ℕ) (xs : List Item) → whole_parts n (map part_of xs) ≡ whole_from n xs
whole_is n [] = refl
whole_is zero (x ∷ xs) = refl
whole_is (suc n) (x ∷ xs) = ap (λ k. whole_parts (k + n) (map part_of xs)) (parts_are x) ∙ whole_is (item_parts x + n) xs

operands_are : (xs : List Item) → operands_among (map part_of xs) ≡ count_of_operands xs
operands_are [] = refl
operands_are (Operand a ∷ xs) = ap (λ n. 1 + n) (operands_are xs)
operands_are (Unary o ∷ xs) = omega (arith, operands_are xs)
operands_are (Binary o ∷ xs) = omega (arith, operands_are xs)
operands_are (Constant i ∷ xs) = omega (arith, operands_are xs)
operands_are (Variable ∷ xs) = omega (arith, operands_are xs)

leaves_are : (xs : List Item) → leaves_among (map part_of xs) ≡ count_of_leaves xs
leaves_are [] = refl
leaves_are (Operand a ∷ xs) = omega (arith, leaves_are xs)
leaves_are (Unary o ∷ xs) = omega (arith, leaves_are xs)
leaves_are (Binary o ∷ xs) = omega (arith, leaves_are xs)
leaves_are (Constant i ∷ xs) = ap (λ n. 1 + n) (leaves_are xs)
leaves_are (Variable ∷ xs) = ap (λ n. 1 + n) (leaves_are xs)

pub one_pattern : (xs : List Item) → within_limits (map part_of xs) ≡ true → whole_parts 1 (map part_of xs) ≡ true → pattern_items xs ≡ true
one_pattern xs few whole =
    let ys = map part_of xs in
    let first = and_parts (leb (length ys) 7) (leb (operands_among ys) 2 && leb (leaves_among ys) 2) few in
    let second = and_parts (leb (operands_among ys) 2) (leb (leaves_among ys) 2) first.1 in
    and_from _ _ (sym (ap (λ n. leb n 7) (length-map xs part_of)) ∙ first.0)
    (and_from _ _ (sym (ap (λ n. leb n 2) (operands_are xs)) ∙ second.0)
    (and_from _ _ (sym (ap (λ n. leb n 2) (leaves_are xs)) ∙ second.1) (sym (whole_is 1 xs) ∙ whole)))

operand_fits : (n : ℕ) (x : Item) → OperandIn n (part_of x) → operand_below n x ≡ true
operand_fits n (Operand a) h = lt-ltb a n h
operand_fits n (Unary o) h = refl
operand_fits n (Binary o) h = refl
operand_fits n (Constant i) h = refl
operand_fits n Variable h = refl

operands_fit : (n : ℕ) (xs : List Item) → AllByRecursion (OperandIn n) (map part_of xs) → operands_below n xs ≡ true
operands_fit n [] h = refl
operands_fit n (x ∷ xs) h = and_from _ _ (operand_fits n x h.0) (operands_fit n xs h.1)

emits_fit : (g : Progress) (w : Awaits) (r : Rule) (e : Option ShortName) (d : Draft) → d.left_name ≡ r.left → d.so_far ≡ map part_of (items_of r.pattern) → MayEmit (stands g w).outline d (emitted e) → may_emit (names_of g.description) r e ≡ true
emits_fit g w r None d left parts h =
    sym (renames_is (names_of g.description) r.left (items_of r.pattern))
    ∙ sym (ap₂ (renames (declarations_of g)) left parts) ∙ h
emits_fit g w r (Some m) d left parts h = refl

-- a rule that stands for what was read is not refused
module _ (g : Progress) (w : Awaits) (r : Rule) (d : Draft) (e : Option (List ℕ)) (size cycles : ℕ) (same : production_of r ≡ production_from d e size cycles) where
  pub rule_fits : Fitting (stands g w).outline d → MayEmit (stands g w).outline d e → (x : RuleRefusal) → RuleDenied (names_of g.description) (rules_of g.description) r x → ⊥
  rule_fits fit may TooMany denied = omega (arith, denied, fit.room, length-map (rules_of g.description) production_of)
  rule_fits fit may LeftUndeclared denied =
      omega (arith, denied.1, fit.left_declared, ap (λ p. p.derives) same, length-map (names_of g.description) declaration_of)
  rule_fits fit may OperandUndeclared denied =
      let all = subst (λ xs. AllByRecursion (OperandIn (length (declarations_of g))) xs) (sym (ap (λ p. p.parts) same)) fit.operands_declared in
      let all' = subst (λ n. AllByRecursion (OperandIn n) (map part_of (items_of r.pattern))) (length-map (names_of g.description) declaration_of) all in
      both_ways _ denied.2 (operands_fit (length (names_of g.description)) (items_of r.pattern) all')
  rule_fits fit may NotRename denied =
      let may' = subst (MayEmit (stands g w).outline d) (sym (ap (λ p. p.emits) same)) may in
      both_ways _ denied.3 (emits_fit g w r r.mnemonic d (sym (ap (λ p. p.derives) same)) (sym (ap (λ p. p.parts) same)) may')

  pub rule_gained : (after : Description) → RuleAdded g.description r after → start_of after ≡ (stands g w).outline.begins → stands (record { description = after; line_start = g.line_start }) rule_end ≡ rule_read (stands g w) d e size cycles
  rule_gained after h start =
      let names = ap (map declaration_of) h.names_kept in
      let rules = ap (map production_of) h.rules_gained ∙ map_push production_of (rules_of g.description) r ∙ ap (λ p. map production_of (rules_of g.description) ++ p ∷ []) same in
      λ i. record {
        outline = record { declarations = names i; begins = start i; productions = rules i };
        line = g.line_start;
        awaits = rule_end;
      }

pub start_same : (d after : Description) → names_of after ≡ names_of d → after.start ≡ d.start → start_of after ≡ start_of d
start_same d after names start =
    ap₂ (λ (ns : List Nonterminal) s. cond (eqb (length ns) 0) None (Some s)) names start

pub upto_ok : (limit v : ℕ) (t : Token) (p : ℕ) → (is_number t ≡ true) × (value_in t ≡ v) × (v ≤ limit) → (o : Outcome) → number_upto limit t p o ≡ o
upto_ok limit v t p h o =
    let small : value_in t ≤ limit = omega (arith, h.1, h.2) in
    cond-true (is_number t) (cond (ltb limit (value_in t)) (fails 6 p) o) (fails 3 p) h.0
    ∙ cond-false (ltb limit (value_in t)) (fails 6 p) o (le-ltb limit (value_in t) small)

-- the last number of a rule
pub rule_taken : (g : Progress) (d : Draft) (e : Option (List ℕ)) (size cycles : ℕ) (r : Rule) (after : Description) (t : Token) (p : ℕ) → production_of r ≡ production_from d e size cycles → RuleAdded g.description r after → (is_number t ≡ true) × (value_in t ≡ cycles) × (cycles ≤ 999) → goes (stands (record { description = after; line_start = g.line_start }) rule_end) ≡ number_upto 999 t p (goes (rule_read (stands g (cycles_number size e d)) d e size (value_in t)))
rule_taken g d e size cycles r after t p same added h =
    let w = cycles_number size e d in
    ap goes (rule_gained g w r d e size cycles same after added (start_same g.description after added.names_kept added.start_kept))
    ∙ ap (λ v. goes (rule_read (stands g w) d e size v)) (sym h.1)
    ∙ sym (upto_ok 999 cycles t p h (goes (rule_read (stands g w) d e size (value_in t))))
