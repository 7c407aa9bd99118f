-- What the tests of a description's invariant mean.
use Rattle.std.proofs.Common.{◌≡◌, ℕ, ◌<◌, true, false, eqb, ltb, List, [], ◌∷◌, length, Some, None, sym, refl, ap, ◌∙◌, inl, inr, ⊎_elim, arith}
use Rattle.std.specs.List.{AllByRecursion}
use Rattle.std.proofs.lemmas.List.{nil_from_length}
use Rattle.std.proofs.lemmas.Bool.{and_parts, ltb-true, eqb-true, eqb-false, cond-true, cond-false, cases_Bool, both_ways}
use Rattle.pattern.specs.declared.items.Item.{Item}
use Rattle.pattern.specs.declared.items.Item.TheVariants.{Operand, Unary, Binary, Constant, Variable}
use Rattle.pattern.specs.Patterns.{items_of}
use Rattle.description.specs.declared.rules.Nonterminal.{Nonterminal}
use Rattle.description.specs.declared.rules.Rule.{Rule}
use Rattle.description.specs.declared.descriptions.Description.{Description}
use Rattle.description.specs.Rules.{only_operand}
use Rattle.description.specs.Names.{place_letter}
use Rattle.description.specs.Fits.{operand_below, operands_below, chain_at_place, may_emit, rule_fits, all_fit}
use Rattle.description.specs.Descriptions.{names_of, rules_of}
use Rattle.description.specs.Laws.{OperandDeclared, RuleKeeps, AllKeep}
use Rattle.description.proofs.Names.{distinct_from}

operand_declared : (n : ℕ) (x : Item) → operand_below n x ≡ true → OperandDeclared n x
operand_declared n (Operand a) e = ltb-true a n e
operand_declared n (Unary o) e = tt
operand_declared n (Binary o) e = tt
operand_declared n (Constant i) e = tt
operand_declared n Variable e = tt

operands_declared : (n : ℕ) (xs : List Item) → operands_below n xs ≡ true → AllByRecursion (OperandDeclared n) xs
operands_declared n [] e = tt
operands_declared n (x ∷ xs) e =
    let both = and_parts (operand_below n x) (operands_below n xs) e in
    (operand_declared n x both.0, operands_declared n xs both.1)

-- a pattern that is one operand, of the same PLACE
chain_means : (ns : List Nonterminal) (a : ℕ) (xs : List Item) → chain_at_place ns a (only_operand xs) ≡ true → (b : ℕ) × (xs ≡ Operand b ∷ []) × (place_letter ns a ≡ place_letter ns b)
chain_means ns a [] e = absurd (both_ways false refl e)
chain_means ns a (Operand b ∷ []) e = (b, refl, eqb-true _ _ e)
chain_means ns a (Operand b ∷ x ∷ xs) e = absurd (both_ways false refl e)
chain_means ns a (Unary o ∷ xs) e = absurd (both_ways false refl e)
chain_means ns a (Binary o ∷ xs) e = absurd (both_ways false refl e)
chain_means ns a (Constant i ∷ xs) e = absurd (both_ways false refl e)
chain_means ns a (Variable ∷ xs) e = absurd (both_ways false refl e)

rule_keeps : (ns : List Nonterminal) (r : Rule) → rule_fits ns r ≡ true → RuleKeeps ns r
rule_keeps ns r e =
    let first = and_parts (ltb r.left (length ns)) _ e in
    let second = and_parts (operands_below (length ns) (items_of r.pattern)) _ first.1 in
    record {
      left_declared = ltb-true _ _ first.0;
      operands_declared = operands_declared (length ns) (items_of r.pattern) second.0;
      renames = λ is. chain_means ns r.left (items_of r.pattern) (sym (ap (may_emit ns r) is) ∙ second.1);
    }

rules_keep : (ns : List Nonterminal) (rs : List Rule) → all_fit ns rs ≡ true → AllByRecursion (RuleKeeps ns) rs
rules_keep ns [] e = tt
rules_keep ns (r ∷ rs) e =
    let both = and_parts (rule_fits ns r) (all_fit ns rs) e in
    (rule_keeps ns r both.0, rules_keep ns rs both.1)

pub all_keep : AllKeep
all_keep d = record {
  at_most_16 = d.few_names;
  at_most_128 = d.few_rules;
  distinct = distinct_from (names_of d) d.once;
  rules_keep = rules_keep (names_of d) (rules_of d) d.fitting;
  starts =
      ⊎_elim
      (λ none. inl (nil_from_length (names_of d) (eqb-true _ _ none), cond-true _ None (Some d.start) none))
      (λ some. inr (d.start, cond-false _ None (Some d.start) some, started d some))
      (cases_Bool (eqb (length (names_of d)) 0));
}
  where
    started : (e : Description) → eqb (length (names_of e)) 0 ≡ false → e.start < length (names_of e)
    started e some =
        let nonzero = eqb-false (length (names_of e)) 0 some in
        omega (arith, e.started)
