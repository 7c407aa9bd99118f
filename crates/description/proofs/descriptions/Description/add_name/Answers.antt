use Rattle.std.proofs.Common.{◌≡◌, ◌∷◌, [], ◌++◌, length, sym, ap, ◌∙◌, arith, length-append}
use Rattle.description.specs.Names.{declared_once, text_of}
use Rattle.description.specs.Fits.{all_fit}
use Rattle.description.specs.Descriptions.{names_of, rules_of}
use Rattle.description.proofs.Names.{distinct_from, once_from, distinct_push, absent_unless}
use Rattle.description.proofs.Fits.{all_more}
use Rattle.description.proofs.Rows.{pushed}
use Rattle.description.proofs.descriptions.Description.add_name.Goals as goal

pub invariant_of-self : goal.invariant_of-self
invariant_of-self c =
    let d = c.args.self.now in
    let gained : c.push.new.self ≡ names_of d ++ c.args.name ∷ [] = pushed c.push.result _ _ _ _ c.push.ensures (λ full. c.if-len-eq-NAME_LIMIT.false (c.len.ensures.value ∙ full)) in
    let longer = ap length gained ∙ length-append (names_of d) (c.args.name ∷ []) in
    let absent = absent_unless (text_of c.args.name) (names_of d) (sym c.if-declares.ensures) in record {
      few_names = omega (arith, longer, c.len.ensures.value, c.len.ensures.within);
      few_rules = d.few_rules;
      once = ap declared_once gained ∙ once_from _ (distinct_push (names_of d) _ (distinct_from (names_of d) d.once) absent);
      started = omega (arith, longer, d.started);
      fitting = ap (λ l. all_fit l (rules_of d)) gained ∙ all_more (names_of d) _ (rules_of d) d.fitting;
    }
