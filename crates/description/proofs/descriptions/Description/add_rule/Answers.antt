use Rattle.std.proofs.Common.{◌≡◌, ◌∷◌, [], ◌++◌, length, sym, ap, ◌∙◌, arith, length-append}
use Rattle.description.specs.Fits.{all_fit}
use Rattle.description.specs.Descriptions.{names_of, rules_of}
use Rattle.description.proofs.Fits.{all_push, fits_from}
use Rattle.description.proofs.Rows.{pushed}
use Rattle.description.proofs.descriptions.Description.add_rule.Goals as goal

pub invariant_of-self : goal.invariant_of-self
invariant_of-self c =
    let d = c.args.self.now in
    let fits = fits_from (names_of d) c.args.rule (sym c.len-3.ensures.value) (omega (arith, c.if-rule-len.false, c.len-2.ensures.value, c.len-3.ensures.value)) (sym c.if-not-operands_below.ensures) (sym c.if-not-may_emit.ensures) in
    let gained : c.push.new.self ≡ rules_of d ++ c.args.rule ∷ [] = pushed c.push.result _ _ _ _ c.push.ensures (λ full. c.if-len-eq-RULE_LIMIT.false (c.len.ensures.value ∙ full)) in
    let longer = ap length gained ∙ length-append (rules_of d) (c.args.rule ∷ []) in record {
      few_names = d.few_names;
      few_rules = omega (arith, longer, c.len.ensures.value, c.len.ensures.within);
      once = d.once;
      started = d.started;
      fitting = ap (all_fit (names_of d)) gained ∙ all_push (names_of d) (rules_of d) c.args.rule d.fitting fits;
    }
