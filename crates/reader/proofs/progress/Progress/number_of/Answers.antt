use Rattle.std.proofs.Common.{◌≡◌, ◌<◌, Some, None, length, IfSome, sym, ap, ◌∙◌, subst, arith}
use Rattle.std.specs.Result.{result_ok}
use Rattle.std.proofs.lemmas.Result.{Ok-from_Ok_iff}
use Rattle.reader.specs.States.{declarations_of}
use Rattle.reader.proofs.Declared.{found_is, found_below, found_small}
use Rattle.reader.proofs.progress.Progress.number_of.Goals as goal

pub returns-in_err-number-clause-number : goal.returns-in_err-number-clause-number
returns-in_err-number-clause-number c = c.from_residual.ensures ∙ found_is c.args.self.now _ None c.in_err-number.ensures

-- numbers of names are small
converted : (c : goal.After-ok) → c.ok.result ≡ Some c.in_ok-number.number
converted c =
    c.ok.ensures.value ∙ ap result_ok (Ok-from_Ok_iff c.try_from.result _ _ c.try_from.ensures (omega (arith, found_small c.args.self.now _ _ c.in_ok-number.ensures)))

pub returns-clause-number : goal.returns-clause-number
returns-clause-number c = converted c ∙ found_is c.args.self.now _ (Some c.in_ok-number.number) c.in_ok-number.ensures

pub returns-clause-below : goal.returns-clause-below
returns-clause-below c =
    let ds = declarations_of c.args.self.now in
    subst (λ o. IfSome o (λ i. i < length ds)) (sym (converted c)) (found_below c.args.self.now _ c.in_ok-number.number c.in_ok-number.ensures)
