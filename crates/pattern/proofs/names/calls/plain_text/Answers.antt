use Rattle.std.proofs.Common.{◌≡◌, ◌||◌, true, false, rules}
use Rattle.std.proofs.lemmas.Iterator.{cases_from_all, YieldsList-from_slice}
use borrow.Author.Tests.{tests}
use Rattle.pattern.specs.Names.{is_lower, is_digit}
use Rattle.pattern.proofs.Plain.{all_plain_by}
use Rattle.pattern.proofs.names.calls.plain_text.Goals as goal

pub returns : goal.returns
returns c =
    all_plain_by c.args.text.now c.all.result
    (cases_from_all _ _ _ (λ b. (is_lower b || is_digit b) ≡ true) (λ b. (is_lower b || is_digit b) ≡ false) c.all.ensures.ran (YieldsList-from_slice c.args.text.now cc) (λ b q k. search (rules, tests)) (λ b q k. search (rules, tests)))
