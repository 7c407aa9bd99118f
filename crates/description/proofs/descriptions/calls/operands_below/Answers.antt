use Rattle.std.proofs.Common.{◌∙◌, rules}
use Rattle.std.proofs.lemmas.Iterator.{YieldsList-from_slice}
use Rattle.std.proofs.lemmas.Iterator.Search.{all_from_yields_List}
use borrow.Author.Tests.{tests}
use Rattle.pattern.specs.Patterns.{items_of}
use Rattle.description.specs.Fits.{operand_below}
use Rattle.description.proofs.Fits.{all_below}
use Rattle.description.proofs.descriptions.calls.operands_below.Goals as goal

pub returns : goal.returns
returns c =
    let xs = items_of c.args.pattern.now in
    all_from_yields_List (operand_below c.args.count) _ _ _ c.all.ensures.ran (YieldsList-from_slice xs cc) (λ x b q k. search (rules, tests))
    ∙ all_below c.args.count xs
