use Rattle.std.proofs.Common.{None, rules}
use Rattle.std.proofs.lemmas.Iterator.{YieldsList-from_slice}
use Rattle.std.proofs.lemmas.Iterator.Consumers.{YieldsList-from_enumerate, fold_from_yields_List}
use Rattle.cost.specs.Least.{lowered}
use Rattle.cost.proofs.Rows.{all_seen, index_of_least}
use Rattle.cost.proofs.least.least.Goals as goal

pub returns : goal.returns
returns g c =
    let folded = fold_from_yields_List _ (λ o p. lowered g.C.Cost.kind o p.0 p.1) None c.fold.result c.fold.ensures.ran
    (YieldsList-from_enumerate (YieldsList-from_slice c.args.row.now (cc)) (cc)) (λ a x b q h. search rules) in
    index_of_least g.C.Cost.kind c.args.row.now _ (λ p i h. search rules) c.fold.result c.map.result c.map.ensures.cases
    (all_seen g.C.Cost.kind c.args.row.now g.C.Cost.lawful c.fold.result folded)
