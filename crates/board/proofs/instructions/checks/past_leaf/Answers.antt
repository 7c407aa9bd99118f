use Rattle.std.proofs.Common.{◌&&◌, sym, ap, ◌∙◌, arith, ltb-false, ltb-true}
use Rattle.std.proofs.lemmas.Bool.{lt-ltb}
use Rattle.board.specs.Instructions.{leaf_list}
use Rattle.board.specs.Payloads.{admits_all}
use Rattle.board.proofs.Fronts.{rest_of}
use Rattle.board.proofs.Lists.{leaf_front}
use Rattle.board.proofs.instructions.checks.past_leaf.Goals as goal

pub returns-in-len1-up : goal.returns-in-len1-up
returns-in-len1-up c xs =
    let ws = c.args.payloads.now in
    let x = c.args.item in
    leaf_front x xs ws (lt-ltb 0 _ (omega (arith, c.leaves.ensures, c.if-leaves-eq0.false))) (omega (arith, ltb-true, ltb-false))
    ∙ ap (λ b. b && admits_all (leaf_list xs) (rest_of ws)) (sym c.leaf_admits.ensures ∙ c.if-leaf_admits.true)
