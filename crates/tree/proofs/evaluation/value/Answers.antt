use Rattle.std.proofs.Common.{rules, ◌≡◌, [], map, length, take, ap, ◌∙◌, arith}
use Rattle.std.proofs.lemmas.List.{take_all, length-take-le}
use Rattle.tree.specs.Stacks.{held}
use Rattle.tree.specs.Trees.{value_of}
use Rattle.tree.specs.Statements.{node_at}
use Rattle.tree.specs.Values.{top, values_after}
use Rattle.tree.proofs.Forests.{forest}
use Rattle.tree.proofs.Values.{values_more, values_few, value_whole}
use Rattle.tree.proofs.evaluation.value.Goals as goal

-- no more values than nodes so far
pub reduce-requires : goal.reduce-requires
reduce-requires c =
    let σ = c.args.setting.now in
    let done = take c.loop-node.node-index c.args.nodes.now in
    omega (arith, c.loop-node.invariant.1, ap length c.loop-node.invariant.0, values_few σ done, length-take-le c.loop-node.node-index c.args.nodes.now (omega arith), c.requires, c.loop-node-test.true)

pub loop-node-preserved : goal.loop-node-preserved
loop-node-preserved c =
    let σ = c.args.setting.now in
    let xs = c.args.nodes.now in
    let i = c.loop-node.node-index in (
      c.reduce.ensures.entries ∙ ap (values_after σ (node_at xs i)) c.loop-node.invariant.0 ∙ values_more σ xs i c.loop-node-test.true,
      c.reduce.ensures.size ∙ c.loop-node.invariant.1,
    )

pub returns : goal.returns
returns c t e =
    let newest : c.unwrap_or.result ≡ top (held c.loop-node.stack) = search rules in
    let σ = c.args.setting.now in
    let xs = c.args.nodes.now in
    newest ∙ ap top c.loop-node.invariant.0
    ∙ ap (λ l. top (map (value_of σ) (forest [] l))) (take_all c.loop-node.node-index xs c.loop-node-test.false) ∙ value_whole σ t xs e
