use Rattle.std.proofs.Common.{rules, ◌≡◌, ◌+◌, ◌<◌, ◌++◌, length, get_or, drop, sym, ap, ◌∙◌, subst, arith, length-append, length-drop}
use Rattle.std.proofs.ByRecursion.{All-append}
use Rattle.tree.specs.Stacks.{held, capacity}
use Rattle.tree.specs.Statements.{node_at}
use Rattle.matching.specs.Checked.{tree_nodes}
use Rattle.matching.specs.Found.{operands_found, payloads_found}
use Rattle.pattern.specs.Items.{count_of_leaves, count_of_operands}
use Rattle.matching.specs.Steps.{fits_node, found_from, part_nodes, operand_there, payload_there}
use Rattle.pattern.proofs.ItemSteps.{step, parts_few}
use Rattle.matching.proofs.Steps.{Nodes, step_on, next_inside, rest_inside, parts_inside, part_count, operand_found, payload_found}
use Rattle.matching.proofs.search.found_at.Goals as goal

pub loop-item-preserved : goal.loop-item-preserved
loop-item-preserved c =
    let t = c.args.tree.now in
    let xs = c.args.items.now in
    let i = c.loop-item.item-index in
    let x = c.item-item.result in
    let k = c.unwrap_or-at.result in
    let ks = held c.loop-item.waiting in
    let os = operands_found c.loop-item.found in
    let ws = payloads_found c.loop-item.found in
    let l = get_or t.left k 0 in
    let known = c.loop-item.invariant in
    let next : k ≡ get_or ks 0 0 = search rules in
    let others : held c.pop.new.self ≡ drop 1 ks = search rules in
    let size : capacity c.pop.new.self ≡ capacity c.loop-item.waiting = search rules in
    let here = ap (λ ys. node_at ys k) c.as_slice-nodes.ensures.value in
    let fit = c.if-not-fits.ensures ∙ ap (fits_node x) here in
    let kept = c.keep.ensures.payloads ∙ ap (λ y. ws ++ payload_there x y.payload) here in
    let rest = c.await_parts.ensures.entries ∙ ap (λ js. part_nodes x k l ++ js) others in
    let inside : k < length (tree_nodes t) = subst (λ j. j < length (tree_nodes t)) (sym next) (next_inside t ks (omega arith) known.inside) in
    let more = step count_of_operands xs i x c.loop-item-test.true c.item-item.is in
    let more' = step count_of_leaves xs i x c.loop-item-test.true c.item-item.is in
    record {
      same = known.same ∙ step (λ ys. found_from t ys ks os ws) xs i x c.loop-item-test.true c.item-item.is
          ∙ step_on t x (drop (i + 1) xs) ks os ws k next _ _ _ fit rest c.keep.ensures.operands kept;
      inside = subst (Nodes t) (sym rest)
          (All-append (λ j. j < length (tree_nodes t)) (part_nodes x k l) (drop 1 ks) (parts_inside t x k inside (sym fit)) (rest_inside t ks known.inside));
      few = omega (arith, ap length rest, length-append (part_nodes x k l) (drop 1 ks), part_count t x k l, parts_few x, length-drop 1 ks, known.few);
      size = c.await_parts.ensures.size ∙ size ∙ known.size;
      operands_fit = omega (arith, ap length c.keep.ensures.operands, length-append os (operand_there x k), operand_found x k, known.operands_fit, more);
      leaves_fit = omega (arith, ap length kept, length-append ws (payload_there x (node_at (tree_nodes t) k).payload), payload_found x (node_at (tree_nodes t) k).payload, known.leaves_fit, more');
    }
