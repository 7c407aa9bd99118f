use Rattle.std.proofs.Common.{rules, ◌≡◌, ◌<◌, ◌∷◌, [], ◌++◌, length, take, sym, ap, ◌∙◌, arith}
use Rattle.std.proofs.lemmas.List.{length-take-le}
use Rattle.tree.specs.Statements.{node_at}
use Rattle.matching.specs.Parts.{left_part, roots_after}
use Rattle.matching.proofs.LeftParts.{left_more, length_left, roots_more, roots_few}
use Rattle.matching.proofs.trees.finder.parted.Goals as goal

-- no more roots than nodes so far
pub left_of-requires : goal.left_of-requires
left_of-requires c =
    let xs = c.args.nodes.now in
    let i = c.loop-i.i in
    omega (arith, ap length c.loop-i.invariant.roots, roots_few (take i xs), length-take-le i xs (omega arith), c.loop-i-test.true, c.loop-i.invariant.room)

pub loop-i-preserved : goal.loop-i-preserved
loop-i-preserved c =
    let xs = c.args.nodes.now in
    let i = c.loop-i.i in
    let h = c.loop-i-test.true in
    let known = c.loop-i.invariant in
    let counted = length-take-le i xs (omega arith) in
    let x = node_at xs i in
    let few : length c.loop-i.left < 256 = omega (arith, ap length known.left, length_left 0 [] (take i xs), counted, h, c.requires.few_nodes) in
    let pushed : c.push.new.self ≡ c.loop-i.left ++ c.left_of.result ∷ [] = search rules in
    let part = c.left_of.ensures.value ∙ ap (λ rs. left_part rs x) known.roots in
    record {
      roots = c.left_of.ensures.entries ∙ ap (λ rs. roots_after i rs x) known.roots ∙ sym (roots_more xs i h counted);
      left = pushed ∙ (λ j. known.left j ++ part j ∷ []) ∙ sym (left_more xs i h);
      room = omega (arith, c.left_of.ensures.size, known.room);
    }
