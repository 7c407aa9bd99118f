use Rattle.std.proofs.Common.{rules, ◌≡◌, ◌+◌, ◌-◌, ◌∷◌, [], ◌++◌, length, get_or, drop, sym, ap, ◌∙◌, append-nil, append_assoc, arith, length-append}
use Rattle.std.proofs.lemmas.List.{nil_from_length}
use Rattle.tree.specs.Stacks.{held}
use Rattle.tree.specs.Values.{top}
use Rattle.pattern.specs.ItemValues.{item_values, values_from}
use Rattle.pattern.specs.Items.{count_of_leaves, leaves_in, count_of_operands, operands_in}
use Rattle.pattern.proofs.ItemSteps.{operands_push, leaves_push}
use Rattle.pattern.proofs.ItemValues.{item_more, item_one}
use Rattle.pattern.proofs.values.value_of.Goals as goal

pub loop-item-init : goal.loop-item-init
loop-item-init c =
    let all : c.into_iter-item-iterator.result.iter.rest.now ≡ c.args.items.now = search rules in
    let none = c.new-stack.ensures.entries in (
      [],
      sym (append-nil c.into_iter-item-iterator.result.iter.rest.now ∙ all),
      none,
      c.counts-operand.ensures.0 ∙ sym (ap count_of_operands all),
      c.counts-operand.ensures.1 ∙ sym (ap count_of_leaves all),
      omega (arith, ap length none),
      omega (arith, ap length none, ap length c.new-stack.ensures.untouched),
    )

pub overflow_sub-operand : goal.overflow_sub-operand
overflow_sub-operand c =
    omega (arith, c.loop-item.invariant.3, ap count_of_operands c.in-Some.ensures.steps, operands_push c.next.new.self.iter.rest.now c.in-Some.item.now, c.operands-operand.ensures)

pub overflow_sub-leaf : goal.overflow_sub-leaf
overflow_sub-leaf c =
    omega (arith, c.loop-item.invariant.4, ap count_of_leaves c.in-Some.ensures.steps, leaves_push c.next.new.self.iter.rest.now c.in-Some.item.now, c.leaves-leaf.ensures)

-- one value at most for each item after those that are left
pub reduce-requires : goal.reduce-requires
reduce-requires c =
    let front = c.next.new.self.iter.rest.now in
    let known = c.loop-item.invariant in
    omega (arith, known.5, known.6, ap length known.1, length-append c.loop-item.item-iterator.iter.rest.now known.0, ap length c.in-Some.ensures.steps, length-append front (c.in-Some.item.now ∷ []), c.requires)

pub loop-item-preserved : goal.loop-item-preserved
loop-item-preserved c =
    let σ = c.args.setting.now in
    let vs = c.args.operands.now in
    let ws = c.args.payloads.now in
    let front = c.next.new.self.iter.rest.now in
    let x = c.in-Some.item.now in
    let known = c.loop-item.invariant in
    let after = known.0 in
    let steps = c.in-Some.ensures.steps in
    let o = c.loop-item.operand - c.operands-operand.result in
    let l = c.loop-item.leaf - c.leaves-leaf.result in
    let few = operands_push front x in
    let few' = leaves_push front x in
    let back : c.loop-item.operand ≡ o + operands_in x = omega (arith, few, known.3, ap count_of_operands steps, c.operands-operand.ensures) in
    let back' : c.loop-item.leaf ≡ l + leaves_in x = omega (arith, few', known.4, ap count_of_leaves steps, c.leaves-leaf.ensures) in
    let here : c.unwrap_or-value.result ≡ get_or vs o 0 = search rules in
    let there : c.unwrap_or-payload.result ≡ get_or ws l 0 = search rules in
    let before = known.2 ∙ (λ j. values_from σ after (drop (back j) vs) (drop (back' j) ws)) in
    let made = c.reduce.ensures.entries ∙ (λ j. item_values σ x (here j) (there j) (before j)) in (
      x ∷ after,
      known.1 ∙ ap (λ xs. xs ++ after) steps ∙ append_assoc front (x ∷ []) after,
      made ∙ sym (item_more σ x after vs ws o l),
      omega (arith, few, known.3, ap count_of_operands steps, c.operands-operand.ensures),
      omega (arith, few', known.4, ap count_of_leaves steps, c.leaves-leaf.ensures),
      omega (arith, ap length c.reduce.ensures.entries, item_one σ x c.unwrap_or-value.result c.unwrap_or-payload.result (held c.loop-item.stack), known.5),
      c.reduce.ensures.size ∙ known.6,
    )

pub returns : goal.returns
returns c =
    let σ = c.args.setting.now in
    let known = c.loop-item.invariant in
    let none : c.loop-item.item-iterator.iter.rest.now ≡ [] = nil_from_length _ c.in-None.ensures.steps.0 in
    let newest : c.unwrap_or.result ≡ top (held c.loop-item.stack) = search rules in
    let all : c.args.items.now ≡ known.0 = known.1 ∙ ap (λ xs. xs ++ known.0) none in
    let first : c.loop-item.operand ≡ 0 = known.3 ∙ ap count_of_operands none in
    let first' : c.loop-item.leaf ≡ 0 = known.4 ∙ ap count_of_leaves none in
    newest ∙ ap top (known.2 ∙ (λ j. values_from σ (sym all j) (drop (first j) c.args.operands.now) (drop (first' j) c.args.payloads.now)))
