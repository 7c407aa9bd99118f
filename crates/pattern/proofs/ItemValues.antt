-- A pattern's value item by item is the value of its shape.
use Rattle.std.proofs.Common.{◌≡◌, ℕ, ◌+◌, ◌≤◌, List, [], ◌∷◌, ◌++◌, length, get_or, drop, sym, refl, ap, ◌∙◌, append_assoc, append-nil, add-zero, arith, length-append}
use Rattle.std.proofs.lemmas.List.{drop-drop, get_or-drop}
use Rattle.tree.specs.Values.{top, under}
use Rattle.pattern.specs.declared.items.Item.{Item}
use Rattle.pattern.specs.declared.items.Item.TheVariants.{Operand, Unary, Binary, Constant, Variable}
use Rattle.pattern.specs.Items.{operands_in, leaves_in}
use Rattle.pattern.specs.ItemValues.{item_values, values_from}
use Rattle.pattern.specs.Shapes.{Shape, operand_shape, constant_shape, variable_shape, unary_shape, binary_shape, reading, operands_of, leaves_of, shape_value}

length-under : (vs : List ℕ) → length (under vs) ≤ length vs
length-under [] = omega arith
length-under (v ∷ vs) = omega arith

module _ (σ : List ℕ) where
  pub values-reading : (p : Shape) (xs : List Item) (vs ws : List ℕ) → values_from σ (reading p ++ xs) vs ws ≡ shape_value p vs ws σ ∷ values_from σ xs (drop (length (operands_of p)) vs) (drop (length (leaves_of p)) ws)
  values-reading (operand_shape a) xs vs ws = refl
  values-reading (constant_shape i) xs vs ws = refl
  values-reading variable_shape xs vs ws = refl
  values-reading (unary_shape o p) xs vs ws = ap (item_values σ (Unary o) (get_or vs 0 0) (get_or ws 0 0)) (values-reading p xs vs ws)
  values-reading (binary_shape o p q) xs vs ws =
      let m = length (operands_of p) in
      let n = length (leaves_of p) in
      let vs' = drop-drop (length (operands_of q)) m vs ∙ ap (λ k. drop k vs) (sym (length-append (operands_of p) (operands_of q))) in
      let ws' = drop-drop (length (leaves_of q)) n ws ∙ ap (λ k. drop k ws) (sym (length-append (leaves_of p) (leaves_of q))) in
      ap (item_values σ (Binary o) (get_or vs 0 0) (get_or ws 0 0))
      (ap (λ ys. values_from σ ys vs ws) (append_assoc (reading p) (reading q) xs)
      ∙ values-reading p (reading q ++ xs) vs ws
      ∙ ap (λ us. shape_value p vs ws σ ∷ us)
      (values-reading q xs (drop m vs) (drop n ws) ∙ (λ i. shape_value q (drop m vs) (drop n ws) σ ∷ values_from σ xs (vs' i) (ws' i))))

  pub value_whole : (p : Shape) (xs : List Item) (vs ws : List ℕ) → reading p ≡ xs → top (values_from σ xs vs ws) ≡ shape_value p vs ws σ
  value_whole p xs vs ws e =
      ap (λ ys. top (values_from σ ys vs ws)) (sym e ∙ sym (append-nil (reading p))) ∙ ap top (values-reading p [] vs ws)

  -- one item more, where o and l operands and leaves stand before it
  pub item_more : (x : Item) (xs : List Item) (vs ws : List ℕ) (o l : ℕ) → values_from σ (x ∷ xs) (drop o vs) (drop l ws) ≡ item_values σ x (get_or vs o 0) (get_or ws l 0) (values_from σ xs (drop (o + operands_in x) vs) (drop (l + leaves_in x) ws))
  item_more x xs vs ws o l =
      let o_is = get_or-drop o vs 0 0 ∙ ap (λ k. get_or vs k 0) (add-zero o) in
      let l-is = get_or-drop l ws 0 0 ∙ ap (λ k. get_or ws k 0) (add-zero l) in
      let vs' = drop-drop (operands_in x) o vs in
      let ws' = drop-drop (leaves_in x) l ws in
      λ i. item_values σ x (o_is i) (l-is i) (values_from σ xs (vs' i) (ws' i))

  pub item_one : (x : Item) (v w : ℕ) (after : List ℕ) → length (item_values σ x v w after) ≤ length after + 1
  item_one (Operand a) v w after = omega arith
  item_one (Unary o) v w after = omega (arith, length-under after)
  item_one (Binary o) v w after = omega (arith, length-under after, length-under (under after))
  item_one (Constant i) v w after = omega arith
  item_one Variable v w after = omega arith
