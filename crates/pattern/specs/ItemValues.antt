-- A pattern's value item by item, from the last item to the first: the values of the parts that stand so far, the leftmost first.
use Rattle.std.specs.Prelude.{ℕ, List, [], ◌∷◌, drop, slice_index}
use Rattle.operators.specs.Operators.{unary, binary}
use Rattle.tree.specs.Values.{top, under}
use Rattle.pattern.specs.declared.items.Item.{Item}
use Rattle.pattern.specs.declared.items.Item.TheVariants.{Operand, Unary, Binary, Constant, Variable}
use Rattle.pattern.specs.Items.{operands_in, leaves_in}

-- what an item makes of the values after it, where v is the next operand's value and w the next payload
abbrev pub item_values : List ℕ → Item → ℕ → ℕ → List ℕ → List ℕ
item_values σ (Operand a) v w after = v ∷ after
item_values σ (Unary o) v w after = unary o (top after) ∷ under after
item_values σ (Binary o) v w after = binary o (top after) (top (under after)) ∷ under (under after)
item_values σ (Constant i) v w after = w ∷ after
item_values σ Variable v w after = slice_index σ w ∷ after

-- the values of the patterns that the items are, over operand values vs and payloads ws
abbrev pub values_from : List ℕ → List Item → List ℕ → List ℕ → List ℕ
values_from σ [] vs ws = []
values_from σ (x ∷ xs) vs ws =
    item_values σ x (slice_index vs 0) (slice_index ws 0) (values_from σ xs (drop (operands_in x) vs) (drop (leaves_in x) ws))
