-- Lists of items in reading order: an operator before its parts, and those from the left.
use Rattle.std.specs.Prelude.{ℕ, zero, suc, ◌+◌, Bool, false, ◌&&◌, List, [], ◌∷◌, length, ◌==◌, nat_le}
use Rattle.pattern.specs.declared.items.Item.{Item}
use Rattle.pattern.specs.declared.items.Item.TheVariants.{Operand, Unary, Binary, Constant, Variable}

-- how many parts an item has
abbrev pub item_parts : Item → ℕ
item_parts (Operand a) = 0
item_parts (Unary o) = 1
item_parts (Binary o) = 2
item_parts (Constant i) = 0
item_parts Variable = 0

-- whether the items are exactly n patterns, one after the other
abbrev pub whole_from : ℕ → List Item → Bool
whole_from n [] = n == 0
whole_from zero (x ∷ xs) = false
whole_from (suc n) (x ∷ xs) = whole_from (item_parts x + n) xs

-- how many of the items are operands, and how many leaves
abbrev pub operands_in : Item → ℕ
operands_in (Operand a) = 1
operands_in (Unary o) = 0
operands_in (Binary o) = 0
operands_in (Constant i) = 0
operands_in Variable = 0

abbrev pub leaves_in : Item → ℕ
leaves_in (Operand a) = 0
leaves_in (Unary o) = 0
leaves_in (Binary o) = 0
leaves_in (Constant i) = 1
leaves_in Variable = 1

abbrev pub count_of_operands : List Item → ℕ
count_of_operands [] = 0
count_of_operands (x ∷ xs) = operands_in x + count_of_operands xs

abbrev pub count_of_leaves : List Item → ℕ
count_of_leaves [] = 0
count_of_leaves (x ∷ xs) = leaves_in x + count_of_leaves xs

-- one pattern within the limits: 1 to 7 items, at most 2 operands and at most 2 leaves
abbrev pub pattern_items : List Item → Bool
pattern_items xs = nat_le (length xs) 7 && (nat_le (count_of_operands xs) 2 && (nat_le (count_of_leaves xs) 2 && whole_from 1 xs))
