-- Which payloads an operation admits. The highest variable is 63.
use Rattle.std.specs.Prelude.{ℕ, Bool, true, false, ◌&&◌, List, [], ◌∷◌, nat_le}
use Rattle.pattern.specs.Ranges.{admitted}
use Rattle.pattern.specs.Shapes.{Leaf, word_within, variable_number}

abbrev pub leaf_admits : Leaf → ℕ → Bool
leaf_admits (word_within i) w = admitted i w
leaf_admits variable_number w = nat_le w 63

-- each leaf admits its payload, from the left; payloads past the leaves are spare
abbrev pub admits_all : List Leaf → List ℕ → Bool
admits_all [] ws = true
admits_all (l ∷ ls) [] = false
admits_all (l ∷ ls) (w ∷ ws) = leaf_admits l w && admits_all ls ws
