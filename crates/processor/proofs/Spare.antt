-- Payloads past an operation's leaves are ignored.
use Rattle.std.proofs.Common.{◌≡◌, ℕ, ◌+◌, ◌<◌, ◌&&◌, List, [], ◌∷◌, length, get_or, take, drop, sym, refl, ap, ◌∙◌, arith, length-append}
use Rattle.std.proofs.lemmas.List.{get_or-drop, get_or-take}
use Rattle.operators.specs.Operators.{unary, binary}
use Rattle.pattern.specs.Shapes.{Shape, operand_shape, constant_shape, variable_shape, unary_shape, binary_shape, Leaf, operands_of, leaves_of, shape_value}
use Rattle.board.specs.Payloads.{leaf_admits, admits_all}

-- the same at the first n places
abbrev Agree : ℕ → List ℕ → List ℕ → Type 0
Agree n ws us = (i : ℕ) → i < n → get_or ws i 0 ≡ get_or us i 0

value_agrees : (p : Shape) (vs ws us σ : List ℕ) → Agree (length (leaves_of p)) ws us → shape_value p vs ws σ ≡ shape_value p vs us σ
value_agrees (operand_shape a) vs ws us σ h = refl
value_agrees (constant_shape i) vs ws us σ h = h 0 (omega arith)
value_agrees variable_shape vs ws us σ h = ap (λ k. get_or σ k 0) (h 0 (omega arith))
value_agrees (unary_shape o p) vs ws us σ h = ap (unary o) (value_agrees p vs ws us σ h)
value_agrees (binary_shape o p q) vs ws us σ h =
    let n = length (leaves_of p) in
    let both = length-append (leaves_of p) (leaves_of q) in
    let fore = value_agrees p vs ws us σ (λ i l. h i (omega arith)) in
    let hind = value_agrees q (drop (length (operands_of p)) vs) (drop n ws) (drop n us) σ (λ i l. get_or-drop n ws i 0 ∙ h (n + i) (omega arith) ∙ sym (get_or-drop n us i 0)) in
    λ i. binary o (fore i) (hind i)

pub value_spare : (p : Shape) (vs ws σ : List ℕ) → shape_value p vs (take (length (leaves_of p)) ws) σ ≡ shape_value p vs ws σ
value_spare p vs ws σ = value_agrees p vs _ ws σ (λ i l. get_or-take (length (leaves_of p)) ws i 0 l)

pub admits_spare : (ls : List Leaf) (ws : List ℕ) → admits_all ls (take (length ls) ws) ≡ admits_all ls ws
admits_spare [] ws = refl
admits_spare (l ∷ ls) [] = refl
admits_spare (l ∷ ls) (w ∷ ws) = ap (λ b. leaf_admits l w && b) (admits_spare ls ws)
