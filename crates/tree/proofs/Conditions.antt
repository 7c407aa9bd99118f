-- The conditions of a statement's refusals: one node more, and the order of the checks.
use Rattle.std.proofs.Common.{◌≡◌, ℕ, ◌+◌, ◌-◌, ◌<◌, ◌≤◌, List, [], ◌∷◌, ◌++◌, length, take, refl, ap, ◌∙◌, arith}
use Rattle.std.proofs.lemmas.List.{take_more}
use Rattle.tree.specs.declared.nodes.Node.{Node}
use Rattle.tree.specs.Refusals.{NoneBelow, turn_of}
use Rattle.tree.specs.Statements.{StatementFails, StatementDenied, StatementGranted, FaultyAt, VariableOver, standing, parts_taken, node_at, too_many, faulty, no_tree, variable_over, target_over, statement_order}

standing_push : (n : ℕ) (xs : List Node) (x : Node) → standing n (xs ++ x ∷ []) ≡ standing n xs - parts_taken x + 1
standing_push n [] x = refl
standing_push n (y ∷ xs) x = standing_push (n - parts_taken y + 1) xs x

-- one node more
pub standing_more : (xs : List Node) (i : ℕ) → i < length xs → standing 0 (take (i + 1) xs) ≡ standing 0 (take i xs) - parts_taken (node_at xs i) + 1
standing_more xs i h = ap (standing 0) (take_more xs i _ h) ∙ standing_push 0 (take i xs) (node_at xs i)

module _ (v : ℕ) (xs : List Node) where
  pub none_11 : NoneBelow (length xs) (FaultyAt xs) → standing 0 xs ≡ 1 → (p : ℕ) → StatementFails v xs 11 p → ⊥
  none_11 clean s p (too_many e _ _) = omega arith
  none_11 clean s p (faulty _ f) = clean p f.within f.holds
  none_11 clean s p (no_tree _ _ _ n) = n s
  none_11 clean s p (variable_over e _) = omega arith
  none_11 clean s p (target_over e _ _ _) = omega arith

  pub none_13 : NoneBelow (length xs) (VariableOver xs) → v ≤ 63 → (p : ℕ) → StatementFails v xs 13 p → ⊥
  none_13 clean s p (too_many e _ _) = omega arith
  none_13 clean s p (faulty e _) = omega arith
  none_13 clean s p (no_tree e _ _ _) = omega arith
  none_13 clean s p (variable_over _ f) = clean p f.within f.holds
  none_13 clean s p (target_over _ _ _ over) = omega arith

  -- which of the three numbers a condition has
  by_number : {P : Type 0} {k p : ℕ} → StatementFails v xs k p → (k ≡ 12 → 256 < length xs → P) → (k ≡ 11 → StatementFails v xs 11 p → P) → (k ≡ 13 → StatementFails v xs 13 p → P) → P
  by_number (too_many e q l) f g h = f e l
  by_number (faulty e w) f g h = g e (faulty refl w)
  by_number (no_tree e q w n) f g h = g e (no_tree refl q w n)
  by_number (variable_over e w) f g h = h e (variable_over refl w)
  by_number (target_over e q w n) f g h = h e (target_over refl q w n)

  -- the checks run in the order 12, 11, 13
  pub denied_12 : 256 < length xs → StatementDenied v xs 12 256
  denied_12 long = record { applies = too_many refl refl long; none_before = λ j q lt f. omega arith }

  module _ (short : length xs ≤ 256) where
    pub denied_11 : (p : ℕ) → StatementFails v xs 11 p → StatementDenied v xs 11 p
    denied_11 p f = record {
      applies = f;
      none_before = λ j q lt g.
          by_number g
          (λ e long. omega arith)
          (λ e _. let same : turn_of statement_order j ≡ 1 = ap (turn_of statement_order) e in omega arith)
          (λ e _. let same : turn_of statement_order j ≡ 2 = ap (turn_of statement_order) e in omega arith);
    }

    pub denied_13 : ((p : ℕ) → StatementFails v xs 11 p → ⊥) → (p : ℕ) → StatementFails v xs 13 p → StatementDenied v xs 13 p
    denied_13 whole p f = record {
      applies = f;
      none_before = λ j q lt g.
          by_number g
          (λ e long. omega arith)
          (λ e w. whole q w)
          (λ e _. let same : turn_of statement_order j ≡ 2 = ap (turn_of statement_order) e in omega arith);
    }

    pub granted : ((p : ℕ) → StatementFails v xs 11 p → ⊥) → ((p : ℕ) → StatementFails v xs 13 p → ⊥) → StatementGranted v xs
    granted whole within k p f = by_number f (λ e long. omega arith) (λ e w. whole p w) (λ e w. within p w)
