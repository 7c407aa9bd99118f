-- A first word that is written for operands as they wait can be carried out.
use Rattle.std.specs.Prelude.{◌≡◌, ℕ, ◌+◌, ◌*◌, ◌%◌, ◌≤◌, Bool, true, false, cond, not, ◌||◌, ◌==◌, refl}
use Rattle.std.proofs.Common.{sym, ap, ◌∙◌, arith}
use Rattle.std.proofs.lemmas.Bool.{le-ltb, eq-eqb, eqb-true, not_from_true}
use Rattle.reg.specs.Designs.{j_for, i_of, j_of, reg_misplaced}

-- where the last of n operands is at most number 7, j is at most 7
pub j_within : (i n : ℕ) → i ≤ 7 → i + n ≤ 8 → j_for i n ≤ 7
j_within i n h l = go (n == 2) (n == 1) refl
  where
    go : (b c : Bool) → (n == 2) ≡ b → cond b (i + 1) (cond c i 0) ≤ 7
    go true c e = omega (arith, eqb-true n 2 e)
    go false true e = omega arith
    go false false e = omega arith

module _ (op i j : ℕ) (low : i ≤ 7) (near : j ≤ 7) where
  pub i_back : i_of (op * 256 + (i * 16 + j) % 256) ≡ i
  i_back = omega arith

  pub j_back : j_of (op * 256 + (i * 16 + j) % 256) ≡ j
  j_back = omega arith

-- only j counts where i and j are at most 7
pub misplaced_by_j : (f n : ℕ) → i_of f ≤ 7 → j_of f ≤ 7 → reg_misplaced f n ≡ not (j_of f == j_for (i_of f) n)
misplaced_by_j f n h l = λ x. le-ltb 7 (i_of f) h x || (le-ltb 7 (j_of f) l x || not (j_of f == j_for (i_of f) n))

-- a first word with the right j can be carried out
pub well_placed : (f i n : ℕ) → i_of f ≡ i → j_of f ≡ j_for i n → i ≤ 7 → j_for i n ≤ 7 → reg_misplaced f n ≡ false
well_placed f i n is js h l =
    misplaced_by_j f n (omega arith) (omega arith)
    ∙ not_from_true _ (eq-eqb (j_of f) (j_for (i_of f) n) (js ∙ ap (λ k. j_for k n) (sym is)))
