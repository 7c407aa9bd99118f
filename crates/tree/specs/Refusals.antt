-- When a call is refused. `Applies k p` stands for the table of a call's conditions: number k applies at place p.
use Rattle.std.specs.Prelude.{ℕ, suc, ◌<◌, cond, List, [], ◌∷◌, Option, MatchOption, ◌==◌}

-- where a number stands in the order of checks
abbrev pub turn_of : List ℕ → ℕ → ℕ
turn_of [] k = 0
turn_of (j ∷ js) k = cond (j == k) 0 (suc (turn_of js k))

-- refused with number k at place p: that condition holds, and none of a number checked before k does
pub record RefusedBy (order : List ℕ) (Applies : ℕ → ℕ → Type 0) (k p : ℕ) : Type 0 where
  pub applies : Applies k p
  pub none_before : (j q : ℕ) → turn_of order j < turn_of order k → Applies j q → ⊥

-- granted: no condition holds
abbrev pub GrantedBy : (ℕ → ℕ → Type 0) → Type 0
GrantedBy Applies = (k p : ℕ) → Applies k p → ⊥

-- i is the first number below n of which P holds
pub record FirstBelow (n : ℕ) (P : ℕ → Type 0) (i : ℕ) : Type 0 where
  pub within : i < n
  pub holds : P i
  pub none_before : (j : ℕ) → j < i → P j → ⊥

-- P holds of no number below n
abbrev pub NoneBelow : ℕ → (ℕ → Type 0) → Type 0
NoneBelow n P = (j : ℕ) → j < n → P j → ⊥

-- the place, if any, at which number k applies
abbrev pub PlaceOf : (ℕ → ℕ → Type 0) → ℕ → Option ℕ → Type 0
PlaceOf Applies k r = MatchOption r ((p : ℕ) → Applies k p → ⊥) (λ p. Applies k p)
