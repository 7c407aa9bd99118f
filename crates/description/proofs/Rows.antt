-- What the answers of a row tell.
use Rattle.std.proofs.Common.{◌≡◌, ℕ, List, [], ◌∷◌, ◌++◌, length, Ok, Err, Result, MatchResult}

-- a row that is not full takes an entry
pub pushed : {X : Type 0} (r : Result (Unit {0}) X) (n : ℕ) (before after : List X) (x : X) → MatchResult r (λ _. after ≡ before ++ x ∷ []) (λ e. (e ≡ x) × (length before ≡ n) × (after ≡ before)) → (length before ≡ n → ⊥) → after ≡ before ++ x ∷ []
pushed (Ok u) n before after x gained room = gained
pushed (Err e) n before after x full room = absurd (room full.1)
