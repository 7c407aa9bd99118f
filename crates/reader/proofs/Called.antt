-- The operator of a text.
use Rattle.std.proofs.Common.{◌≡◌, ℕ, false, List, [], ◌∷◌, Some, None, Ok, Err, Bor, IsUtf8, Option, Result, is_ok, sym, refl, ap, ◌∙◌, subst, ⊎_elim, MatchOption, MatchResult}
use Rattle.std.specs.Result.{result_ok}
use Rattle.std.proofs.lemmas.Option.{same_Some, none-some}
use lib.Utf8.{encode}
use Rattle.std.proofs.lemmas.Bool.{cond-false, cases_Bool, false≢true}
use Rattle.operators.specs.declared.Unary.TheVariants.{Neg, Not}
use Rattle.operators.specs.declared.Binary.TheVariants.{Add, Sub, Mul, And, Or, Xor, Shl, Shr, Sar, Lt}
use Rattle.operators.specs.declared.Operator.{Operator}
use Rattle.operators.specs.declared.Operator.TheVariants.{Cnst, Var, One, Two}
use Rattle.operators.specs.Operators.{operator_name, all_operators}
use Rattle.description.specs.Names.{same_text}
use Rattle.description.proofs.Names.{same_text_true}
use Rattle.reader.specs.Words.{called_among, operator_called}

called_by_name : (o : Operator) → operator_called (operator_name o) ≡ Some o
called_by_name Cnst = refl
called_by_name Var = refl
called_by_name (One Neg) = refl
called_by_name (One Not) = refl
called_by_name (Two Add) = refl
called_by_name (Two Sub) = refl
called_by_name (Two Mul) = refl
called_by_name (Two And) = refl
called_by_name (Two Or) = refl
called_by_name (Two Xor) = refl
called_by_name (Two Shl) = refl
called_by_name (Two Shr) = refl
called_by_name (Two Sar) = refl
called_by_name (Two Lt) = refl

name_is_text : (o : Operator) → IsUtf8 (operator_name o)
unfolding encode
name_is_text Cnst = (operator_name Cnst, (refl, refl))
name_is_text Var = (operator_name Var, (refl, refl))
name_is_text (One Neg) = (operator_name (One Neg), (refl, refl))
name_is_text (One Not) = (operator_name (One Not), (refl, refl))
name_is_text (Two Add) = (operator_name (Two Add), (refl, refl))
name_is_text (Two Sub) = (operator_name (Two Sub), (refl, refl))
name_is_text (Two Mul) = (operator_name (Two Mul), (refl, refl))
name_is_text (Two And) = (operator_name (Two And), (refl, refl))
name_is_text (Two Or) = (operator_name (Two Or), (refl, refl))
name_is_text (Two Xor) = (operator_name (Two Xor), (refl, refl))
name_is_text (Two Shl) = (operator_name (Two Shl), (refl, refl))
name_is_text (Two Shr) = (operator_name (Two Shr), (refl, refl))
name_is_text (Two Sar) = (operator_name (Two Sar), (refl, refl))
name_is_text (Two Lt) = (operator_name (Two Lt), (refl, refl))

none_among : (os : List Operator) (t : List ℕ) → ((o : Operator) → operator_name o ≡ t → ⊥) → called_among os t ≡ None
none_among [] t f = refl
none_among (o ∷ os) t f =
    ⊎_elim (λ s. absurd (f o (same_text_true (operator_name o) t s)))
    (λ s. cond-false (same_text (operator_name o) t) (Some o) (called_among os t) s ∙ none_among os t f)
    (cases_Bool (same_text (operator_name o) t))

called_is : (t : List ℕ) (o : Option Operator) → MatchOption o ((p : Operator) → operator_name p ≡ t → ⊥) (λ p. operator_name p ≡ t) → o ≡ operator_called t
called_is t None f = sym (none_among all_operators t f)
called_is t (Some o) e = sym (called_by_name o) ∙ ap operator_called e

-- the answer of reading a name
pub parsed_is : {E : Type 0} (t : List ℕ) (r : Result Operator E) → MatchResult r (λ o. operator_name o ≡ t) (λ _. (o : Operator) → operator_name o ≡ t → ⊥) → result_ok r ≡ operator_called t
parsed_is t (Ok o) e = called_is t (Some o) e
parsed_is t (Err x) f = called_is t None f

-- bytes that are no text name no operator
pub no_text : {T E : Type 0} (P : T → Type 0) (Q : E → Type 0) (t : List ℕ) (r : Result T E) → MatchResult r P (λ e. (IsUtf8 t → ⊥) × Q e) → false ≡ is_ok r → None ≡ operator_called t
no_text P Q t (Ok s) m e = absurd (false≢true e)
no_text P Q t (Err x) m e = called_is t None (λ o named. m.0 (subst IsUtf8 named (name_is_text o)))

-- the text that bytes are
pub text_is : {E : Type 0} (P : Type 0) (Q : E → Type 0) (t : List ℕ) (r : Result (Bor (List ℕ)) E) (s : Bor (List ℕ)) → MatchResult r (λ s. (s.now ≡ t) × P) Q → Some s ≡ result_ok r → s.now ≡ t
text_is P Q t (Ok u) s m e = ap (λ (b : Bor (List ℕ)). b.now) (same_Some s u e) ∙ m.0
text_is P Q t (Err x) s m e = absurd (none-some s (sym e))
