-- Numbers and operators belong together one to one.
use Rattle.std.proofs.Common.{◌≡◌, ℕ, Bool, true, false, cond, eqb, List, [], ◌∷◌, Some, sym, refl, ap, ◌∙◌, arith, true-eqb}
use Rattle.operators.specs.declared.Unary.TheVariants.{Neg, Not}
use Rattle.operators.specs.declared.Binary.TheVariants.{Add, Sub, Mul, And, Or, Xor, Shl, Shr, Sar, Lt}
use Rattle.operators.specs.declared.Operator.{Operator}
use Rattle.operators.specs.declared.Operator.TheVariants.{Cnst, Var, One, Two}
use Rattle.operators.specs.Operators.{operator_number, operator_of, numbered_among, all_operators, NumberedOnce}

pub operator_of_number : (o : Operator) → operator_of (operator_number o) ≡ Some o
operator_of_number Cnst = refl
operator_of_number Var = refl
operator_of_number (One Neg) = refl
operator_of_number (One Not) = refl
operator_of_number (Two Add) = refl
operator_of_number (Two Sub) = refl
operator_of_number (Two Mul) = refl
operator_of_number (Two And) = refl
operator_of_number (Two Or) = refl
operator_of_number (Two Xor) = refl
operator_of_number (Two Shl) = refl
operator_of_number (Two Shr) = refl
operator_of_number (Two Sar) = refl
operator_of_number (Two Lt) = refl

number_among : (os : List Operator) (n : ℕ) (o : Operator) → numbered_among os n ≡ Some o → operator_number o ≡ n
number_among [] n o e = let z : ◌≡◌ {A = ℕ} 0 1 = cc in omega arith
number_among (p ∷ os) n o e = go (eqb n (operator_number p)) refl (number_among os n o)
  where
    go : (b : Bool) → eqb n (operator_number p) ≡ b → (numbered_among os n ≡ Some o → operator_number o ≡ n) → operator_number o ≡ n
    go true h ih =
        let is : Some p ≡ Some o = sym (ap (λ b. cond b (Some p) (numbered_among os n)) h) ∙ e in
        let same : p ≡ o = cc in
        sym (ap operator_number same) ∙ sym (true-eqb n (operator_number p) (sym h))
    go false h ih = ih (sym (ap (λ b. cond b (Some p) (numbered_among os n)) h) ∙ e)

pub number_of_operator : (n : ℕ) (o : Operator) → operator_of n ≡ Some o → operator_number o ≡ n
number_of_operator n o e = number_among all_operators n o e

pub numbered_once_lem : NumberedOnce
numbered_once_lem n o = (number_of_operator n o, λ e. ap operator_of (sym e) ∙ operator_of_number o)
