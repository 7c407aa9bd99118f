-- Names by their number and operators by their name: what is looked up is what the grammar calls it.
use Rattle.std.proofs.Common.{◌≡◌, ℕ, zero, suc, ◌+◌, Bool, true, false, List, [], ◌∷◌, ◌++◌, is_some, Some, sym, refl, ap, ◌∙◌, subst, ⊎_elim, arith}
use Rattle.std.specs.List.{AllByRecursion}
use Rattle.std.proofs.ByRecursion.{All-push}
use Rattle.std.proofs.lemmas.Bool.{cond-true, cond-false, cases_Bool, both_ways}
use Rattle.operators.specs.declared.Unary.TheVariants.{Neg, Not}
use Rattle.operators.specs.declared.Binary.TheVariants.{Add, Sub, Mul, And, Or, Xor, Shl, Shr, Sar, Lt}
use Rattle.operators.specs.declared.Operator.{Operator}
use Rattle.operators.specs.declared.Operator.TheVariants.{Cnst, Var, One, Two}
use Rattle.operators.specs.Operators.{operator_name, all_operators}
use Rattle.description.specs.Names.{same_text}
use Rattle.description.specs.Outlines.{Declaration}
use Rattle.description.proofs.Names.{same_text_refl, same_text_true}
use Rattle.reader.specs.Words.{declared_from, called_among, operator_called}
use Rattle.reader.specs.Grammar.{Named, Apart}

pub same_from : (xs ys : List ℕ) → xs ≡ ys → same_text xs ys ≡ true
same_from xs ys e = subst (λ zs. same_text xs zs ≡ true) e (same_text_refl xs)

other_from : (xs ys : List ℕ) → (xs ≡ ys → ⊥) → same_text xs ys ≡ false
other_from xs ys f = ⊎_elim (λ t. absurd (f (same_text_true xs ys t))) (λ e. e) (cases_Bool (same_text xs ys))

-- no declaration has that text
abbrev pub Fresh : List ℕ → List Declaration → Type 0
Fresh t ds = AllByRecursion (λ e. e.spelled ≡ t → ⊥) ds

named_not_fresh : (ds : List Declaration) (a : ℕ) (t u : List ℕ) → Fresh u ds → Named ds a t → u ≡ t → ⊥
named_not_fresh [] a t u f n e = n
named_not_fresh (d ∷ ds) zero t u f n e = f.0 (n ∙ sym e)
named_not_fresh (d ∷ ds) (suc a) t u f n e = named_not_fresh ds a t u f.1 n e

pub found_from : (k : ℕ) (t : List ℕ) (ds : List Declaration) (a : ℕ) → Apart ds → Named ds a t → declared_from k t ds ≡ Some (k + a)
found_from k t [] a p n = absurd n
found_from k t (d ∷ ds) zero p n =
    let same : k ≡ k + 0 = omega arith in
    cond-true (same_text d.spelled t) (Some k) _ (same_from d.spelled t n) ∙ ap Some same
found_from k t (d ∷ ds) (suc a) p n =
    let same : suc k + a ≡ k + suc a = omega arith in
    cond-false (same_text d.spelled t) (Some k) _ (other_from d.spelled t (named_not_fresh ds a t d.spelled p.0 n))
    ∙ found_from (suc k) t ds a p.1 n ∙ ap Some same

pub found : (t : List ℕ) (ds : List Declaration) (a : ℕ) → Apart ds → Named ds a t → declared_from 0 t ds ≡ Some a
found t ds a p n = let same : 0 + a ≡ a = omega arith in found_from 0 t ds a p n ∙ ap Some same

named_from : (k : ℕ) (t : List ℕ) (ds : List Declaration) (i : ℕ) → declared_from k t ds ≡ Some i → (a : ℕ) × (k + a ≡ i) × Named ds a t
named_from k t [] i e = let z : ◌≡◌ {A = ℕ} 0 1 = cc in absurd (omega arith)
named_from k t (d ∷ ds) i e = go (same_text d.spelled t) refl (named_from (suc k) t ds i)
  where
    go : (b : Bool) → same_text d.spelled t ≡ b → (declared_from (suc k) t ds ≡ Some i → (a : ℕ) × (suc k + a ≡ i) × Named ds a t) → (a : ℕ) × (k + a ≡ i) × Named (d ∷ ds) a t
    go true s ih =
        let is : Some k ≡ Some i = sym (cond-true (same_text d.spelled t) (Some k) _ s) ∙ e in
        let same : k ≡ i = cc in
        (0, omega arith, same_text_true d.spelled t s)
    go false s ih =
        let rest = ih (sym (cond-false (same_text d.spelled t) (Some k) _ s) ∙ e) in
        (suc rest.0, omega (arith, rest.1), rest.2)

pub named : (t : List ℕ) (ds : List Declaration) (a : ℕ) → declared_from 0 t ds ≡ Some a → Named ds a t
named t ds a e =
    let n = named_from 0 t ds a e in
    let same : n.0 ≡ a = omega (arith, n.1) in
    subst (λ i. Named ds i t) same n.2

pub none_fresh : (k : ℕ) (t : List ℕ) (ds : List Declaration) → Fresh t ds → is_some (declared_from k t ds) ≡ false
none_fresh k t [] f = refl
none_fresh k t (d ∷ ds) f =
    ap is_some (cond-false (same_text d.spelled t) (Some k) _ (other_from d.spelled t f.0)) ∙ none_fresh (suc k) t ds f.1

pub fresh_none : (k : ℕ) (t : List ℕ) (ds : List Declaration) → is_some (declared_from k t ds) ≡ false → Fresh t ds
fresh_none k t [] e = tt
fresh_none k t (d ∷ ds) e =
    ⊎_elim (λ s. absurd (both_ways true (sym (ap is_some (cond-true (same_text d.spelled t) (Some k) _ s)) ∙ e) refl))
    (λ s. (
      λ same. both_ways (same_text d.spelled t) s (same_from d.spelled t same),
      fresh_none (suc k) t ds (sym (ap is_some (cond-false (same_text d.spelled t) (Some k) _ s)) ∙ e),
    ))
    (cases_Bool (same_text d.spelled t))

pub apart_push : (ds : List Declaration) (d : Declaration) → Apart ds → Fresh d.spelled ds → Apart (ds ++ d ∷ [])
apart_push [] d p f = (tt, tt)
apart_push (e ∷ ds) d p f = (All-push (λ g. g.spelled ≡ e.spelled → ⊥) ds d p.0 (λ s. f.0 (sym s)), apart_push ds d p.1 f.1)

all_there : (P : Declaration → Type 0) (ds es : List Declaration) (d : Declaration) → AllByRecursion P (ds ++ d ∷ es) → P d
all_there P [] es d h = h.0
all_there P (e ∷ ds) es d h = all_there P ds es d h.1

pub apart_fresh : (ds es : List Declaration) (d : Declaration) → Apart (ds ++ d ∷ es) → Fresh d.spelled ds
apart_fresh [] es d p = tt
apart_fresh (e ∷ ds) es d p = (λ s. all_there (λ g. g.spelled ≡ e.spelled → ⊥) ds es d p.0 (sym s), apart_fresh ds es d p.1)

pub called : (o : Operator) → operator_called (operator_name o) ≡ Some o
called Cnst = refl
called Var = refl
called (One Neg) = refl
called (One Not) = refl
called (Two Add) = refl
called (Two Sub) = refl
called (Two Mul) = refl
called (Two And) = refl
called (Two Or) = refl
called (Two Xor) = refl
called (Two Shl) = refl
called (Two Shr) = refl
called (Two Sar) = refl
called (Two Lt) = refl

name_among : (os : List Operator) (t : List ℕ) (o : Operator) → called_among os t ≡ Some o → t ≡ operator_name o
name_among [] t o e = let z : ◌≡◌ {A = ℕ} 0 1 = cc in absurd (omega arith)
name_among (p ∷ os) t o e = go (same_text (operator_name p) t) refl (name_among os t o)
  where
    go : (b : Bool) → same_text (operator_name p) t ≡ b → (called_among os t ≡ Some o → t ≡ operator_name o) → t ≡ operator_name o
    go true s ih =
        let is : Some p ≡ Some o = sym (cond-true (same_text (operator_name p) t) (Some p) _ s) ∙ e in
        let same : p ≡ o = cc in
        sym (same_text_true (operator_name p) t s) ∙ ap operator_name same
    go false s ih = ih (sym (cond-false (same_text (operator_name p) t) (Some p) _ s) ∙ e)

pub name_called : (t : List ℕ) (o : Operator) → operator_called t ≡ Some o → t ≡ operator_name o
name_called t o e = name_among all_operators t o e
