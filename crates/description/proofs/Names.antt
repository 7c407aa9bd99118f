-- Numbers of texts among names, and that no name is declared twice.
use Rattle.std.proofs.Common.{◌≡◌, ℕ, suc, true, false, cond, not, ◌&&◌, eqb, nat_eq, List, [], ◌∷◌, ◌++◌, is_some, Some, None, Option, sym, refl, ap, ◌∙◌, subst, ⊎_elim, add-one}
use Rattle.std.proofs.ByRecursion.{All-append}
use Rattle.std.specs.List.{position_from}
use Rattle.std.proofs.lemmas.Option.{none-some}
use Rattle.std.specs.Cmp.Lexicographic.{pointwise}
use Rattle.std.proofs.lemmas.Bool.{and_from, and_parts, eq-eqb, eqb-true, cond-true, cond-false, cases_Bool, both_ways, not-true}
use Rattle.description.specs.declared.rules.Nonterminal.{Nonterminal}
use Rattle.description.specs.Laws.{Absent, Distinct}
use Rattle.description.specs.Names.{same_text, text_of, number_from, number_of_text, declared_once}

pub same_text_refl : (xs : List ℕ) → same_text xs xs ≡ true
same_text_refl [] = refl
same_text_refl (x ∷ xs) = and_from (eqb x x) _ (eq-eqb x x refl) (same_text_refl xs)

pub same_text_true : (xs ys : List ℕ) → same_text xs ys ≡ true → xs ≡ ys
same_text_true [] [] e = refl
same_text_true [] (y ∷ ys) e = absurd (both_ways false refl e)
same_text_true (x ∷ xs) [] e = absurd (both_ways false refl e)
same_text_true (x ∷ xs) (y ∷ ys) e =
    let both = and_parts (eqb x y) (same_text xs ys) e in
    λ i. eqb-true x y both.0 i ∷ same_text_true xs ys both.1 i

same_from : (xs ys : List ℕ) → xs ≡ ys → same_text xs ys ≡ true
same_from xs ys e = subst (λ zs. same_text xs zs ≡ true) e (same_text_refl xs)

other_from : (xs ys : List ℕ) → (xs ≡ ys → ⊥) → same_text xs ys ≡ false
other_from xs ys f = ⊎_elim (λ t. absurd (f (same_text_true xs ys t))) (λ e. e) (cases_Bool (same_text xs ys))

pub none_from : (k : ℕ) (t : List ℕ) (ns : List Nonterminal) → Absent t ns → number_from k t ns ≡ None
none_from k t [] a = refl
none_from k t (n ∷ ns) a =
    cond-false (same_text (text_of n) t) (Some k) _ (other_from (text_of n) t a.0) ∙ none_from (suc k) t ns a.1

pub absent_from : (k : ℕ) (t : List ℕ) (ns : List Nonterminal) → number_from k t ns ≡ None → Absent t ns
absent_from k t [] e = tt
absent_from k t (n ∷ ns) e =
    ⊎_elim (λ s. absurd (none-some k (sym e ∙ cond-true (same_text (text_of n) t) (Some k) _ s)))
    (λ s. (
      λ same. both_ways (same_text (text_of n) t) s (same_from (text_of n) t same),
      absent_from (suc k) t ns (sym (cond-false (same_text (text_of n) t) (Some k) _ s) ∙ e),
    ))
    (cases_Bool (same_text (text_of n) t))

-- the first name that a walk finds has the number
pub number_is : (t : List ℕ) (k : ℕ) (ns : List Nonterminal) → position_from (λ n. same_text (text_of n) t) k ns ≡ number_from k t ns
number_is t k [] = refl
number_is t k (n ∷ ns) = ap (cond (same_text (text_of n) t) (Some k)) (ap (λ i. position_from (λ m. same_text (text_of m) t) i ns) (add-one k) ∙ number_is t (suc k) ns)

-- names are compared by their texts
pub same_is : (xs ys : List ℕ) → pointwise nat_eq xs ys ≡ same_text xs ys
same_is [] [] = refl
same_is [] (y ∷ ys) = refl
same_is (x ∷ xs) [] = refl
same_is (x ∷ xs) (y ∷ ys) = ap (λ b. nat_eq x y && b) (same_is xs ys)

pub absent_unless : (t : List ℕ) (ns : List Nonterminal) → is_some (number_of_text t ns) ≡ false → Absent t ns
absent_unless t ns e = absent_from 0 t ns (none_is (number_of_text t ns) e)
  where
    none_is : (o : Option ℕ) → is_some o ≡ false → o ≡ None
    none_is None e = refl
    none_is (Some x) e = absurd (both_ways true e refl)

pub distinct_from : (ns : List Nonterminal) → declared_once ns ≡ true → Distinct ns
distinct_from [] e = tt
distinct_from (n ∷ ns) e =
    let both = and_parts (not (is_some (number_of_text (text_of n) ns))) (declared_once ns) e in
    (absent_unless (text_of n) ns (not-true _ both.0), distinct_from ns both.1)

pub once_from : (ns : List Nonterminal) → Distinct ns → declared_once ns ≡ true
once_from [] d = refl
once_from (n ∷ ns) d = and_from _ (declared_once ns) (ap (λ o. not (is_some o)) (none_from 0 (text_of n) ns d.0)) (once_from ns d.1)

pub distinct_push : (ns : List Nonterminal) (n : Nonterminal) → Distinct ns → Absent (text_of n) ns → Distinct (ns ++ n ∷ [])
distinct_push [] n d a = (tt, tt)
distinct_push (m ∷ ns) n d a =
    (All-append (λ k. text_of k ≡ text_of m → ⊥) ns (n ∷ []) d.0 (λ e. a.0 (sym e), tt), distinct_push ns n d.1 a.1)
