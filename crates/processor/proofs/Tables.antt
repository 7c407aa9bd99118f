-- The operation of an opcode is the one that is listed with it.
use Rattle.std.proofs.Common.{◌≡◌, ℕ, suc, Bool, true, false, not, ◌&&◌, eqb, List, [], ◌∷◌, map, Option, Some, None, IsSomeAnd, IsOkAnd, Result, Ok, Err, MatchOption, MatchResult, sym, refl, ap, ◌∙◌, subst, arith}
use Rattle.std.specs.List.{ContainsAt as Has, AllByRecursion}
use Rattle.std.specs.Result.{result_ok}
use Rattle.std.specs.Str.{bytes_eq}
use Rattle.std.proofs.lemmas.Slice.Eq.{bytes_eq-Decides}
use Rattle.std.proofs.lemmas.Bool.{eqb-true, eqb-false, eq-eqb, ne_eqb, cond-true, cond-false, and_parts, not-true, both_ways}
use Rattle.pattern.specs.declared.items.Item.{Item}
use Rattle.pattern.specs.declared.patterns.Pattern.{Pattern}
use Rattle.pattern.specs.Items.{pattern_items}
use Rattle.pattern.specs.Patterns.{items_of}
use Rattle.board.specs.declared.instructions.Instruction.{Instruction}
use Rattle.board.specs.Instructions.{Denotes, InstructionNumbered}
use Rattle.board.specs.Machines.{Machine, Operation, first_numbered, operation_among, operation_of}
use Rattle.board.specs.Laws.{NoTwoShare}

-- x is among the list
pub data Among {X : Type 0} (x : X) : List X → Type 0 where
  at_head : (y : X) (ys : List X) → y ≡ x → Among x (y ∷ ys)
  in_tail : (y : X) (ys : List X) → Among x ys → Among x (y ∷ ys)

pub has_among : {X : Type 0} (x : X) (xs : List X) → Among x xs → Has xs x
has_among x [] a = elim a [ ]
has_among x (y ∷ ys) (at_head _ _ e) = (0, omega arith, λ d. e)
has_among x (y ∷ ys) (in_tail _ _ a) = let h = has_among x ys a in (suc h.0, omega (arith, h.1), h.2)

pub all_among : {X : Type 0} (P : X → Type 0) (xs : List X) → ((x : X) → Among x xs → P x) → AllByRecursion P xs
all_among P [] f = tt
all_among P (x ∷ xs) f = (f x (at_head x xs refl), all_among P xs (λ y a. f y (in_tail x xs a)))

pub among_all : {X : Type 0} (P : X → Type 0) (xs : List X) (x : X) → AllByRecursion P xs → Among x xs → P x
among_all P [] x h a = elim a [ ]
among_all P (y ∷ ys) x h (at_head _ _ e) = subst P e h.0
among_all P (y ∷ ys) x h (in_tail _ _ a) = among_all P ys x h.1 a

-- what is found is listed, with that opcode
pub found_among : (os : List Operation) (n : ℕ) (o : Operation) → operation_among os n ≡ Some o → Among o os × (o.opcode_number ≡ n)
found_among [] n o e = absurd (let z : ◌≡◌ {A = ℕ} 0 1 = cc in omega arith)
found_among (q ∷ os) n o e = go (found_among os n o) (eqb n q.opcode_number) refl
  where
    go : (operation_among os n ≡ Some o → Among o os × (o.opcode_number ≡ n)) → (b : Bool) → eqb n q.opcode_number ≡ b → Among o (q ∷ os) × (o.opcode_number ≡ n)
    go later true h =
        let s : Some q ≡ Some o = sym (cond-true _ _ _ h) ∙ e in
        let same : q ≡ o = cc in
        (at_head q os same, ap (λ x. x.opcode_number) (sym same) ∙ sym (eqb-true n q.opcode_number h))
    go later false h =
        let r = later (sym (cond-false _ _ _ h) ∙ e) in
        (in_tail q os r.0, r.1)

-- what is listed is found by its opcode
pub listed_found : (os : List Operation) (o : Operation) → NoTwoShare (λ x. x.opcode_number) os → Among o os → operation_among os o.opcode_number ≡ Some o
listed_found [] o once a = elim a [ ]
listed_found (q ∷ os) o once (at_head _ _ e) =
    cond-true _ _ _ (eq-eqb o.opcode_number q.opcode_number (ap (λ x. x.opcode_number) (sym e))) ∙ ap Some e
listed_found (q ∷ os) o once (in_tail _ _ a) =
    cond-false _ _ _ (ne_eqb o.opcode_number q.opcode_number (among_all _ os o once.0 a)) ∙ listed_found os o once.1 a

-- a table made from numbered lines
module _ {O : Type 0} (f : O → Operation) (n : ℕ) where
  pub line_missing : (os : List O) → first_numbered (λ o. (f o).opcode_number) os n ≡ None → operation_among (map f os) n ≡ None
  line_missing [] e = refl
  line_missing (o ∷ os) e = go (line_missing os) (eqb n (f o).opcode_number) refl
    where
      go : (first_numbered (λ o. (f o).opcode_number) os n ≡ None → operation_among (map f os) n ≡ None) → (b : Bool) → eqb n (f o).opcode_number ≡ b → operation_among (map f (o ∷ os)) n ≡ None
      go later true h = let s : Some o ≡ None = sym (cond-true _ _ _ h) ∙ e in let z : ◌≡◌ {A = ℕ} 0 1 = cc in absurd (omega arith)
      go later false h = cond-false _ _ _ h ∙ later (sym (cond-false _ _ _ h) ∙ e)

  pub line_found : (os : List O) (o : O) → first_numbered (λ q. (f q).opcode_number) os n ≡ Some o → operation_among (map f os) n ≡ Some (f o)
  line_found [] o e = let z : ◌≡◌ {A = ℕ} 0 1 = cc in absurd (omega arith)
  line_found (q ∷ os) o e = go (line_found os o) (eqb n (f q).opcode_number) refl
    where
      go : (first_numbered (λ q. (f q).opcode_number) os n ≡ Some o → operation_among (map f os) n ≡ Some (f o)) → (b : Bool) → eqb n (f q).opcode_number ≡ b → operation_among (map f (q ∷ os)) n ≡ Some (f o)
      go later true h = let s : Some q ≡ Some o = sym (cond-true _ _ _ h) ∙ e in let same : q ≡ o = cc in cond-true _ _ _ h ∙ ap (λ x. Some (f x)) same
      go later false h = cond-false _ _ _ h ∙ later (sym (cond-false _ _ _ h) ∙ e)

-- A table's rules by tests that compute over the whole table.

abbrev pub every : (Operation → Bool) → List Operation → Bool
every t [] = true
every t (o ∷ os) = t o && every t os

pub every_all : (t : Operation → Bool) (os : List Operation) → every t os ≡ true → AllByRecursion (λ o. t o ≡ true) os
every_all t [] e = tt
every_all t (o ∷ os) e = let both = and_parts (t o) _ e in (both.0, every_all t os both.1)

pub every_found : (t : Operation → Bool) (os : List Operation) → every t os ≡ true → (n : ℕ) (o : Operation) → operation_among os n ≡ Some o → t o ≡ true
every_found t os e n o found = among_all _ os o (every_all t os e) (found_among os n o found).0

-- no two share f, where `same` finds them different
module _ {X : Type 0} (same : X → X → Bool) (differ : (x y : X) → same x y ≡ false → x ≡ y → ⊥) (f : Operation → X) where
  abbrev pub alone : Operation → List Operation → Bool
  alone o [] = true
  alone o (q ∷ os) = not (same (f q) (f o)) && alone o os

  abbrev pub all_alone : List Operation → Bool
  all_alone [] = true
  all_alone (o ∷ os) = alone o os && all_alone os

  alone_from : (o : Operation) (os : List Operation) → alone o os ≡ true → AllByRecursion (λ q. f q ≡ f o → ⊥) os
  alone_from o [] e = tt
  alone_from o (q ∷ os) e =
      let both = and_parts (not (same (f q) (f o))) _ e in
      (differ (f q) (f o) (not-true _ both.0), alone_from o os both.1)

  pub no_two_share : (os : List Operation) → all_alone os ≡ true → NoTwoShare f os
  no_two_share [] e = tt
  no_two_share (o ∷ os) e = let both = and_parts (alone o os) _ e in (alone_from o os both.0, no_two_share os both.1)

pub once_by_number : (os : List Operation) → all_alone eqb eqb-false (λ o. o.opcode_number) os ≡ true → NoTwoShare (λ o. o.opcode_number) os
once_by_number = no_two_share eqb eqb-false (λ o. o.opcode_number)

pub texts_differ : (x y : List ℕ) → bytes_eq x y ≡ false → x ≡ y → ⊥
texts_differ x y e h = both_ways _ e ((bytes_eq-Decides x y).1 h)

pub once_by_text : (os : List Operation) → all_alone bytes_eq texts_differ (λ o. o.letters) os ≡ true → NoTwoShare (λ o. o.letters) os
once_by_text = no_two_share bytes_eq texts_differ (λ o. o.letters)

-- what holds of a value holds of the one that is there
pub some_of : {X : Type 0} (A : Type 0) (P : X → Type 0) (r : Option X) (x : X) → MatchOption r A P → r ≡ Some x → P x
some_of A P r x h e = subst (λ o. MatchOption o A P) e h

-- where the items make a pattern, it is made
pub pattern_made : {E : Type 0} (r : Result Pattern E) (xs ys : List Item) → MatchResult r (λ p. items_of p ≡ xs) (λ _. pattern_items xs ≡ false) → pattern_items xs ≡ true → xs ≡ ys → IsOkAnd r (λ p. items_of p ≡ ys)
pattern_made (Err e) xs ys h whole is = absurd (both_ways (pattern_items xs) h whole)
pattern_made (Ok p) xs ys h whole is = h ∙ is

-- an instruction with all its parts is that of its opcode
pub numbered : (m : Machine) (n : ℕ) (o : Operation) → operation_of m n ≡ Some o → (r : Option Instruction) → IsSomeAnd r (λ i. Denotes i o) → InstructionNumbered m n r
numbered m n o e None h = absurd h
numbered m n o e (Some i) h = (o, e, h)

-- what was tried is what there is
pub tried : {O E : Type 0} (found : Option O) (r : Result O E) → MatchResult r (λ o. found ≡ Some o) (λ e. found ≡ None) → found ≡ result_ok r
tried found (Ok o) h = h
tried found (Err e) h = h
