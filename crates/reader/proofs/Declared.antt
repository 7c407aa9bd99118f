-- The declared names and the rules of a description, as the reader sees them.
use Rattle.std.proofs.Common.{◌≡◌, ℕ, suc, ◌+◌, ◌<◌, cond, List, [], ◌∷◌, map, length, is_some, Some, None, Option, sym, refl, ap, ◌∙◌, ⊎_elim, arith}
use Rattle.std.proofs.lemmas.List.{length-map}
use Rattle.std.proofs.lemmas.Option.{none-some, same_Some}
use Rattle.std.proofs.lemmas.Bool.{cond-true, cond-false, cases_Bool, both_ways}
use Rattle.description.specs.declared.rules.Nonterminal.{Nonterminal}
use Rattle.pattern.specs.Letters.{letters_of}
use Rattle.description.specs.declared.refusals.NameRefusal.{NameRefusal}
use Rattle.description.specs.declared.refusals.NameRefusal.TheVariants.{TooMany as TooManyNames, Declared}
use Rattle.description.specs.Names.{same_text, text_of, number_from}
use Rattle.description.specs.Descriptions.{names_of, NameDenied}
use Rattle.description.specs.Outlines.{declaration_of}
use Rattle.reader.specs.declared.progress.Progress.{Progress}
use Rattle.reader.specs.Words.{declared_from}
use Rattle.reader.specs.States.{declarations_of}

pub declared_is : (k : ℕ) (t : List ℕ) (ns : List Nonterminal) → declared_from k t (map declaration_of ns) ≡ number_from k t ns
declared_is k t [] = refl
declared_is k t (n ∷ ns) = ap (cond (same_text (text_of n) t) (Some k)) (declared_is (suc k) t ns)

pub number_below : (k : ℕ) (t : List ℕ) (ns : List Nonterminal) (i : ℕ) → number_from k t ns ≡ Some i → i < k + length ns
number_below k t [] i e = absurd (none-some i e)
number_below k t (n ∷ ns) i e =
    ⊎_elim (λ s. let same = same_Some k i (sym (cond-true (same_text (text_of n) t) (Some k) _ s) ∙ e) in omega arith)
    (λ s. let less = number_below (suc k) t ns i (sym (cond-false (same_text (text_of n) t) (Some k) _ s) ∙ e) in omega arith)
    (cases_Bool (same_text (text_of n) t))

-- the name of text t has the number i
module _ (g : Progress) (t : List ℕ) where
  pub found_is : (o : Option ℕ) → o ≡ number_from 0 t (names_of g.description) → o ≡ declared_from 0 t (declarations_of g)
  found_is o e = e ∙ sym (declared_is 0 t (names_of g.description))

  pub found_below : (i : ℕ) → Some i ≡ number_from 0 t (names_of g.description) → i < length (declarations_of g)
  found_below i e =
      omega (arith, number_below 0 t (names_of g.description) i (sym e), length-map (names_of g.description) declaration_of)

  pub found_small : (i : ℕ) → Some i ≡ number_from 0 t (names_of g.description) → i < 16
  found_small i e = omega (arith, found_below i e, length-map (names_of g.description) declaration_of, g.description.few_names)

-- a name that is not there and for which there is room is not refused
pub name_fits : (g : Progress) (n : Nonterminal) (e : NameRefusal) → length (declarations_of g) < 16 → declared_from 0 (letters_of n.name) (declarations_of g) ≡ None → NameDenied (names_of g.description) n e → ⊥
name_fits g n TooManyNames room none denied = omega (arith, denied, length-map (names_of g.description) declaration_of)
name_fits g n Declared room none denied =
    both_ways _ (ap is_some (sym (declared_is 0 (letters_of n.name) (names_of g.description)) ∙ none)) denied.1
