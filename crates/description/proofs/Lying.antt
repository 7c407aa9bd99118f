-- Where the values of names lie.
use Rattle.std.proofs.Common.{◌≡◌, ℕ, zero, suc, ◌≤◌, nat_eq, List, [], ◌∷◌, length, Some, None, Option, MatchOption, sym, refl, ap, ap₂, arith}
use Rattle.std.specs.Option.{option_map, option_eq}
use Rattle.std.proofs.lemmas.Bool.{ne_eqb}
use Rattle.pattern.specs.declared.places.Place.{Place}
use Rattle.pattern.specs.contracts.places.PlacePartialEq.TheImpl.{ghosts as place_comparison}
use Rattle.description.specs.declared.rules.Nonterminal.{Nonterminal}
use Rattle.description.specs.Descriptions.{ItemAt}
use Rattle.description.specs.Names.{place_letter}

letter_found : (ns : List Nonterminal) (i : ℕ) (n : Nonterminal) → ItemAt ns i n → n.place.letter ≡ place_letter ns i
letter_found [] i n h = absurd (omega (arith, h.within))
letter_found (m ∷ ns) zero n h = ap (λ (k : Nonterminal). k.place.letter) (sym (h.is m))
letter_found (m ∷ ns) (suc i) n h = letter_found ns i n (record { within = omega (arith, h.within); is = h.is })

letter_none : (ns : List Nonterminal) (i : ℕ) → length ns ≤ i → 0 ≡ place_letter ns i
letter_none [] i h = refl
letter_none (n ∷ ns) zero h = absurd (omega arith)
letter_none (n ∷ ns) (suc i) h = letter_none ns i (omega arith)

module _ (ns : List Nonterminal) where
  -- the place of name i, and none where there is no such name
  abbrev pub PlaceOf : ℕ → Option Place → Type 0
  PlaceOf i o = MatchOption o (length ns ≤ i) (λ p. p.letter ≡ place_letter ns i)

  pub placed : (i : ℕ) (o : Option Nonterminal) → MatchOption o (length ns ≤ i) (λ n. ItemAt ns i n) → PlaceOf i (option_map (λ n. n.place) o)
  placed i None h = h
  placed i (Some n) h = letter_found ns i n h

  -- a letter is never 0
  pub together : (a b : ℕ) (o p : Option Place) → PlaceOf a o → PlaceOf b p → option_eq place_comparison.eq o p ≡ nat_eq (place_letter ns a) (place_letter ns b)
  together a b None None h k = ap₂ nat_eq (letter_none ns a h) (letter_none ns b k)
  together a b None (Some q) h k = sym (ne_eqb _ _ (λ e. omega (arith, e, letter_none ns a h, k, q.from)))
  together a b (Some p) None h k = sym (ne_eqb _ _ (λ e. omega (arith, e, letter_none ns b k, h, p.from)))
  together a b (Some p) (Some q) h k = ap₂ nat_eq h k
