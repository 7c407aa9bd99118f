-- The least of the entries so far, one entry more.
use Rattle.std.proofs.Common.{◌≡◌, ℕ, ◌+◌, ◌<◌, ◌≤◌, true, false, List, [], ◌∷◌, length, get_or, drop, Some, None, Option, sym, refl, ap, ◌∙◌, subst, ⊎_elim, arith, below_more, length-drop, get_or-drop, add-zero, MatchOption}
use Rattle.std.specs.List.{enumerate_from, fold}
use Rattle.std.specs.Option.{IsSomeAnd}
use Rattle.std.proofs.lemmas.List.{drop-drop, get_or_past}
use Rattle.std.proofs.lemmas.Option.{none-some, same_Some}
use Rattle.std.proofs.lemmas.Bool.{both_ways, cases_Bool, cases_lt, cond_both}
use Rattle.cost.specs.Kinds.{Kind, Lawful}
use Rattle.cost.specs.Least.{EntryIs, AllAbsent, FirstLeast, lowered}

module _ {C : Type 0} (k : Kind C) (row : List (Option C)) where
  -- the least of the entries below n, if there is any
  pub record LeastBelow (n : ℕ) (p : ℕ × C) : Type 0 where
    pub within : p.0 < n
    pub there : EntryIs row p.0 p.1
    pub least : (j : ℕ) → j < n → (c : C) → EntryIs row j c → k.at_most p.1 c ≡ true
    pub first : (j : ℕ) (c : C) → j < p.0 → EntryIs row j c → k.at_most c p.1 ≡ false

  abbrev pub AbsentBelow : ℕ → Type 0
  AbsentBelow n = (j : ℕ) → j < n → (c : C) → EntryIs row j c → ⊥

  abbrev pub SoFar : ℕ → Option (ℕ × C) → Type 0
  SoFar n o = MatchOption o (AbsentBelow n) (LeastBelow n)

  -- an absent entry changes nothing
  passed : (n : ℕ) (o : Option (ℕ × C)) → get_or row n None ≡ None → SoFar n o → SoFar (n + 1) o
  passed n None e s = below_more _ n s (λ c t. none-some c (sym e ∙ t))
  passed n (Some p) e s = record {
    within = omega (arith, s.within);
    there = s.there;
    least = below_more _ n s.least (λ c t. absurd (none-some c (sym e ∙ t)));
    first = s.first;
  }

  module _ (law : Lawful k) (n : ℕ) (c : C) (e : EntryIs row n c) where
    -- what is said of this entry's cost is said of any cost that stands there
    here : (P : C → Type 0) → P c → (d : C) → EntryIs row n d → P d
    here P h d t = subst P (same_Some c d (sym e ∙ t)) h

    -- the first entry that is there is the least
    alone : AbsentBelow n → LeastBelow (n + 1) (n, c)
    alone s = record {
      within = omega arith;
      there = e;
      least = below_more _ n (λ j l d t. absurd (s j l d t)) (here (λ x. k.at_most c x ≡ true) (law.reflexive c));
      first = λ j d l t. absurd (s j l d t);
    }

    -- an entry that is not below the least changes nothing
    kept : (p : ℕ × C) → k.at_most p.1 c ≡ true → LeastBelow n p → LeastBelow (n + 1) p
    kept p b s = record {
      within = omega (arith, s.within);
      there = s.there;
      least = below_more _ n s.least (here (λ x. k.at_most p.1 x ≡ true) b);
      first = s.first;
    }

    -- an entry below the least is the least
    taken : (p : ℕ × C) → k.at_most p.1 c ≡ false → LeastBelow n p → LeastBelow (n + 1) (n, c)
    taken p b s =
        let below : k.at_most c p.1 ≡ true = ⊎_elim (λ x. absurd (both_ways _ b x)) (λ y. y) (law.total p.1 c) in
        record {
          within = omega arith;
          there = e;
          least = below_more _ n (λ j l d t. law.transitive c p.1 d below (s.least j l d t)) (here (λ x. k.at_most c x ≡ true) (law.reflexive c));
          first = λ j d l t.
              ⊎_elim (λ x. absurd (both_ways _ b (law.transitive p.1 d c (s.least j l d t) x))) (λ y. y) (cases_Bool (k.at_most d c));
        }

  -- one entry more
  one_more : Lawful k → (n : ℕ) (o : Option (ℕ × C)) (x : Option C) → get_or row n None ≡ x → SoFar n o → SoFar (n + 1) (lowered k o n x)
  one_more law n o None e s = passed n o e s
  one_more law n None (Some c) e s = alone law n c e s
  one_more law n (Some p) (Some c) e s =
      cond_both (k.at_most p.1 c) (Some p) (Some (n, c)) (SoFar (n + 1)) (λ b. kept law n c e p b s) (λ b. taken law n c e p b s)

  -- all entries from n on
  all_more : Lawful k → (xs : List (Option C)) (n : ℕ) (o : Option (ℕ × C)) → drop n row ≡ xs → n ≤ length row → SoFar n o → SoFar (length row) (fold (λ p e. lowered k p e.0 e.1) o (enumerate_from n xs))
  all_more law [] n o e h s = subst (λ m. SoFar m o) (omega (arith, ap length e, length-drop n row)) s
  all_more law (x ∷ xs) n o e h s =
      let there : get_or row n None ≡ x = ap (λ i. get_or row i None) (sym (add-zero n)) ∙ sym (get_or-drop n row 0 None) ∙ ap (λ l. get_or l 0 None) e in
      let rest : drop (n + 1) row ≡ xs = sym (drop-drop 1 n row) ∙ ap (drop 1) e in
      all_more law xs (n + 1) (lowered k o n x) rest (omega (arith, ap length e, length-drop n row)) (one_more law n o x there s)

  pub all_seen : Lawful k → (o : Option (ℕ × C)) → o ≡ fold (λ p e. lowered k p e.0 e.1) None (enumerate_from 0 row) → SoFar (length row) o
  all_seen law o e = subst (SoFar (length row)) (sym e) (all_more law row 0 None refl (omega arith) (λ j l. absurd (omega arith)))

  inside : (j : ℕ) (c : C) → EntryIs row j c → j < length row
  inside j c t = ⊎_elim (λ h. h) (λ h. absurd (none-some c (sym (get_or_past row j None h) ∙ t))) (cases_lt j (length row))

  -- the index of the least of all entries, where Q is what gives the index
  pub index_of_least : (Q : ℕ × C → ℕ → Type 0) → ((p : ℕ × C) (i : ℕ) → Q p i → i ≡ p.0) → (o : Option (ℕ × C)) (r : Option ℕ) → MatchOption o (r ≡ None) (λ p. IsSomeAnd r (Q p)) → SoFar (length row) o → MatchOption r (AllAbsent row) (FirstLeast k row)
  index_of_least Q q None r e s = subst (λ x. MatchOption x (AllAbsent row) (FirstLeast k row)) (sym e) (λ j c t. s j (inside j c t) c t)
  index_of_least Q q (Some p) None e s = absurd e
  index_of_least Q q (Some p) (Some i) e s =
      let first : FirstLeast k row p.0 = record {
        within = s.within;
        cost = p.1;
        there = s.there;
        least = λ j c t. s.least j (inside j c t) c t;
        first = s.first;
      } in
      subst (FirstLeast k row) (sym (q p i e)) first
