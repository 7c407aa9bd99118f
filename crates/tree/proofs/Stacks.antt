-- The list behind a stack, one entry on and one entry back.
use Rattle.std.proofs.Common.{◌≡◌, ℕ, ◌+◌, ◌-◌, ◌<◌, ◌≤◌, List, [], ◌∷◌, reverse, length, get_or, take, drop, set, sym, ap, ◌∙◌, arith}
use Rattle.std.proofs.lemmas.List.{take_more, take_more_set, drop_more, drop-drop, drop-set-lt, reverse-append}

module _ {T : Type 0} (xs : List T) where
  pub entries_more : (n : ℕ) (x : T) → n < length xs → reverse (take (n + 1) (set xs n x)) ≡ x ∷ reverse (take n xs)
  entries_more n x h = ap reverse (take_more_set xs n x h) ∙ reverse-append (take n xs) (x ∷ [])

  pub beyond_more : (n : ℕ) (x : T) → drop (n + 1) (set xs n x) ≡ drop 1 (drop n xs)
  beyond_more n x = drop-set-lt (n + 1) xs n x (omega arith) ∙ sym (drop-drop 1 n xs)

  pub entries_less : (n : ℕ) (d : T) → 0 < n → n ≤ length xs → reverse (take n xs) ≡ get_or xs (n - 1) d ∷ reverse (take (n - 1) xs)
  entries_less n d p h =
      let back : n ≡ n - 1 + 1 = omega arith in
      ap (λ k. reverse (take k xs)) back ∙ ap reverse (take_more xs (n - 1) d (omega arith)) ∙ reverse-append (take (n - 1) xs) (get_or xs (n - 1) d ∷ [])

  pub beyond_less : (n : ℕ) (d : T) → 0 < n → n ≤ length xs → drop (n - 1) xs ≡ get_or xs (n - 1) d ∷ drop n xs
  beyond_less n d p h =
      let back : n - 1 + 1 ≡ n = omega arith in
      drop_more xs (n - 1) d (omega arith) ∙ ap (λ k. get_or xs (n - 1) d ∷ drop k xs) back
