-- A list's first element and the rest, as a slice pattern takes them apart.
use Rattle.std.proofs.Common.{◌≡◌, ℕ, ◌-◌, ◌<◌, false, ◌&&◌, eqb, List, [], ◌∷◌, length, get_or, take, drop, sym, refl, ap, ◌∙◌, arith}
use Rattle.std.specs.Str.{bytes_eq}
use Rattle.std.proofs.lemmas.List.{take_rest}
use Rattle.std.proofs.lemmas.Bool.{eq-eqb, ne_eqb}

abbrev pub rest_of : List ℕ → List ℕ
rest_of s = take (length s - 1) (drop 1 s)

pub front : (s : List ℕ) → 0 < length s → s ≡ get_or s 0 0 ∷ rest_of s
front [] h = absurd (omega arith)
front (x ∷ xs) h = ap (λ ys. x ∷ ys) (sym (take_rest (x ∷ xs) 1))

pub same_front : (s : List ℕ) (a : ℕ) (ys : List ℕ) → 0 < length s → get_or s 0 0 ≡ a → bytes_eq s (a ∷ ys) ≡ bytes_eq (rest_of s) ys
same_front s a ys h e =
    ap (λ xs. bytes_eq xs (a ∷ ys)) (front s h) ∙ ap (λ b. b && bytes_eq (rest_of s) ys) (eq-eqb (get_or s 0 0) a e)

pub other_front : (s : List ℕ) (a : ℕ) (ys : List ℕ) → 0 < length s → (get_or s 0 0 ≡ a → ⊥) → bytes_eq s (a ∷ ys) ≡ false
other_front s a ys h e =
    ap (λ xs. bytes_eq xs (a ∷ ys)) (front s h) ∙ ap (λ b. b && bytes_eq (rest_of s) ys) (ne_eqb (get_or s 0 0) a e)

pub no_front : (s : List ℕ) (a : ℕ) (ys : List ℕ) → length s < 1 → bytes_eq s (a ∷ ys) ≡ false
no_front [] a ys h = refl
no_front (x ∷ xs) a ys h = absurd (omega arith)

pub same_nothing : (s : List ℕ) → bytes_eq s [] ≡ eqb (length s) 0
same_nothing [] = refl
same_nothing (x ∷ xs) = sym (ne_eqb (length (x ∷ xs)) 0 (λ e. omega arith))
