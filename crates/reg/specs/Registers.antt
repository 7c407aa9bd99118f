-- The registers of a list of PLACES: those of its fronts and rests, and those that are left when one is set.
use Rattle.std.specs.Prelude.{◌≡◌, ℕ, zero, suc, ◌+◌, ◌<◌, ◌≤◌, Bool, true, false, cond, ◌≢◌, List, [], ◌∷◌, ◌++◌, length, take, drop, ◌==◌, slice_index, slice_set, refl}
use Rattle.std.proofs.Common.{ap, ◌∙◌, arith}
use Rattle.std.proofs.lemmas.List.{get_or-set_other}
use Rattle.reg.specs.Table.{address_place}
use Rattle.reg.specs.Designs.{slot, registers_from}

pub registers_length : (i : ℕ) (ps own : List ℕ) → length (registers_from i ps own) ≡ length ps
registers_length i [] own = refl
registers_length i (p ∷ ps) own = ap suc (registers_length (i + 1) ps own)

pub registers_drop : (n i : ℕ) (ps own : List ℕ) → drop n (registers_from i ps own) ≡ registers_from (i + n) (drop n ps) own
registers_drop zero i ps own = let same : i ≡ i + 0 = omega arith in ap (λ k. registers_from k ps own) same
registers_drop (suc n) i [] own = refl
registers_drop (suc n) i (p ∷ ps) own =
    let same : i + 1 + n ≡ i + suc n = omega arith in
    registers_drop n (i + 1) ps own ∙ ap (λ k. registers_from k (drop n ps) own) same

pub registers_take : (n i : ℕ) (ps own : List ℕ) → take n (registers_from i ps own) ≡ registers_from i (take n ps) own
registers_take zero i ps own = refl
registers_take (suc n) i [] own = refl
registers_take (suc n) i (p ∷ ps) own = ap (λ vs. slice_index own (slot p i) ∷ vs) (registers_take n (i + 1) ps own)

pub registers_append : (i : ℕ) (ps qs own : List ℕ) → registers_from i (ps ++ qs) own ≡ registers_from i ps own ++ registers_from (i + length ps) qs own
registers_append i [] qs own = let same : i ≡ i + 0 = omega arith in ap (λ k. registers_from k qs own) same
registers_append i (p ∷ ps) qs own =
    let same : i + 1 + length ps ≡ i + suc (length ps) = omega arith in
    ap (λ vs. slice_index own (slot p i) ∷ vs) (registers_append (i + 1) ps qs own ∙ ap (λ k. registers_from (i + 1) ps own ++ registers_from k qs own) same)

-- a slot is among the sixteen, and differs from that of a higher number
pub slot_within : (p i : ℕ) → i < 8 → slot p i < 16
slot_within p i h = go (p == address_place)
  where
    go : (b : Bool) → cond b (8 + i) i < 16
    go true = omega arith
    go false = omega arith

pub slots_differ : (p q i k : ℕ) → i < k → k < 8 → slot p i ≢ slot q k
slots_differ p q i k h l = go (p == address_place) (q == address_place)
  where
    go : (b c : Bool) → cond b (8 + i) i ≢ cond c (8 + k) k
    go true true e = omega arith
    go true false e = omega arith
    go false true e = omega arith
    go false false e = omega arith

-- a register of a higher number is none of theirs
pub registers_set : (i : ℕ) (ps own : List ℕ) (q k v : ℕ) → i + length ps ≤ k → k < 8 → registers_from i ps (slice_set own (slot q k) v) ≡ registers_from i ps own
registers_set i [] own q k v h l = refl
registers_set i (p ∷ ps) own q k v h l =
    let rest = registers_set (i + 1) ps own q k v (omega arith) l in
    let here = get_or-set_other own (slot q k) (slot p i) v 0 (slots_differ p q i k (omega arith) l) in
    λ x. here x ∷ rest x
