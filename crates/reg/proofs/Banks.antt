-- Where the processor keeps a register.
use Rattle.std.proofs.Common.{◌≡◌, ℕ, ◌+◌, ◌-◌, ◌<◌, List, ◌++◌, length, set, ap, ◌∙◌, arith}
use Rattle.std.proofs.lemmas.List.{set-append_left, set-append_right}
use Rattle.std.proofs.lemmas.Bool.{cond-true, cond-false, eq-eqb, ne_eqb}
use Rattle.reg.specs.Table.{address_place}
use Rattle.reg.specs.Designs.{slot}

-- those of PLACE A come after the eight of PLACE D
module _ (ds as' : List ℕ) (sized : length ds ≡ 8) (p i : ℕ) where
  back : 8 + i - 8 ≡ i
  back = omega arith

  module _ (is : p ≡ address_place) where
    address_slot : slot p i ≡ 8 + i
    address_slot = cond-true _ _ _ (eq-eqb p address_place is)

    pub address_set : (v : ℕ) → set (ds ++ as') (slot p i) v ≡ ds ++ set as' i v
    address_set v =
        ap (λ k. set (ds ++ as') k v) address_slot ∙ set-append_right ds as' 8 (8 + i) v sized (omega arith)
        ∙ ap (λ k. ds ++ set as' k v) back

  module _ (is-not : p ≡ address_place → ⊥) (within : i < 8) where
    data_slot : slot p i ≡ i
    data_slot = cond-false _ _ _ (ne_eqb p address_place is-not)

    pub data_set : (v : ℕ) → set (ds ++ as') (slot p i) v ≡ set ds i v ++ as'
    data_set v = ap (λ k. set (ds ++ as') k v) data_slot ∙ set-append_left ds as' i v (omega arith)
