-- How the fields of a row keep its entries.
use Rattle.std.specs.Prelude.{◌≡◌, ℕ, ◌-◌, ◌≤◌, ◌++◌, length, take, drop, replicate}
use Rattle.std.proofs.Common.{sym, ap, ◌∙◌}
use Rattle.std.proofs.lemmas.List.{take-append-drop, length-take-le}
use Rattle.rows.specs.declared.Row.TheInside.{Inside}

-- the entries stand at the front, and what lies past them is blank
pub record Kept {T : Type 0} (N : ℕ) (blank : T) (r : Inside T N) : Type 0 where
  pub few : r.len ≤ N
  pub sized : length r.entries ≡ N
  pub blank_after : drop r.len r.entries ≡ replicate (N - r.len) blank

-- so the entries give the fields back
pub entries_again : {T : Type 0} (N : ℕ) (blank : T) (r : Inside T N) → Kept N blank r → record { entries = take r.len r.entries ++ replicate (N - length (take r.len r.entries)) blank; len = length (take r.len r.entries) } ≡ r
entries_again N blank r k =
    let counted : length (take r.len r.entries) ≡ r.len = length-take-le r.len r.entries (rw k.sized k.few) in
    let whole : take r.len r.entries ++ replicate (N - length (take r.len r.entries)) blank ≡ r.entries =
    ap (λ n. take r.len r.entries ++ replicate (N - n) blank) counted ∙ ap (λ rest. take r.len r.entries ++ rest) (sym k.blank_after) ∙ take-append-drop r.len r.entries
    in λ i. record { entries = whole i; len = counted i }
