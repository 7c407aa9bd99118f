-- One entry more keeps the rest of a row blank.
use Rattle.std.proofs.Common.{◌≡◌, ℕ, ◌+◌, ◌-◌, ◌<◌, ◌≤◌, List, ◌++◌, length, drop, replicate, length-append, slice_set, arith, sym, ap, ◌∙◌}
use Rattle.std.proofs.lemmas.List.{length-replicate, drop_more, drop-replicate, drop-set-lt, length-set}
use Rattle.std.proofs.Math.Seq.{drop-append_seam}
use Rattle.rows.specs.Rows.{Kept}
use Rattle.rows.specs.declared.Row.TheInside.{Inside}

pub Kept-push : {T : Type 0} (N : ℕ) (blank entry : T) (r : Inside T N) → Kept N blank r → r.len < N → Kept N blank record { entries = slice_set r.entries r.len entry; len = r.len + 1 }
Kept-push N blank entry r k room =
    record {
      few = omega arith;
      sized = length-set r.entries r.len entry ∙ k.sized;
      blank_after =
          drop-set-lt (r.len + 1) r.entries r.len entry (omega arith)
          ∙ sym (ap (drop 1) (drop_more r.entries r.len blank (rw k.sized room)))
          ∙ ap (drop 1) k.blank_after
          ∙ drop-replicate 1 (N - r.len) blank
          ∙ ap (λ n. replicate n blank) (omega arith);
    }

-- a row that is made of a list, at the front of places that were blank
pub Kept-from : {T : Type 0} (N : ℕ) (blank : T) (xs : List T) (n : ℕ) → n ≡ length xs → length xs ≤ N → Kept N blank record { entries = xs ++ drop n (replicate N blank); len = length xs }
Kept-from N blank xs n at few =
    let rest : drop n (replicate N blank) ≡ replicate (N - length xs) blank = drop-replicate n N blank ∙ ap (λ k. replicate (N - k) blank) at in
    record {
      few = few;
      sized = length-append xs (drop n (replicate N blank)) ∙ ap (λ ys. length xs + length ys) rest ∙ ap (λ k. length xs + k) (length-replicate (N - length xs) blank) ∙ omega (arith, few);
      blank_after = drop-append_seam xs (drop n (replicate N blank)) ∙ rest;
    }
