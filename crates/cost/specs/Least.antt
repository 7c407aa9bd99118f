-- The least of a row of costs, some of which are absent.
use Rattle.std.specs.Prelude.{◌≡◌, ℕ, ◌<◌, true, false, cond, List, length, Some, None, Option, slice_index_or}
use Rattle.cost.specs.Kinds.{Kind}

module _ {C : Type 0} where
  -- entry j of the row is the cost c
  abbrev pub EntryIs : List (Option C) → ℕ → C → Type 0
  EntryIs row j c = slice_index_or row j None ≡ Some c

  -- no entry is there
  abbrev pub AllAbsent : List (Option C) → Type 0
  AllAbsent row = (j : ℕ) (c : C) → EntryIs row j c → ⊥

  -- entry i is there, at most every other, and above every one before it: the first of the least
  pub record FirstLeast (k : Kind C) (row : List (Option C)) (i : ℕ) : Type 0 where
    pub within : i < length row
    pub cost : C
    pub there : EntryIs row i cost
    pub least : (j : ℕ) (c : C) → EntryIs row j c → k.at_most cost c ≡ true
    pub first : (j : ℕ) (c : C) → j < i → EntryIs row j c → k.at_most c cost ≡ false

  -- the least so far with its index, after entry i: an entry takes its place only if it is below it
  abbrev pub lowered : Kind C → Option (ℕ × C) → ℕ → Option C → Option (ℕ × C)
  lowered k o i None = o
  lowered k None i (Some c) = Some (i, c)
  lowered k (Some p) i (Some c) = cond (k.at_most p.1 c) (Some p) (Some (i, c))
