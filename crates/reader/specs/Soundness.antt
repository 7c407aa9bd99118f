-- What holds of the state of a reading at every token, so that what is read fits into a description.
use Rattle.std.specs.Prelude.{◌≡◌, ℕ, zero, suc, ◌+◌, ◌<◌, ◌≤◌, Bool, true, false, List, [], ◌∷◌, ◌++◌, length, Some, None, Option, ◌==◌}
use Rattle.std.specs.List.{AllByRecursion}
use Rattle.description.specs.Outlines.{Part, operand, one_sided, two_sided, constant, variable, Outline}
use Rattle.reader.specs.Words.{declared_from}
use Rattle.reader.specs.Reading.{Bracket, Draft, Awaits, State, Outcome, header_end, directive, new_name, name_place, declaration_end, start_name, start_end, rule_or_end, left_colon, first_item, item, opening, after_item, after_constant, low_end, two_dots, high_end, mnemonic_word, size_number, cycles_number, rule_end, goes, ends, fails, within_limits, filled_one, renames}

-- how many parts an item has
abbrev pub parts_in : Part → ℕ
parts_in (operand a) = 0
parts_in (one_sided o) = 1
parts_in (two_sided o) = 2
parts_in (constant l h) = 0
parts_in variable = 0

-- whether the items are exactly n patterns, one after the other
abbrev pub whole_parts : ℕ → List Part → Bool
whole_parts n [] = n == 0
whole_parts zero (x ∷ xs) = false
whole_parts (suc n) (x ∷ xs) = whole_parts (parts_in x + n) xs

-- an operand is one of the first n names
abbrev pub OperandIn : ℕ → Part → Type 0
OperandIn n (operand a) = a < n
OperandIn n (one_sided o) = Unit {0}
OperandIn n (two_sided o) = Unit {0}
OperandIn n (constant l h) = Unit {0}
OperandIn n variable = Unit {0}

-- the items are, for each open bracket from the outermost, its operator and as many whole parts as it has
abbrev pub Laid : List Bracket → List Part → Type 0
Laid [] xs = xs ≡ []
Laid (b ∷ bs) xs =
    (before : List Part) × (x : Part) × (inner : List Part) × (xs ≡ before ++ x ∷ inner) × (parts_in x ≡ b.wants)
    × (whole_parts b.filled inner ≡ true) × Laid bs before

-- the same after an item: with no open bracket they are one whole pattern
abbrev pub LaidAfter : List Bracket → List Part → Type 0
LaidAfter [] xs = whole_parts 1 xs ≡ true
LaidAfter (b ∷ bs) xs = Laid (b ∷ bs) xs

-- the same before an operator of n parts whose bracket must follow
abbrev pub LaidBefore : ℕ → List Bracket → List Part → Type 0
LaidBefore n bs xs = (before : List Part) × (x : Part) × (xs ≡ before ++ x ∷ []) × (parts_in x ≡ n) × Laid bs before

-- the same after a constant, whose range may follow
abbrev pub LaidConstant : List Bracket → List Part → Type 0
LaidConstant bs xs =
    (before : List Part) × (low : ℕ) × (high : ℕ) × (xs ≡ before ++ constant low high ∷ [])
    × ((outer : List Bracket) × (bs ≡ filled_one outer) × Laid outer before)

-- the rule has room, its names are declared, and its items keep the limits
pub record Fitting (o : Outline) (d : Draft) : Type 0 where
  pub left_declared : d.left_name < length o.declarations
  pub operands_declared : AllByRecursion (OperandIn (length o.declarations)) d.so_far
  pub limits : within_limits d.so_far ≡ true
  pub room : length o.productions < 128

-- where nothing is emitted the rule is a rename
abbrev pub MayEmit : Outline → Draft → Option (List ℕ) → Type 0
MayEmit o d None = renames o.declarations d.left_name d.so_far ≡ true
MayEmit o d (Some m) = Unit {0}

abbrev pub SoundAt : Outline → Awaits → Type 0
SoundAt o header_end = Unit {0}
SoundAt o directive = Unit {0}
SoundAt o new_name = Unit {0}
SoundAt o (name_place t) = (length o.declarations < 16) × (declared_from 0 t o.declarations ≡ None)
SoundAt o declaration_end = Unit {0}
SoundAt o start_name = Unit {0}
SoundAt o start_end = Unit {0}
SoundAt o rule_or_end = Unit {0}
SoundAt o (left_colon d) = Fitting o d × Laid d.brackets d.so_far
SoundAt o (first_item d) = Fitting o d × Laid d.brackets d.so_far
SoundAt o (item d) = Fitting o d × Laid d.brackets d.so_far
SoundAt o (opening n p d) = Fitting o d × LaidBefore n d.brackets d.so_far
SoundAt o (after_item d) = Fitting o d × LaidAfter d.brackets d.so_far
SoundAt o (after_constant d) = Fitting o d × LaidConstant d.brackets d.so_far
SoundAt o (low_end d) = Fitting o d × LaidConstant d.brackets d.so_far
SoundAt o (two_dots l p d) = Fitting o d × LaidConstant d.brackets d.so_far
SoundAt o (high_end l p d) = Fitting o d × LaidConstant d.brackets d.so_far
SoundAt o (mnemonic_word d) = Fitting o d × (whole_parts 1 d.so_far ≡ true)
SoundAt o (size_number e d) = Fitting o d × (whole_parts 1 d.so_far ≡ true) × MayEmit o d e
SoundAt o (cycles_number n e d) = Fitting o d × (whole_parts 1 d.so_far ≡ true) × MayEmit o d e × (n ≤ 99)
SoundAt o rule_end = Unit {0}

abbrev pub Sound : State → Type 0
Sound s = SoundAt s.outline s.awaits

abbrev pub SoundAfter : Outcome → Type 0
SoundAfter (goes s) = Sound s
SoundAfter (ends o) = Unit {0}
SoundAfter (fails k p) = Unit {0}
