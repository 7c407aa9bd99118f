-- What a short name stands for.
use Rattle.std.specs.Prelude.{ℕ, List}
use Rattle.pattern.specs.declared.names.ShortName.{ShortName}

-- its text
abbrev pub letters_of : ShortName → List ℕ
letters_of n = n.letters
