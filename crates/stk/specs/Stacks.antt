-- What a stack of values stands for.
use Rattle.std.specs.Prelude.{ℕ, List}
use Rattle.stk.specs.declared.stacks.ValueStack.{ValueStack}

-- its values, the newest last
abbrev pub stacked : ValueStack → List ℕ
stacked s = s.values
