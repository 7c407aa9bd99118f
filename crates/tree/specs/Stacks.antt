-- What a bounded stack holds, and what a push and a pop make of it.
use Rattle.std.specs.Prelude.{◌≡◌, ℕ, ◌+◌, ◌<◌, ◌≤◌, List, ◌∷◌, ◌++◌, reverse, length, take, drop}
use Rattle.tree.specs.declared.stack.Stack.{Stack}

module _ {T : Type 0} where
  -- the entries, the newest first
  abbrev pub held : Stack T → List T
  held s = reverse (take s.len s.memory.now)

  -- the memory beyond the entries: there is room while it is not empty
  abbrev pub beyond : Stack T → List T
  beyond s = drop s.len s.memory.now

  -- how many entries there is memory for in all
  abbrev pub capacity : Stack T → ℕ
  capacity s = length (held s) + length (beyond s)

  -- x is the newest entry, in the first place of the memory beyond; the rest of that memory is untouched
  pub record Pushed (s : Stack T) (x : T) (after : Stack T) : Type 0 where
    pub had_room : 0 < length (beyond s)
    pub entries : held after ≡ x ∷ held s
    pub untouched : beyond after ≡ drop 1 (beyond s)

  -- the newest entry left, and still lies in the memory beyond, which is otherwise untouched
  pub record Popped (s : Stack T) (x : T) (after : Stack T) : Type 0 where
    pub entries : held s ≡ x ∷ held after
    pub untouched : beyond after ≡ x ∷ beyond s

  -- the entries xs joined in turn, the last of them the newest, in the first places of the memory beyond, which is otherwise untouched
  pub record PushedAll (s : Stack T) (xs : List T) (after : Stack T) : Type 0 where
    pub had_room : length xs ≤ length (beyond s)
    pub entries : held after ≡ reverse xs ++ held s
    pub untouched : beyond after ≡ drop (length xs) (beyond s)
