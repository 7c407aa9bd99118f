-- What a pattern stands for.
use Rattle.std.specs.Prelude.{List}
use Rattle.pattern.specs.declared.items.Item.{Item}
use Rattle.pattern.specs.declared.patterns.Pattern.{Pattern}

-- its items
abbrev pub items_of : Pattern → List Item
items_of p = p.items
