-- The order of the types of a hierarchy, by its parts.
use Rattle.std.specs.Prelude.{ℕ, List, length}
use Rattle.kinds.specs.declared.types.order.Order.{Order}

-- for each type, the set of those at or below it
abbrev pub sets : Order → List ℕ
sets order = order.below.items

-- how many types there are
abbrev pub size : Order → ℕ
size order = length (sets order)
