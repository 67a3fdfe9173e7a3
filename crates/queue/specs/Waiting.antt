-- What a queue holds.
use Rattle.std.specs.Prelude.{ℕ, List, ◌++◌, length, take, drop}
use Rattle.queue.specs.declared.Queue.{Queue}

-- the list read from `head` on, and then from its start
abbrev pub rotated : {X : Type 0} → ℕ → List X → List X
rotated head slots = drop head slots ++ take head slots

module _ {X : Type 0} where
  -- the entries that wait, first the one that has waited longest
  unfoldable pub waiting : Queue X → List X
  waiting q = take q.len (rotated q.head q.slots.now)

  -- how many entries can wait at once
  unfoldable pub capacity : Queue X → ℕ
  capacity q = length q.slots.now
