-- The order in which the sheets of a day are shown.
use Rattle.std.specs.Prelude.{◌-◌, List, ◌++◌, drop, length, take}

-- the last one, which is the office's own, and then the others in their order
abbrev pub own_first : {X : Type 0} → List X → List X
own_first items = drop (length items - 1) items ++ take (length items - 1) items
