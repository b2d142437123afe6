-- Where a ranking keeps its ranks.
use Rattle.std.specs.Prelude.{ℕ, ◌≤◌, List, take}
use Rattle.plain_ballots.specs.declared.ranks.Ranks.{Ranks}
use Rattle.plain_ballots.specs.declared.ranks.Ranks.TheVariants.{Few, Many}

-- the ranks that are kept: the first of a few, or all of many
abbrev pub kept : Ranks → List ℕ
kept (Few len ranks) = take len ranks
kept (Many ranks) = ranks.items

-- so many of the few are there
abbrev pub IsWithin : Ranks → Type 0
IsWithin (Few len ranks) = len ≤ 7
IsWithin (Many ranks) = Unit {0}
