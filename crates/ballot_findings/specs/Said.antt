-- A set of rankings.
use Rattle.std.specs.Prelude.{ℕ, Bool, List}
use Rattle.std.specs.Str.{bytes_eq}
use Rattle.std.specs.List.{list_any}
use Rattle.ballot_findings.specs.declared.said.Said.{Said}

-- Some ranking of the set is this one.
abbrev pub has : Said → (ranking : List ℕ) → Bool
has said ranking = list_any (λ key. bytes_eq ranking key.now) said.rankings.keys
