-- The nodes of tries, as a walk over them sees them.
use Rattle.std.specs.Prelude.{ℕ, List, map, take, drop}
use Rattle.frozen_plan.specs.declared.plan_row.PlanRow.{PlanRow}
use Rattle.vote_spread.specs.declared.branch.Branch.{Branch}

-- The beginning of some rankings: how many candidates it has, the last of them, how many ballots begin so, how many
-- stems it and those below it are, and the candidates that follow on all its ballots where nothing else is below it.
pub record Stem : Type 0 where
  pub depth : ℕ
  pub candidate : ℕ
  pub ballots : ℕ
  pub skip : ℕ
  pub tail : List ℕ

-- a branch whose tail is among these
abbrev pub stem_of : (tails : List ℕ) → Branch → Stem
stem_of tails b =
    record { depth = b.depth; candidate = b.candidate; ballots = b.ballots; skip = b.skip; tail = take b.length (drop b.tail tails) }

abbrev pub stems_of : (tails : List ℕ) → List Branch → List Stem
stems_of tails branches = map (stem_of tails) branches

-- the stem of a row at a depth, with the candidates of further rows as its tail
abbrev pub stem_of_row : (depth : ℕ) → PlanRow → List PlanRow → Stem
stem_of_row depth row rows =
    record { depth = depth; candidate = row.candidate; ballots = row.ballots; skip = 1; tail = map (λ r. r.candidate) rows }

-- a stem that takes in those after it, `skip` together
abbrev pub closed_stem : Stem → (skip : ℕ) → Stem
closed_stem stem skip = record { depth = stem.depth; candidate = stem.candidate; ballots = stem.ballots; skip = skip; tail = stem.tail }
