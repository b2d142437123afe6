-- Lines of ballots dealt out among shards that are numbered from 1.
use Rattle.std.specs.Prelude.{ℕ, ◌+◌, ◌%◌, ◌==◌, if◌then◌else◌, ⊤, List, [], ◌∷◌, ◌++◌, replicate, IsPermutation}
use Rattle.plain_ballots.specs.declared.ballot_line.BallotLine.{BallotLine}
use Rattle.frozen_plan.specs.Plan.{PlanRows, plan_ballots}

-- the ballots of the line at place i from 0, where it is dealt to shard s: to 1, 2, 3 and so on, and then to 1 again
abbrev pub dealt : (shards s i : ℕ) → BallotLine → List (List ℕ)
dealt shards s i line = if i % shards + 1 == s then replicate line.count line.ranking else []

-- the ballots of all lines from place i on that are dealt to shard s
abbrev pub share : (shards s i : ℕ) → List BallotLine → List (List ℕ)
share shards s i [] = []
share shards s i (line ∷ lines) = dealt shards s i line ++ share shards s (i + 1) lines

-- the plans stand for the shares of shard s and those after it
abbrev pub AreOfShares : (shards s : ℕ) → List BallotLine → List PlanRows → Type 0
AreOfShares shards s lines [] = ⊤
AreOfShares shards s lines (plan ∷ plans) =
    IsPermutation (plan_ballots plan.rows) (share shards s 0 lines) × AreOfShares shards (s + 1) lines plans
