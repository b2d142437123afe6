-- What is expected within ballots, and what an item leads to there. Ballot files and batches share it.
use Rattle.std.specs.Prelude.{ℕ, ◌+◌, List, [], ◌∷◌, ◌++◌, ◌==◌, if◌then◌else◌, nat_le, Ok, Err}
use Rattle.std.specs.List.{list_any}
use Rattle.plain_ballots.specs.Ballots.{ballot_count}
use Rattle.plain_ballots.specs.declared.ballot_line.BallotLine.{BallotLine}
use Rattle.input_text.specs.declared.fault_kind.FaultKind.{FaultKind}
use Rattle.input_text.specs.declared.fault_kind.FaultKind.TheVariants.{BadNumber, NoSuchCandidate, Repeated}
use Rattle.input_text.specs.Token.{Item, Number}
use Rattle.input_text.specs.Judged.{Judged, Progress, GoesOn, Ends, carried}

-- ---- one ballot line

-- a candidate or 0, after these candidates
abbrev pub at_number : ℕ → List ℕ → ℕ → Judged (Progress (List ℕ) (List ℕ))
at_number candidates ranks n =
    if n == 0 then Ok (Ends ranks)
    else (if nat_le n candidates then (if list_any (λ r. r == n) ranks then Err Repeated else Ok (GoesOn (ranks ++ n ∷ [])))
    else Err NoSuchCandidate)

abbrev pub at_rank : ℕ → List ℕ → Item → Judged (Progress (List ℕ) (List ℕ))
at_rank candidates ranks (Number n) = at_number candidates ranks n
at_rank candidates ranks item = Err BadNumber

-- ---- all ballot lines

-- how many ballots may stand there, and why more are refused
pub record Limit : Type 0 where
  pub most : ℕ
  pub refusal : FaultKind

-- Expected is a count, after these lines; or a candidate or 0, after these lines, a count and these candidates.
pub data Lines : Type 0 where
  Between : (lines : List BallotLine) → Lines
  Within : (lines : List BallotLine) (count : ℕ) (ranks : List ℕ) → Lines

abbrev pub at_count : Limit → List BallotLine → ℕ → Judged (Progress Lines (List BallotLine))
at_count limit lines n =
    if n == 0 then Ok (Ends lines)
    else (if nat_le (ballot_count lines + n) limit.most then Ok (GoesOn (Within lines n []))
    else Err limit.refusal)

-- the line that was begun, all of its candidates read
abbrev pub with_line : List BallotLine → ℕ → List ℕ → List BallotLine
with_line lines count ranks = lines ++ (record { count = count; ranking = ranks }) ∷ []

abbrev pub at_line : ℕ → Limit → Lines → Item → Judged (Progress Lines (List BallotLine))
at_line candidates limit (Between lines) (Number n) = at_count limit lines n
at_line candidates limit (Between lines) item = Err BadNumber
at_line candidates limit (Within lines count ranks) item = carried (λ more. Within lines count more) (λ all. Between (with_line lines count all)) (at_rank candidates ranks item)
