-- What was counted makes the text that is due for the lines of the file.
use Rattle.std.proofs.Common.{◌≡◌, ℕ, List, ◌++◌, length, ap, arith}
use Rattle.std.specs.Prelude.{codes, not}
use Rattle.plain_ballots.specs.declared.ballot_line.BallotLine.{BallotLine}
use Rattle.candidate_roll.specs.Roll.{RollList}
use Rattle.ballot_findings.specs.declared.looking.Looked.{Looked}
use Rattle.ballot_findings.specs.Counts.{figures, has_first, how_many, is_ranked}
use Rattle.ballot_findings.specs.Lines.{ballots_text, candidate_line, count_line, enough_seats_lines, first_line, first_lines}
use Rattle.ballot_findings.specs.Lines.{many_seats_lines, mean_text, name_warnings, roll_text, text_line}
use Rattle.ballot_findings.specs.Lines.{text_of, told, unranked_lines, withdrawn_lines}
use Rattle.ballot_findings.specs.Looked.{IsLooked, figures_of}
use Rattle.ballot_findings.specs.Names.{name_of}
use Rattle.ballot_findings.specs.Tally.{first_of, was_ranked}
use Rattle.ballot_findings.proofs.Each.{each_same, kept_same}

-- what was counted makes the same text as the lines themselves
pub looked_text :
    (input : List ℕ) (roll : RollList) (lines : List BallotLine) (looked : Looked) → IsLooked roll lines looked
    → text_of input roll (figures_of looked) ≡ text_of input roll (figures roll.withdrawn lines)
looked_text input roll lines looked is =
    let n = length roll.names in
    let firsts :
    first_lines roll.names (first_of looked.tally)
    ≡ first_lines roll.names (λ c. how_many (has_first c) lines) =
    each_same (λ c. first_line c (first_of looked.tally c) (name_of roll.names c))
    (λ c. first_line c (how_many (has_first c) lines) (name_of roll.names c)) 1 n
    (λ c from below. ap (λ (k : ℕ). first_line c k (name_of roll.names c))
    (is.tally.firsts c from (omega (arith, below)))) in
    let unranked : unranked_lines input n (was_ranked looked.tally) ≡ unranked_lines input n (is_ranked lines) =
    ap (told (candidate_line input (codes "look on no ballot")))
    (kept_same (λ c. not (was_ranked looked.tally c)) (λ c. not (is_ranked lines c)) 1 n
    (λ c from below. ap not (is.tally.ranked c from (omega (arith, below))))) in
    λ i.
    (ballots_text (is.tally.ballots i) (is.lines_are i) (is.tally.empty i)
    ++ roll_text roll
    ++ (firsts i ++ text_line (codes "mean ") (mean_text (is.tally.ranks i) (is.tally.ballots i))
    ++ count_line (codes "equal ") (is.repeats_are i)))
    ++ name_warnings input roll
    ++ (many_seats_lines input roll ++ enough_seats_lines input roll ++ unranked i
    ++ withdrawn_lines input roll.withdrawn (is.tally.of_withdrawn i))
