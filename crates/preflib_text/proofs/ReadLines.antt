-- Orders that are read one after another.
use Rattle.std.proofs.Common.{◌≡◌, ℕ, ◌+◌, ◌-◌, List, [], ◌∷◌, ◌++◌, map, replicate, Option, Some, None, refl, ap, sym, ◌∙◌, arith}
use Rattle.std.specs.Option.{option_map, option_and_then}
use Rattle.std.proofs.lemmas.List.{append_assoc, append-nil}
use Rattle.std.proofs.lemmas.List.Sums.{sum_by_push, sum_by-cons}
use Rattle.plain_ballots.specs.Ballots.{ballot_count, plain}
use Rattle.plain_ballots.specs.declared.ballot_line.BallotLine.{BallotLine}
use Rattle.plain_ballots.specs.declared.limits.TheConstants.{MOST_BALLOTS}
use Rattle.ballot_marks.specs.Ballot.{ranked, is_passed, is_cut}
use Rattle.ballot_marks.specs.declared.choice.Treat.{Treat}
use Rattle.ballot_marks.specs.declared.treated.Treated.{Treated}
use Rattle.preflib_text.specs.declared.counted.Counted.{Counted}
use Rattle.preflib_text.specs.declared.pref_fault.PrefFault.{PrefFault}
use Rattle.preflib_text.specs.Ballots.{ballots, treating, plain_of}
use Rattle.preflib_text.specs.Counting.{faults_behind, ballots_behind, counting, both, IsReadTo}
use Rattle.preflib_text.specs.Faults.{Line, first_of}
use Rattle.preflib_text.specs.Items.{order_of, count_of, items, marks_of}
use Rattle.preflib_text.specs.Refusals.{whole_fault}
use Rattle.preflib_text.specs.Tallies.{tally}
use Rattle.preflib_text.proofs.TallyLemmas.{tally_step}

plain_push : (lines : List BallotLine) (line : BallotLine)
    → plain (lines ++ line ∷ []) ≡ plain lines ++ replicate line.count line.ranking
plain_push [] line = append-nil (replicate line.count line.ranking)
plain_push (l ∷ ls) line =
    ap (λ rest. replicate l.count l.ranking ++ rest) (plain_push ls line)
    ∙ sym (append_assoc (replicate l.count l.ranking) (plain ls) (replicate line.count line.ranking))

joined_more : (before first : List (List ℕ)) (o : Option (List (List ℕ)))
    → option_map (λ rest. before ++ rest) (option_map (λ rest. first ++ rest) o)
    ≡ option_map (λ rest. (before ++ first) ++ rest) o
joined_more before first None = refl
joined_more before first (Some rest) = ap Some (sym (append_assoc before first rest))

module _ (equal : Treat) (all : List Line) (counted new : Counted) (line : Line) (rest : List Line) (treated : Treated)
    (count : ℕ) (so_far : IsReadTo equal all counted (line ∷ rest)) (counts : count ≡ count_of line)
    (ballots_are : new.ballots ≡ record counted.ballots {
      lines = counted.ballots.lines ++ record { count = count; ranking = treated.ranking } ∷ [];
    })
  where
    abbrev one : BallotLine
    one = record { count = count; ranking = treated.ranking }

    same : new.ballots.candidates ≡ counted.ballots.candidates
    same = ap (λ b. b.candidates) ballots_are

    more : ballot_count new.ballots.lines ≡ ballot_count counted.ballots.lines + count_of line
    more =
        ap (λ b. ballot_count b.lines) ballots_are ∙ sum_by_push (λ (l : BallotLine). l.count) counted.ballots.lines one
        ∙ ap (λ n. ballot_count counted.ballots.lines + n) counts

    abbrev faults_at : ℕ → ℕ → List Line → Option PrefFault
    faults_at n k lines = first_of (faults_behind equal n k lines)

    faults_more : whole_fault equal counted.ballots.candidates (MOST_BALLOTS - ballot_count counted.ballots.lines, line) ≡ None
        → faults_at new.ballots.candidates 0 all ≡ faults_at new.ballots.candidates (ballot_count new.ballots.lines) rest
    faults_more sound =
        let n = counted.ballots.candidates in
        let k = ballot_count counted.ballots.lines in
        ap (λ m. faults_at m 0 all) same ∙ so_far.faults
        ∙ ap (λ f. first_of (f ∷ faults_behind equal n (k + count_of line) rest)) sound
        ∙ ap (λ j. faults_at n j rest) (sym more) ∙ ap (λ m. faults_at m (ballot_count new.ballots.lines) rest) (sym same)

    ballots_more : ranked (treating equal) (marks_of (items line)) ≡ Some treated.ranking
        → ballots_behind equal [] all ≡ ballots_behind equal (plain new.ballots.lines) rest
    ballots_more ranks =
        let before = plain counted.ballots.lines in
        let others = ballots equal (map order_of rest) in
        let first : List (List ℕ) = replicate (count_of line) treated.ranking in
        let own : plain_of equal (order_of line) ≡ Some first = ap (option_map (replicate (count_of line))) ranks in
        let lines : plain new.ballots.lines ≡ before ++ first =
        ap (λ b. plain b.lines) ballots_are ∙ plain_push counted.ballots.lines one
        ∙ ap (λ n. before ++ replicate n treated.ranking) counts in
        so_far.ballots_are
        ∙ ap (λ o. option_map (λ rest. before ++ rest)
        (option_and_then (λ xs. option_map (λ ys. xs ++ ys) others) o)) own
        ∙ joined_more before first others ∙ ap (λ xs. option_map (λ rest. xs ++ rest) others) (sym lines)

    pub read_more :
        whole_fault equal counted.ballots.candidates (MOST_BALLOTS - ballot_count counted.ballots.lines, line) ≡ None
        → ranked (treating equal) (marks_of (items line)) ≡ Some treated.ranking
        → treated.passed ≡ is_passed (treating equal) (marks_of (items line))
        → treated.cut ≡ is_cut (treating equal) (marks_of (items line))
        → new.tally ≡ counting counted.tally count treated → IsReadTo equal all new rest
    read_more sound ranks passed cut tallied = record {
      faults = faults_more sound;
      ballots_are = ballots_more ranks;
      total = so_far.total ∙ omega (arith, more, sum_by-cons count_of line rest);
      tally_is = so_far.tally_is
          ∙ tally_step equal counted.tally (order_of line) (map order_of rest) treated ranks passed cut
          ∙ ap (λ n. both (counting counted.tally n treated) (tally equal (map order_of rest))) (sym counts)
          ∙ ap (λ t. both t (tally equal (map order_of rest))) (sym tallied);
    }
