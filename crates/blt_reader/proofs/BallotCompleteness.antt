-- The tables of ballots accept all ballots.
use Rattle.std.proofs.Common.{◌≡◌, ℕ, ◌+◌, ◌≤◌, ◌≢◌, List, [], ◌∷◌, ◌++◌, map, refl, sym, ◌∙◌, ap, subst}
use Rattle.std.proofs.Common.{arith, append_assoc, Ok}
use Rattle.std.specs.Prelude.{All, AllPairs}
use Rattle.std.specs.List.{flat_map}
use Rattle.std.proofs.lemmas.Bool.{le-leb}
use Rattle.std.proofs.lemmas.List.{append-nil}
use Rattle.std.proofs.lemmas.List.Elements.{All-head, All-tail}
use Rattle.std.proofs.lemmas.List.Sums.{sum_by-append, sum_by-cons}
use Rattle.plain_ballots.specs.Ballots.{ballot_count}
use Rattle.plain_ballots.specs.Ranking.{IsRanking}
use Rattle.plain_ballots.specs.declared.ballot_line.BallotLine.{BallotLine}
use Rattle.input_text.specs.Token.{Item, Number}
use Rattle.blt_reader.specs.Blt.{AreLines, ballot, ballots}
use Rattle.input_text.specs.Judged.{Judged, after, Progress, GoesOn, Ends, closed}
use Rattle.blt_reader.specs.BallotTable.{at_rank, Limit, Lines, Between, Within, with_line, at_line}
use Rattle.blt_reader.specs.Front.{IsLineFront}
use Rattle.input_text.proofs.Judgements.{nonzero}
use Rattle.input_text.proofs.Repeats.{not_before}
use Rattle.input_text.proofs.Tables.{in_parts, carried_is, place_of, carries}

-- ---- one ballot line

module _ (candidates : ℕ) where
  abbrev IsNumber : ℕ → Type 0
  IsNumber r = (1 ≤ r) × (r ≤ candidates)

  pub reads_ranks :
      (ranks before : List ℕ) → All IsNumber ranks → AllPairs (λ a b. a ≢ b) (before ++ ranks)
      → after (closed (at_rank candidates)) (GoesOn before) (map Number ranks) ≡ Ok (GoesOn (before ++ ranks))
  reads_ranks [] before each different = ap (λ (r : List ℕ). Ok (GoesOn r)) (sym (append-nil before))
  reads_ranks (n ∷ ranks) before each different =
      let in_it = All-head IsNumber n ranks each in
      let regrouped = append_assoc before (n ∷ []) ranks in
      rw (nonzero n in_it.0, le-leb n candidates in_it.1, not_before before ranks n different)
      (reads_ranks ranks (before ++ n ∷ []) (All-tail IsNumber n ranks each)
      (subst (AllPairs (λ a b. a ≢ b)) (sym regrouped) different)
      ∙ ap (λ (r : List ℕ). Ok (GoesOn r)) regrouped)

  pub reads_ranking :
      (ranks : List ℕ) → IsRanking candidates ranks
      → after (closed (at_rank candidates)) (GoesOn []) (map Number ranks ++ Number 0 ∷ []) ≡ Ok (Ends ranks)
  reads_ranking ranks is =
      in_parts (closed (at_rank candidates)) (GoesOn []) (GoesOn ranks) (map Number ranks) (Number 0 ∷ [])
      (reads_ranks ranks [] is.numbers is.different)

-- ---- all ballot lines

module _ (candidates : ℕ) (limit : Limit) where
  abbrev Table : Progress Lines (List BallotLine) → Item → Judged (Progress Lines (List BallotLine))
  Table = closed (at_line candidates limit)

  abbrev Reads : Progress Lines (List BallotLine) → List Item → Progress Lines (List BallotLine) → Type 0
  Reads expected items next = after Table expected items ≡ Ok next

  count_read :
      (lines : List BallotLine) (count : ℕ) (items : List Item) → 1 ≤ count → ballot_count lines + count ≤ limit.most
      → after Table (GoesOn (Between lines)) (Number count ∷ items) ≡ after Table (GoesOn (Within lines count [])) items
  count_read lines count items counted room =
      rw (nonzero count counted, le-leb (ballot_count lines + count) limit.most room) refl

  -- what the table of one line accepts is accepted within the lines
  within :
      (lines : List BallotLine) (count : ℕ) (items : List Item) (start last : Progress (List ℕ) (List ℕ))
      → after (closed (at_rank candidates)) start items ≡ Ok last
      → after Table (place_of (λ ranks. GoesOn (Within lines count ranks))
      (λ ranks. GoesOn (Between (with_line lines count ranks))) start) items
      ≡ Ok (place_of (λ ranks. GoesOn (Within lines count ranks))
      (λ ranks. GoesOn (Between (with_line lines count ranks))) last)
  within lines count items =
      carries (at_rank candidates) Table (λ ranks. GoesOn (Within lines count ranks))
      (λ ranks. GoesOn (Between (with_line lines count ranks)))
      (λ ranks item. carried_is (λ more. Within lines count more) (λ all. Between (with_line lines count all))
      (at_rank candidates ranks item)) items

  pub reads_begun_line :
      (lines : List BallotLine) (count : ℕ) (ranks : List ℕ) → IsRanking candidates ranks → 1 ≤ count
      → ballot_count lines + count ≤ limit.most → Reads (GoesOn (Between lines)) (Number count ∷ map Number ranks)
      (GoesOn (Within lines count ranks))
  reads_begun_line lines count ranks is counted room =
      count_read lines count (map Number ranks) counted room
      ∙ within lines count (map Number ranks) (GoesOn []) (GoesOn ranks)
      (reads_ranks candidates ranks [] is.numbers is.different)

  pub reads_line :
      (lines : List BallotLine) (line : BallotLine) → IsRanking candidates line.ranking → 1 ≤ line.count
      → ballot_count lines + line.count ≤ limit.most
      → Reads (GoesOn (Between lines)) (ballot line) (GoesOn (Between (lines ++ line ∷ [])))
  reads_line lines line is counted room =
      count_read lines line.count (map Number line.ranking ++ Number 0 ∷ []) counted room
      ∙ within lines line.count (map Number line.ranking ++ Number 0 ∷ []) (GoesOn []) (Ends line.ranking)
      (reads_ranking candidates line.ranking is)

  reads_more_lines :
      (more lines : List BallotLine) → All (λ line. IsRanking candidates line.ranking) more
      → All (λ line. 1 ≤ line.count) more
      → ballot_count (lines ++ more) ≤ limit.most → Reads (GoesOn (Between lines)) (flat_map ballot more)
      (GoesOn (Between (lines ++ more)))
  reads_more_lines [] lines rankings counted room =
      ap (λ (l : List BallotLine). Ok (GoesOn (Between l))) (sym (append-nil lines))
  reads_more_lines (line ∷ more) lines rankings counted room =
      let regrouped = append_assoc lines (line ∷ []) more in
      let all = sum_by-append (λ (l : BallotLine). l.count) lines (line ∷ more) in
      in_parts Table (GoesOn (Between lines)) (GoesOn (Between (lines ++ line ∷ []))) (ballot line) (flat_map ballot more)
      (reads_line lines line (All-head (λ (l : BallotLine). IsRanking candidates l.ranking) line more rankings)
      (All-head (λ (l : BallotLine). 1 ≤ l.count) line more counted)
      (omega (arith, all, sum_by-cons (λ (l : BallotLine). l.count) line more)))
      ∙ reads_more_lines more (lines ++ line ∷ [])
      (All-tail (λ (l : BallotLine). IsRanking candidates l.ranking) line more rankings)
      (All-tail (λ (l : BallotLine). 1 ≤ l.count) line more counted)
      (subst (λ (l : List BallotLine). ballot_count l ≤ limit.most) (sym regrouped) room)
      ∙ ap (λ (l : List BallotLine). Ok (GoesOn (Between l))) regrouped

  pub reads_lines :
      (lines : List BallotLine) → AreLines candidates limit.most lines
      → Reads (GoesOn (Between [])) (flat_map ballot lines) (GoesOn (Between lines))
  reads_lines lines are = reads_more_lines lines [] are.rankings are.counted are.bounded

  pub reads_ballots :
      (lines : List BallotLine) → AreLines candidates limit.most lines
      → Reads (GoesOn (Between [])) (ballots lines) (Ends lines)
  reads_ballots lines are =
      in_parts Table (GoesOn (Between [])) (GoesOn (Between lines)) (flat_map ballot lines) (Number 0 ∷ [])
      (reads_lines lines are)

  abbrev Begin : Progress Lines (List BallotLine)
  Begin = GoesOn (Between [])

  pub reads_line_front :
      (expected : Progress Lines (List BallotLine)) (items : List Item) → IsLineFront candidates limit.most expected items
      → Reads Begin items expected
  reads_line_front (GoesOn (Between lines)) items is =
      subst (λ (l : List Item). Reads Begin l (GoesOn (Between lines))) is.1 (reads_lines lines is.0)
  reads_line_front (GoesOn (Within lines count ranks)) items is =
      subst (λ (l : List Item). Reads Begin l (GoesOn (Within lines count ranks))) is.1 (
      in_parts Table Begin (GoesOn (Between lines)) (flat_map ballot lines) (Number count ∷ map Number ranks)
      (reads_lines lines is.0.before)
      ∙ reads_begun_line lines count ranks is.0.ranking is.0.counted is.0.room)
  reads_line_front (Ends lines) items is =
      subst (λ (l : List Item). Reads Begin l (Ends lines)) is.1 (reads_ballots lines is.0)
