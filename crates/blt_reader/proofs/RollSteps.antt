-- The parts of a file up to its title, one after another.
use Rattle.std.proofs.Common.{◌≡◌, ℕ, ◌<◌, List, [], length, Bool, refl, sym, ◌∙◌, ap, Ok, Err}
use Rattle.plain_ballots.specs.declared.ballot_line.BallotLine.{BallotLine}
use Rattle.candidate_roll.specs.declared.limits.TheConstants.{MOST_TITLE_BYTES}
use Rattle.candidate_roll.specs.Roll.{RollList, withdrawn_marks}
use Rattle.input_text.specs.declared.input_stop.InputStop.{InputStop}
use Rattle.input_text.specs.declared.input_stop.InputStop.TheVariants as stop
use Rattle.blt_reader.specs.declared.opening.Opening.{Opening}
use Rattle.input_text.specs.Token.{Item, Number, Scan, with_front}
use Rattle.blt_reader.specs.Poll.{Poll}
use Rattle.input_text.specs.Judged.{carried, reads}
use Rattle.blt_reader.specs.BallotTable.{Limit, Lines, Between, at_line}
use Rattle.blt_reader.specs.BltTable.{Heading, Expected, Candidates, Ballots, Name, behind_name, poll_of, at_token}
use Rattle.input_text.specs.Reads.{Stops, Accepts, OnFault, Reads}
use Rattle.blt_reader.specs.Reads.{as_name, ReadsNames}
use Rattle.blt_reader.specs.Opening.{IsOpened}
use Rattle.input_text.proofs.Reading.{inner_read, inner_fails}
use Rattle.blt_reader.proofs.NameSteps.{name_expected, title_stops, title_read}

module _ (limit : Limit) (start : Scan) (opening : Opening) (behind_opening : Scan)
    (is : IsOpened start opening behind_opening) where
  abbrev pub HeadingOf : Heading
  HeadingOf = record { candidates = opening.candidates; seats = opening.seats; withdrawn = is.listed }

  abbrev pub FirstText : Scan
  FirstText = with_front (record { at = opening.first.1; item = Number opening.first.0 }) behind_opening

  abbrev pub GoesTo : Expected → Scan → Type 0
  GoesTo expected text = reads (at_token limit) Candidates start ≡ reads (at_token limit) expected text

  within :
      (lines : Lines) (item : Item) → at_token limit (Ballots HeadingOf lines) item
      ≡ carried {W = Poll} (λ l. Ballots HeadingOf l) (λ l. Name HeadingOf l [])
      (at_line opening.candidates limit lines item)
  unfolding at_token
  within lines item = refl

  pub ballots_fail :
      {R Q : Type 0} (found : R → List BallotLine) (value : Q → Poll) (new : Scan) (why : InputStop)
      → Reads (at_line opening.candidates limit) (Between []) found FirstText (Err why) new
      → Reads (at_token limit) Candidates value start (Err why) new
  ballots_fail found value new why fails =
      inner_fails (at_line opening.candidates limit) (at_token limit) (λ l. Ballots HeadingOf l)
      (λ l. Name HeadingOf l []) within
      (Between []) FirstText found value Candidates start new why (is.same limit) fails

  pub ballots_read :
      (lines : List BallotLine) (new : Scan) → 0 < opening.candidates
      → reads (at_line opening.candidates limit) (Between []) FirstText ≡ Ok (lines, new)
      → GoesTo (behind_name HeadingOf lines []) new
  ballots_read lines new some read =
      is.same limit
      ∙ inner_read (at_line opening.candidates limit) (at_token limit) (λ l. Ballots HeadingOf l)
      (λ l. Name HeadingOf l []) within (Between []) FirstText lines new read
      ∙ ap (λ (s : Expected). reads (at_token limit) s new) (sym (name_expected HeadingOf lines [] some))

  module _ (lines : List BallotLine) where
    pub names_stop :
        {Q : Type 0} (value : Q → Poll) (old new : Scan) (why : InputStop) → GoesTo (behind_name HeadingOf lines []) old
        → ReadsNames opening.candidates old (Err why) new → Reads (at_token limit) Candidates value start (Err why) new
    names_stop value old new (stop.Fault fault) goes fails = goes ∙ fails limit HeadingOf lines refl
    names_stop value old new stop.NoMemory goes fails = tt

    module _ (names : List (List ℕ)) (all : length names ≡ opening.candidates) where
      pub title_stop :
          {Q : Type 0} (value : Q → Poll) (old new : Scan) (why : InputStop) → GoesTo (behind_name HeadingOf lines names) old
          → OnFault why (λ fault. Stops (as_name MOST_TITLE_BYTES) old fault new)
          → Reads (at_token limit) Candidates value start (Err why) new
      title_stop value old new (stop.Fault fault) goes fails =
          goes ∙ title_stops limit HeadingOf lines names old new fault all fails
      title_stop value old new stop.NoMemory goes fails = tt

      pub all_read :
          (title : List ℕ) (roll : RollList) (old new : Scan) → GoesTo (behind_name HeadingOf lines names) old
          → Accepts (as_name MOST_TITLE_BYTES) old title new
          → roll
          ≡ record {
            seats = opening.seats;
            names = names;
            title = title;
            withdrawn = withdrawn_marks (length names) opening.withdrawn.items;
          }
          → reads (at_token limit) Candidates start ≡ Ok (record { roll = roll; lines = lines }, new)
      all_read title roll old new goes read roll_is =
          let marks : withdrawn_marks opening.candidates is.listed ≡ withdrawn_marks (length names) opening.withdrawn.items =
          is.marks ∙ ap (λ (c : ℕ). withdrawn_marks c opening.withdrawn.items) (sym all) in
          let same : poll_of HeadingOf lines names title ≡ record { roll = roll; lines = lines } =
          ap (λ (m : List Bool). record {
            roll =
                record { seats = opening.seats; names = names; title = title; withdrawn = m };
            lines = lines;
          }) marks
          ∙ ap (λ (r : RollList). record { roll = r; lines = lines }) (sym roll_is) in
          goes ∙ title_read limit HeadingOf lines names old new title all read ∙ ap (λ (p : Poll). Ok (p, new)) same
