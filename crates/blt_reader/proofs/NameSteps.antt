-- One name more, and the title.
use Rattle.std.proofs.Common.{◌≡◌, ℕ, ◌<◌, List, [], ◌∷◌, ◌++◌, length, true, false, ◌==◌, nat_le, refl, ◌∙◌}
use Rattle.std.proofs.Common.{ap, arith, Ok, Err}
use Rattle.std.proofs.lemmas.Bool.{eq-eqb, ne_eqb}
use Rattle.plain_ballots.specs.declared.ballot_line.BallotLine.{BallotLine}
use Rattle.candidate_roll.specs.declared.limits.TheConstants.{MOST_NAME_BYTES, MOST_TITLE_BYTES}
use Rattle.input_text.specs.declared.fault_kind.FaultKind.{FaultKind}
use Rattle.input_text.specs.declared.input_fault.InputFault.{InputFault}
use Rattle.input_text.specs.declared.input_stop.InputStop.{InputStop}
use Rattle.input_text.specs.declared.input_stop.InputStop.TheVariants as stop
use Rattle.input_text.specs.Token.{Item, Number, Minus, Text, Word, Scan}
use Rattle.input_text.specs.Judged.{GoesOn, Ends, reads}
use Rattle.blt_reader.specs.BallotTable.{Limit}
use Rattle.blt_reader.specs.BltTable.{Heading, Expected, Name, Title, behind_name, poll_of, at_token}
use Rattle.input_text.specs.Reads.{Stops, Accepts, OnFault}
use Rattle.blt_reader.specs.Reads.{as_name, ReadsNames}
use Rattle.input_text.proofs.Judgements.{refused, same_kind, passed, failed}
use Rattle.input_text.proofs.Reading.{goes_on, ends_with, stops}

pub name_expected :
    (h : Heading) (lines : List BallotLine) (names : List (List ℕ)) → length names < h.candidates
    → behind_name h lines names ≡ Name h lines names
name_expected h lines names fewer =
    let differs : (length names == h.candidates) ≡ false =
    ne_eqb (length names) h.candidates (λ same. absurd (omega (arith, fewer, same))) in
    rw differs refl

pub title_expected :
    (h : Heading) (lines : List BallotLine) (names : List (List ℕ)) → length names ≡ h.candidates
    → behind_name h lines names ≡ Title h lines names
title_expected h lines names same =
    let full : (length names == h.candidates) ≡ true = eq-eqb (length names) h.candidates same in
    rw full refl

module _ (limit : Limit) (h : Heading) (lines : List BallotLine) (names : List (List ℕ)) (old new : Scan) where
  no_name :
      (item : Item) (kind : FaultKind) → as_name MOST_NAME_BYTES item ≡ Err kind → at_token limit (Name h lines names) item ≡ Err kind
  unfolding at_token
  no_name (Text bytes) kind e = failed (nat_le (length bytes) MOST_NAME_BYTES) bytes _ _ kind e
  no_name (Number n) kind e = ap Err (same_kind e)
  no_name (Minus n) kind e = ap Err (same_kind e)
  no_name (Word letters) kind e = ap Err (same_kind e)

  pub name_stops :
      (fault : InputFault) → length names < h.candidates → Stops (as_name MOST_NAME_BYTES) old fault new
      → reads (at_token limit) (behind_name h lines names) old ≡ Err (record { fault = fault; rest = new })
  name_stops fault fewer is =
      ap (λ (s : Expected). reads (at_token limit) s old) (name_expected h lines names fewer)
      ∙ stops (at_token limit) (Name h lines names) old new (as_name MOST_NAME_BYTES) fault no_name is

  a_name :
      (item : Item) (name : List ℕ) → as_name MOST_NAME_BYTES item ≡ Ok name
      → at_token limit (Name h lines names) item ≡ Ok (GoesOn (behind_name h lines (names ++ name ∷ [])))
  unfolding at_token
  a_name (Text bytes) name e =
      let ok = passed (nat_le (length bytes) MOST_NAME_BYTES) bytes name _ e in
      rw ok.0 (ap (λ (n : List ℕ). Ok (GoesOn (behind_name h lines (names ++ n ∷ [])))) ok.1)
  a_name (Number n) name e = absurd (refused e)
  a_name (Minus n) name e = absurd (refused e)
  a_name (Word letters) name e = absurd (refused e)

  pub name_read :
      (name : List ℕ) → length names < h.candidates → Accepts (as_name MOST_NAME_BYTES) old name new
      → reads (at_token limit) (behind_name h lines names) old
      ≡ reads (at_token limit) (behind_name h lines (names ++ name ∷ [])) new
  name_read name fewer is =
      ap (λ (s : Expected). reads (at_token limit) s old) (name_expected h lines names fewer)
      ∙ goes_on (at_token limit) (Name h lines names) old new is.token (behind_name h lines (names ++ name ∷ [])) is.given
      (a_name is.token.item name is.accepted)

  no_title :
      (item : Item) (kind : FaultKind) → as_name MOST_TITLE_BYTES item ≡ Err kind → at_token limit (Title h lines names) item ≡ Err kind
  unfolding at_token
  no_title (Text bytes) kind e = failed (nat_le (length bytes) MOST_TITLE_BYTES) bytes _ _ kind e
  no_title (Number n) kind e = ap Err (same_kind e)
  no_title (Minus n) kind e = ap Err (same_kind e)
  no_title (Word letters) kind e = ap Err (same_kind e)

  pub title_stops :
      (fault : InputFault) → length names ≡ h.candidates → Stops (as_name MOST_TITLE_BYTES) old fault new
      → reads (at_token limit) (behind_name h lines names) old ≡ Err (record { fault = fault; rest = new })
  title_stops fault all is =
      ap (λ (s : Expected). reads (at_token limit) s old) (title_expected h lines names all)
      ∙ stops (at_token limit) (Title h lines names) old new (as_name MOST_TITLE_BYTES) fault no_title is

  a_title :
      (item : Item) (title : List ℕ) → as_name MOST_TITLE_BYTES item ≡ Ok title
      → at_token limit (Title h lines names) item ≡ Ok (Ends (poll_of h lines names title))
  unfolding at_token
  a_title (Text bytes) title e =
      let ok = passed (nat_le (length bytes) MOST_TITLE_BYTES) bytes title _ e in
      rw ok.0 (ap (λ (t : List ℕ). Ok (Ends (poll_of h lines names t))) ok.1)
  a_title (Number n) title e = absurd (refused e)
  a_title (Minus n) title e = absurd (refused e)
  a_title (Word letters) title e = absurd (refused e)

  pub title_read :
      (title : List ℕ) → length names ≡ h.candidates → Accepts (as_name MOST_TITLE_BYTES) old title new
      → reads (at_token limit) (behind_name h lines names) old ≡ Ok (poll_of h lines names title, new)
  title_read title all is =
      ap (λ (s : Expected). reads (at_token limit) s old) (title_expected h lines names all)
      ∙ ends_with (at_token limit) (Title h lines names) old new is.token (poll_of h lines names title)
      is.given (a_title is.token.item title is.accepted)

-- a name that isn't read ends the names
pub names_fail :
    (candidates : ℕ) (names : List (List ℕ)) (start old new : Scan) (why : InputStop) → length names < candidates
    → ((limit : Limit) (heading : Heading) (lines : List BallotLine) → heading.candidates ≡ candidates
    → reads (at_token limit) (behind_name heading lines []) start
    ≡ reads (at_token limit) (behind_name heading lines names) old)
    → OnFault why (λ fault. Stops (as_name MOST_NAME_BYTES) old fault new) → ReadsNames candidates start (Err why) new
names_fail candidates names start old new (stop.Fault fault) fewer so_far is =
    λ limit heading lines same. so_far limit heading lines same
    ∙ name_stops limit heading lines names old new fault (omega (arith, fewer, same)) is
names_fail candidates names start old new stop.NoMemory fewer so_far is = tt
