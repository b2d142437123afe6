-- A whole file: its front up to the title, and the strings after it.
use Rattle.std.proofs.Common.{◌≡◌, ℕ, List, refl, ◌∙◌, ap, Ok, Err}
use Rattle.std.specs.Prelude.{Result, IfOk}
use Rattle.input_text.specs.declared.fault_kind.FaultKind.TheVariants.{Trailing}
use Rattle.input_text.specs.declared.input_fault.InputFault.{InputFault}
use Rattle.plain_ballots.specs.declared.ballot_line.BallotLine.{BallotLine}
use Rattle.blt_reader.specs.declared.election.StoredElection.{StoredElection}
use Rattle.input_text.specs.declared.input_stop.InputStop.{InputStop}
use Rattle.input_text.specs.declared.input_stop.InputStop.TheVariants as stop
use Rattle.input_text.specs.declared.what.What.{What}
use Rattle.input_text.specs.declared.what.What.TheVariants as code
use Rattle.input_text.specs.Token.{AtEnd, AtFault, Scan, ends, with_front}
use Rattle.input_text.specs.Reader.{said}
use Rattle.blt_reader.specs.Poll.{Poll}
use Rattle.blt_reader.specs.Election.{poll_of_lines}
use Rattle.input_text.specs.Judged.{outcome, GoesOn, Ends, ended, Stopped, reads}
use Rattle.blt_reader.specs.BallotTable.{Limit}
use Rattle.blt_reader.specs.BltTable.{Candidates, at_token, at_file_token}
use Rattle.blt_reader.specs.Blt.{IsBlt}
use Rattle.input_text.specs.Refusal.{IsAccepted}
use Rattle.blt_reader.specs.Said.{said_by, IsFileRefusal}
use Rattle.input_text.specs.Reads.{IfFault, Reads}
use Rattle.blt_reader.specs.Reads.{ReadsFurther, Says}
use Rattle.blt_reader.specs.Stored.{SaysStored}
use Rattle.input_text.proofs.Tables.{behind_front, reads_front}
use Rattle.input_text.proofs.FrontRuling.{itself}
use Rattle.blt_reader.proofs.BltLaws.{accepts_files, refuses_by_the_rule}

module _ (limit : Limit) where
  abbrev pub Behind : Poll → Scan → Result Poll InputFault
  Behind poll text = outcome (at_file_token limit) ended (Ends poll) text.tokens text.ending

  -- ---- after the title

  pub string_more :
      (poll : Poll) (old new : Scan) (bytes : List ℕ) (at begin stop : ℕ) (what : What)
      → old ≡ with_front (record { at = at; item = said bytes begin stop what }) new → what ≡ code.Text
      → Behind poll old ≡ Behind poll new
  string_more poll old new bytes at begin stop what given is =
      ap (Behind poll) (given ∙ ap (λ (w : What). with_front (record { at = at; item = said bytes begin stop w }) new) is)

  trails :
      (poll : Poll) (bytes : List ℕ) (at begin stop : ℕ) (what : What) (new : Scan) → (what ≡ code.Text → ⊥)
      → Behind poll (with_front (record { at = at; item = said bytes begin stop what }) new)
      ≡ Err (record { kind = Trailing; at = at })
  trails poll bytes at begin stop (code.Number n) new not = refl
  trails poll bytes at begin stop (code.Minus n) new not = refl
  trails poll bytes at begin stop code.Text new not = absurd (not refl)
  trails poll bytes at begin stop code.Word new not = refl

  pub trailing :
      (poll : Poll) (old new : Scan) (bytes : List ℕ) (at begin stop : ℕ) (what : What)
      → old ≡ with_front (record { at = at; item = said bytes begin stop what }) new → (what ≡ code.Text → ⊥)
      → Behind poll old ≡ Err (record { kind = Trailing; at = at })
  trailing poll old new bytes at begin stop what given not =
      ap (Behind poll) given ∙ trails poll bytes at begin stop what new not

  pub well_ended : (poll : Poll) (old : Scan) (at : ℕ) → old ≡ ends (AtEnd at) → Behind poll old ≡ Ok poll
  well_ended poll old at is = ap (Behind poll) is

  pub faulted : (poll : Poll) (old : Scan) (fault : InputFault) → old ≡ ends (AtFault fault) → Behind poll old ≡ Err fault
  faulted poll old fault is = ap (Behind poll) is

  -- ---- a whole file

  in_two : (text : Scan) → said_by limit text ≡ behind_front (reads (at_token limit) Candidates text) Behind
  in_two text =
      reads_front (at_token limit) (at_file_token limit) ended GoesOn Ends
      (λ s item. itself (at_token limit) (at_token limit s item)) (λ s. refl) text.tokens text.ending Candidates

  module _ {R : Type 0} (value : R → Poll) (text : Scan) where
    pub says_all :
        (rest : Scan) (found : R) → reads (at_token limit) Candidates text ≡ Ok (value found, rest)
        → ReadsFurther rest (Ok tt) → Says value (said_by limit text) (Ok found)
    says_all rest found is further =
        in_two text ∙ ap (λ (r : Result (Poll × Scan) Stopped). behind_front r Behind) is ∙ further limit (value found)

    pub says_trailing :
        (rest : Scan) (found : R) (fault : InputFault) → reads (at_token limit) Candidates text ≡ Ok (value found, rest)
        → ReadsFurther rest (Err fault) → Says value (said_by limit text) (Err (stop.Fault fault))
    says_trailing rest found fault is further =
        in_two text ∙ ap (λ (r : Result (Poll × Scan) Stopped). behind_front r Behind) is ∙ further limit (value found)

    pub says_front :
        (rest : Scan) (why : InputStop) → Reads (at_token limit) Candidates value text (Err why) rest
        → Says value (said_by limit text) (Err why)
    says_front rest (stop.Fault fault) is =
        in_two text ∙ ap (λ (r : Result (Poll × Scan) Stopped). behind_front r Behind) is
    says_front rest stop.NoMemory is = tt

    -- ---- what is answered, by the laws

    pub says_file :
        (result : Result R InputStop) → Says value (said_by limit text) result
        → IfOk result (λ found. IsAccepted (IsBlt limit.most) text (value found))
    says_file (Ok found) is = (accepts_files limit text (value found)).0 is
    says_file (Err why) is = tt

    pub refuses_file :
        (result : Result R InputStop) → Says value (said_by limit text) result
        → IfFault result (λ fault. IsFileRefusal limit text fault)
    refuses_file (Ok found) is = tt
    refuses_file (Err (stop.Fault fault)) is = (refuses_by_the_rule limit text fault).0 is
    refuses_file (Err stop.NoMemory) is = tt

  -- ---- the same of a store

  pub says_stored :
      {B : Type 0} (holds : B → List BallotLine → Type 0) (text : Scan) (result : Result (StoredElection B) InputStop)
      → SaysStored holds (said_by limit text) result
      → IfOk result (λ e. (lines : List BallotLine) × IsAccepted (IsBlt limit.most) text (poll_of_lines e lines)
      × holds e.ballots lines)
  says_stored holds text (Ok e) is = (is.0, (accepts_files limit text (poll_of_lines e is.0)).0 is.2, is.1)
  says_stored holds text (Err why) is = tt

-- what stopped says nothing of a value
pub stops_so :
    {R Q : Type 0} (value : R → Poll) (other : Q → Poll) (said : Result Poll InputFault) (why : InputStop)
    → Says value said (Err why) → Says other said (Err why)
stops_so value other said (stop.Fault fault) is = is
stops_so value other said stop.NoMemory is = tt
