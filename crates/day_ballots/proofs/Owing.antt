-- What a run over an input, a text or what stood at a freeze owes.
use Rattle.std.proofs.Common.{◌≡◌, ℕ, ◌≤◌, List, length, refl, sym, ap, ◌∙◌, subst, inl, inr}
use Rattle.std.specs.Prelude.{Option, Result, Ok, Err, IsPermutation}
use Rattle.piece_text.specs.Writing.{Writes}
use Rattle.input_text.specs.declared.input_fault.InputFault.{InputFault}
use Rattle.input_text.specs.declared.input_stop.InputStop.{InputStop}
use Rattle.input_text.specs.declared.input_stop.InputStop.TheVariants.{Fault, NoMemory as WantsMemory}
use Rattle.input_text.specs.Reads.{OnFault}
use Rattle.candidate_roll.specs.Roll.{RollList}
use Rattle.frozen_plan.specs.Plan.{PlanRows, all_ballots}
use Rattle.batch_core.specs.declared.entry.Entry.{Entry}
use Rattle.day_reader.specs.declared.day.Day.{Day}
use Rattle.frozen_version.specs.Versions.{VersionState, StandsIn}
use Rattle.blt_writer.specs.Exported.{Exported}
use Rattle.blt_writer.specs.Text.{IsBltText}
use Rattle.tool_edge.specs.declared.end.End.{End}
use Rattle.tool_edge.specs.declared.end.End.TheVariants.{Done, SourceFault, BadWords, BadInput, SinkFault, NoMemory}
use Rattle.tool_edge.specs.Streams.{Writing, writing}
use Rattle.tool_edge.specs.Finishing.{Finishes, FinishesOwed, Wrote}
use Rattle.tool_edge.specs.Tool.{IsOwedFor, no_history}
use Rattle.day_lines.specs.DayHistory.{IsHistoryOf}
use Rattle.day_lines.specs.DayText.{roll_with}
use Rattle.day_replay.specs.Nearest.{IsNearest}
use Rattle.sheet_input.specs.declared.sheet_limit.TheConstants.{SHEET_LIMIT}
use Rattle.day_audit.specs.Audit.{EndsInText}
use Rattle.day_audit.specs.Input.{IsDaySplit}
use Rattle.day_audit.specs.DayFile.{IsDayFile, IsRefusedDayFile}
use Rattle.day_ballots.specs.declared.ballots_fault.BallotsFault.{BallotsFault}
use Rattle.day_ballots.specs.declared.ballots_fault.BallotsFault.TheVariants.{File, False, NoFreeze}
use Rattle.day_ballots.specs.Found.{IsFound, IsNotFound}
use Rattle.day_ballots.specs.Ballots.{Says, IsOwedAtLine, IsOwedFile, RefusesFile, exports_freezes, refusal_line}
use Rattle.day_ballots.proofs.FoundLemmas.{file_at, none_at, text_moved}

-- ---- the whole input

-- No text ends.
pub ended_early :
    (n : ℕ) (input : List ℕ) (fault : InputFault) (end : End BallotsFault) (sink : Writing) → length input ≤ SHEET_LIMIT
    → EndsInText input fault → Finishes (BadInput (File fault)) (refusal_line (File fault)) end sink
    → FinishesOwed (IsOwedFor exports_freezes n input no_history) end sink
ended_early n input fault end sink short ends finishes =
    inr (BadInput (File fault), refusal_line (File fault), (inr (short, inl ends), refl, refl), finishes)

-- The day file is refused.
pub refused_behind :
    (n : ℕ) (input text file : List ℕ) (stop : InputStop) (end : End BallotsFault) (sink : Writing)
    → length input ≤ SHEET_LIMIT → IsDaySplit input text file → OnFault stop (IsRefusedDayFile file)
    → RefusesFile stop end sink → FinishesOwed (IsOwedFor exports_freezes n input no_history) end sink
refused_behind n input text file WantsMemory end sink short split why nothing = inl nothing
refused_behind n input text file (Fault fault) end sink short split why finishes =
    inr (
      BadInput (File fault),
      refusal_line (File fault),
      (inr (short, inr (text, file, split, why)), refl, refl),
      finishes,
    )

-- What is owed at a line of the text is owed for the input.
pub at_line :
    (n : ℕ) (input text file : List ℕ) (day : Day) (end : End BallotsFault) (sink : Writing) → length input ≤ SHEET_LIMIT
    → IsDaySplit input text file → IsDayFile file day → FinishesOwed (IsOwedAtLine day text n) end sink
    → FinishesOwed (IsOwedFor exports_freezes n input no_history) end sink
at_line n input text file day end sink short split says (inl nothing) = inl nothing
at_line n input text file day end sink short split says (inr (due, bytes, owed, finishes)) =
    inr (due, bytes, by due owed, finishes)
  where
    said : Says input text day
    said = record { file = file; split = split; day_is = says }

    by :
        (due : End BallotsFault) → IsOwedAtLine day text n due bytes
        → IsOwedFor exports_freezes n input no_history due bytes
    by Done (history, at, written) =
        (short, record { text = text; day = day; says = said; history = history; at = at; file = written })
    by (BadInput (File fault)) (none, line) = absurd none
    by (BadInput (False k)) (none, line) = (inr (short, (text, day, said, none)), refl, line)
    by (BadInput (NoFreeze k)) (none, line) = (inr (short, (text, day, said, none)), refl, line)
    by SourceFault owed = absurd owed
    by BadWords owed = absurd owed
    by SinkFault owed = absurd owed
    by NoMemory owed = absurd owed

-- ---- a line of the text

module _ (day : Day) (text : List ℕ) (history : List Entry) (is : IsHistoryOf day.scripts history)
    (near : IsNearest day.scripts text history) (n : ℕ) (end : End BallotsFault) (sink : Writing) where
  pub refused_at :
      (fault : BallotsFault) → IsNotFound n text history fault
      → Finishes (BadInput fault) (refusal_line fault) end sink → FinishesOwed (IsOwedAtLine day text n) end sink
  refused_at fault not finishes =
      inr (
        BadInput fault,
        refusal_line fault,
        (none_at day text history is near n fault not, refl),
        finishes,
      )

  pub written_at :
      (version : VersionState) → IsFound n text history → version.at ≡ n → StandsIn version history
      → FinishesOwed (IsOwedFile day.roll version) end sink → FinishesOwed (IsOwedAtLine day text n) end sink
  written_at version found at stands (inl nothing) = inl nothing
  written_at version found at stands (inr (due, bytes, (done, written), finishes)) =
      inr (
        due,
        bytes,
        subst (λ (d : End BallotsFault). IsOwedAtLine day text n d bytes) (sym done)
            (file_at day text history is near n version bytes found at stands written),
        finishes,
      )

-- ---- what stood

pub file_of :
    (roll new : RollList) (version : VersionState) (struck : List ℕ) (plans : List PlanRows) (export : Exported)
    (bytes : List ℕ) → new ≡ roll_with roll struck → struck ≡ version.struck → plans ≡ version.plans → export.roll ≡ new
    → IsPermutation export.ballots (all_ballots plans) → IsBltText export.ballots export.roll bytes
    → IsOwedFile roll version Done bytes
file_of roll new version struck plans export bytes of_roll of_struck of_plans named moved written =
    let by_plans : IsPermutation export.ballots (all_ballots version.plans) =
    subst (λ (p : List PlanRows). IsPermutation export.ballots (all_ballots p)) of_plans moved in (
      refl,
      subst (λ (r : RollList). IsBltText (all_ballots version.plans) r bytes) of_named
          (text_moved export.ballots (all_ballots version.plans) export.roll bytes by_plans written),
    )
  where
    of_named : export.roll ≡ roll_with roll version.struck
    of_named = named ∙ (of_roll ∙ ap (λ (l : List ℕ). roll_with roll l) of_struck)

-- what was written, as the end of a run takes it
pub wrote_text :
    {S T E : Type 0} (w : S → Option (List ℕ)) (f : S → ℕ) (a b : S) (text : List ℕ) (r : Result T E) → Writes w f a b text r
    → Wrote text r (writing w f a b)
wrote_text w f a b text (Ok done) wrote = (wrote.calm, wrote.whole)
wrote_text w f a b text (Err stop) wrote = (wrote.rose, wrote.part)
