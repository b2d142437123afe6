-- What is accepted is not refused, and what is answered is owed.
use Rattle.std.proofs.Common.{◌≡◌, ℕ, ◌≤◌, List, length, take, refl, sym, ◌∙◌, ap, subst, inl, inr, arith}
use Rattle.std.specs.Prelude.{Err}
use Rattle.check_words.specs.Laws.{AskOneThing}
use Rattle.check_words.specs.declared.asked.Asked.{Asked}
use Rattle.input_text.specs.declared.input_fault.InputFault.{InputFault}
use Rattle.input_text.specs.declared.input_stop.InputStop.{InputStop}
use Rattle.input_text.specs.declared.input_stop.InputStop.TheVariants.{Fault, NoMemory as NoInputRead}
use Rattle.blt_reader.specs.declared.election.Election.{Election}
use Rattle.blt_reader.specs.Election.{poll}
use Rattle.tool_edge.specs.declared.end.End.{End}
use Rattle.tool_edge.specs.declared.end.End.TheVariants.{BadInput}
use Rattle.tool_edge.specs.declared.opening.TheConstants.{FILE_LIMIT}
use Rattle.tool_edge.specs.Streams.{Writing}
use Rattle.tool_edge.specs.Refusals.{fault_line}
use Rattle.tool_edge.specs.Contest.{IsContest, IsRefusedBehind, behind}
use Rattle.tool_edge.specs.Finishing.{Finishes, FinishesOwed, RefusesInput}
use Rattle.tool_edge.specs.Tool.{IsOwedFor, IsSound, no_history}
use Rattle.tool_edge.specs.Tools.{IsContestFile, FilesAreNotRefused}
use Rattle.tool_edge.specs.Tools.{ContestsAreNotRefused, ContestsAreRefusedOnce}
use Rattle.sheet_input.specs.declared.sheet_limit.TheConstants.{SHEET_LIMIT}
use Rattle.sheet_check.specs.declared.terms.Terms.{Terms}
use Rattle.sheet_check.specs.Input.{IsSplit}
use Rattle.sheet_check.specs.Behind.{IsShortContest, IsRefusedFileBehind, ReadsFileBehind}
use Rattle.sheet_check.specs.Audit.{IsAudit, EndsInSheet, IsRefusedAudit}
use Rattle.sheet_check.specs.Audit.{IsOwedVerdict, OwesVerdict, audits}
use Rattle.sheet_check.specs.Terms.{terms_of}
use Rattle.sheet_check.proofs.Splits.{file_once, sheet_once, front_is_sheet}

-- ---- soundness

not_behind :
    ContestsAreNotRefused → (before : ℕ) (lots file : List ℕ) (fault : InputFault) → IsContestFile lots file
    → IsRefusedBehind before lots file fault → ⊥
not_behind either before lots file fault contest (inl (of_file, refused, place)) =
    either lots file of_file contest (inl refused)
not_behind either before lots file fault contest (inr bad) = either lots file fault contest (inr bad)

not_file_behind :
    ContestsAreNotRefused → (before : ℕ) (lots file : List ℕ) (fault : InputFault) → IsShortContest lots file
    → IsRefusedFileBehind before lots file fault → ⊥
not_file_behind either before lots file fault (short, contest) (inl (long, place)) = omega (arith, short, long)
not_file_behind either before lots file fault (short, contest) (inr (fits, refused)) =
    not_behind either before lots file fault contest refused

not_refused :
    ContestsAreNotRefused → (lots input : List ℕ) (fault : InputFault) → IsAudit lots input
    → IsRefusedAudit lots input fault → ⊥
not_refused either lots input fault (sheet, file, split, contest) (inl ends) = ends.no_end split.at split.first.stands
not_refused either lots input fault (sheet, file, split, contest) (inr (other_sheet, other, other_split, refused)) =
    not_file_behind either (length other_sheet) lots file fault contest
    (subst (λ (f : List ℕ). IsRefusedFileBehind (length other_sheet) lots f fault)
    (file_once input sheet file other_sheet other split other_split) refused)

-- what is after the sheet is refused with one fault
behind_once :
    FilesAreNotRefused → ContestsAreRefusedOnce → (before : ℕ) (lots file : List ℕ) (fault other : InputFault)
    → IsRefusedBehind before lots file fault → IsRefusedBehind before lots file other → fault ≡ other
behind_once files once before lots file fault other (inl (of_file, refused, place))
    (inl (again, refused_again, place_again)) =
    place ∙ (ap (behind before) (once lots file of_file again (inl refused) (inl refused_again)) ∙ sym place_again)
behind_once files once before lots file fault other (inl (of_file, refused, place)) (inr bad) =
    absurd (files file of_file (bad.poll, bad.file) refused)
behind_once files once before lots file fault other (inr bad) (inl (again, refused, place)) =
    absurd (files file again (bad.poll, bad.file) refused)
behind_once files once before lots file fault other (inr bad) (inr again) = once lots file fault other (inr bad) (inr again)

file_behind_once :
    FilesAreNotRefused → ContestsAreRefusedOnce → (before : ℕ) (lots file : List ℕ) (fault other : InputFault)
    → IsRefusedFileBehind before lots file fault → IsRefusedFileBehind before lots file other → fault ≡ other
file_behind_once files once before lots file fault other (inl (long, place)) (inl (again, place_again)) =
    place ∙ sym place_again
file_behind_once files once before lots file fault other (inl (long, place)) (inr (fits, refused)) =
    absurd (omega (arith, long, fits))
file_behind_once files once before lots file fault other (inr (fits, refused)) (inl (long, place)) =
    absurd (omega (arith, long, fits))
file_behind_once files once before lots file fault other (inr (fits, refused)) (inr (again, refused_again)) =
    behind_once files once before lots file fault other refused refused_again

refused_once :
    FilesAreNotRefused → ContestsAreRefusedOnce → (lots input : List ℕ) (fault other : InputFault)
    → IsRefusedAudit lots input fault → IsRefusedAudit lots input other → fault ≡ other
refused_once files once lots input fault other (inl ends) (inl again) = ends.fault_is ∙ sym again.fault_is
refused_once files once lots input fault other (inl ends) (inr (sheet, file, split, refused)) =
    absurd (ends.no_end split.at split.first.stands)
refused_once files once lots input fault other (inr (sheet, file, split, refused)) (inl ends) =
    absurd (ends.no_end split.at split.first.stands)
refused_once files once lots input fault other (inr (sheet, file, split, refused))
    (inr (sheet_again, file_again, split_again, refused_again)) =
    let here =
    subst (λ (s : List ℕ). IsRefusedFileBehind (length s) lots file_again other)
    (sheet_once input sheet file sheet_again file_again split split_again) refused_again in
    file_behind_once files once (length sheet) lots file fault other refused
    (subst (λ (f : List ℕ). IsRefusedFileBehind (length sheet) lots f other)
    (file_once input sheet file sheet_again file_again split split_again) here)

pub sound : AskOneThing → FilesAreNotRefused → ContestsAreNotRefused → ContestsAreRefusedOnce → IsSound audits
sound one files either once = record {
  one = one;
  either = λ asked. not_refused either asked.lots;
  once = λ asked. refused_once files once asked.lots;
  owed = λ asked input history bytes owes. (owes.sheet, owes.file, owes.split, (owes.short, (owes.poll, owes.says)));
}

-- ---- the whole input

-- No line is `end`.
pub ended_early :
    (asked : Asked) (input : List ℕ) (fault : InputFault) (end : End InputFault) (sink : Writing)
    → length input ≤ SHEET_LIMIT
    → EndsInSheet input fault → Finishes (BadInput fault) (fault_line fault) end sink
    → FinishesOwed (IsOwedFor audits asked input no_history) end sink
ended_early asked input fault end sink short ends finishes =
    inr (BadInput fault, fault_line fault, (inr (short, inl ends), refl, refl), finishes)

-- What is after the sheet is refused.
pub refused_behind :
    (asked : Asked) (input sheet file : List ℕ) (before : ℕ) (stop : InputStop) (end : End InputFault) (sink : Writing)
    → length input ≤ SHEET_LIMIT
    → IsSplit input sheet file → before ≡ length sheet → ReadsFileBehind before asked.lots file (Err stop)
    → RefusesInput stop end sink → FinishesOwed (IsOwedFor audits asked input no_history) end sink
refused_behind asked input sheet file before (Fault fault) end sink short split same why finishes =
    let at = subst (λ (n : ℕ). IsRefusedFileBehind n asked.lots file fault) same why in
    inr (BadInput fault, fault_line fault, (inr (short, inr (sheet, file, split, at)), refl, refl), finishes)
refused_behind asked input sheet file before NoInputRead end sink short split same why nothing = inl nothing

owed_for_input :
    (asked : Asked) (input sheet file : List ℕ) (election : Election) (terms : Terms) (due : End InputFault) (bytes : List ℕ)
    → length input ≤ SHEET_LIMIT
    → IsSplit input sheet file → length file ≤ FILE_LIMIT
    → IsContest asked.lots file (record { election = election; lots = terms.lots }) → terms ≡ terms_of asked
    → IsOwedVerdict (poll election) terms sheet due bytes → IsOwedFor audits asked input no_history due bytes
owed_for_input asked input sheet file election terms due bytes short split fits is same (done, owed) =
    subst (λ (d : End InputFault). IsOwedFor audits asked input no_history d bytes) (sym done) (
      short,
      record {
        sheet = sheet;
        file = file;
        split = split;
        short = fits;
        poll = poll election;
        says = is.says;
        verdict = subst (λ (t : Terms). OwesVerdict (poll election) t sheet bytes) same owed;
      },
    )

-- The verdict on the sheet is what is owed for the input.
judged :
    (asked : Asked) (input sheet file : List ℕ) (election : Election) (terms : Terms) (end : End InputFault) (sink : Writing)
    → length input ≤ SHEET_LIMIT
    → IsSplit input sheet file → length file ≤ FILE_LIMIT
    → IsContest asked.lots file (record { election = election; lots = terms.lots }) → terms ≡ terms_of asked
    → FinishesOwed (IsOwedVerdict (poll election) terms sheet) end sink
    → FinishesOwed (IsOwedFor audits asked input no_history) end sink
judged asked input sheet file election terms end sink short split fits is same (inl nothing) = inl nothing
judged asked input sheet file election terms end sink short split fits is same (inr (due, bytes, owed, finishes)) =
    inr (due, bytes, owed_for_input asked input sheet file election terms due bytes short split fits is same owed, finishes)

-- The same where the verdict is on what is left of the input without its file.
pub judged_front :
    (asked : Asked) (input sheet file front lots : List ℕ) (election : Election) (terms : Terms) (end : End InputFault)
    (sink : Writing) → length input ≤ SHEET_LIMIT
    → IsSplit input sheet file → front ≡ take (length sheet) input → length file ≤ FILE_LIMIT
    → IsContest asked.lots file (record { election = election; lots = lots })
    → terms ≡ record { lots = lots; rule = asked.rule; places = asked.places; omega = asked.omega }
    → FinishesOwed (IsOwedVerdict (poll election) terms front) end sink
    → FinishesOwed (IsOwedFor audits asked input no_history) end sink
judged_front asked input sheet file front lots election terms end sink short split same fits is terms_are finishes =
    judged asked input sheet file election terms end sink short split fits
    (subst (λ (l : List ℕ). IsContest asked.lots file (record { election = election; lots = l }))
    (sym (ap (λ (t : Terms). t.lots) terms_are)) is)
    (terms_are
    ∙ ap (λ (l : List ℕ). let t : Terms = record { lots = l; rule = asked.rule; places = asked.places; omega = asked.omega } in t)
    is.lots_are)
    (subst (λ (s : List ℕ). FinishesOwed (IsOwedVerdict (poll election) terms s) end sink)
    (same ∙ front_is_sheet input sheet file split) finishes)
