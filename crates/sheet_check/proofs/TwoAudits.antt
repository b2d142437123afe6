-- What is owed for a sheet and a ballot file of two inputs.
use Rattle.std.proofs.Common.{◌≡◌, ℕ, ◌≤◌, List, length, refl, sym, ◌∙◌, ap, subst, inl, inr}
use Rattle.std.specs.Prelude.{Err}
use Rattle.check_words.specs.Laws.{AskOneThing}
use Rattle.check_words.specs.declared.asked.Asked.{Asked}
use Rattle.input_text.specs.declared.input_fault.InputFault.{InputFault}
use Rattle.input_text.specs.declared.input_stop.InputStop.{InputStop}
use Rattle.input_text.specs.declared.input_stop.InputStop.TheVariants.{Fault, NoMemory as NoInputRead}
use Rattle.blt_reader.specs.declared.election.Election.{Election}
use Rattle.blt_reader.specs.Election.{poll}
use Rattle.tool_edge.specs.declared.end.End.{End}
use Rattle.tool_edge.specs.declared.end.End.TheVariants.{BadInput}
use Rattle.tool_edge.specs.declared.opening.TheConstants.{FILE_LIMIT}
use Rattle.tool_edge.specs.Streams.{Writing}
use Rattle.tool_edge.specs.Refusals.{fault_line}
use Rattle.tool_edge.specs.Contest.{IsContest, ReadsContest}
use Rattle.tool_edge.specs.Finishing.{FinishesOwed, RefusesInput}
use Rattle.tool_edge.specs.Tool.{IsOwedFor, IsSound, no_history}
use Rattle.tool_edge.specs.Tools.{ContestsAreNotRefused, ContestsAreRefusedOnce}
use Rattle.sheet_check.specs.declared.terms.Terms.{Terms}
use Rattle.sheet_check.specs.Audit.{IsOwedVerdict, OwesVerdict, audits_two}
use Rattle.sheet_check.specs.Terms.{terms_of}
use Rattle.sheet_check.specs.TwoInputs.{over_file}

pub sound :
    AskOneThing → ContestsAreNotRefused → ContestsAreRefusedOnce → (sheet : List ℕ) → IsSound (over_file audits_two sheet)
sound one either once sheet = record {
  one = one;
  either = λ asked. either asked.lots;
  once = λ asked. once asked.lots;
  owed = λ asked file history bytes owes. (owes.poll, owes.says);
}

-- The file or the lots are refused.
pub refused :
    (asked : Asked) (sheet file lots : List ℕ) (stop : InputStop) (end : End InputFault) (sink : Writing)
    → length file ≤ FILE_LIMIT → lots ≡ asked.lots → ReadsContest lots file (Err stop) → RefusesInput stop end sink
    → FinishesOwed (IsOwedFor (over_file audits_two sheet) asked file no_history) end sink
refused asked sheet file lots (Fault fault) end sink short same why finishes =
    let of_asked = subst (λ (l : List ℕ). ReadsContest l file (Err (Fault fault))) same why in
    inr (BadInput fault, fault_line fault, (inr (short, of_asked), refl, refl), finishes)
refused asked sheet file lots NoInputRead end sink short same why nothing = inl nothing

owed :
    (asked : Asked) (sheet file : List ℕ) (election : Election) (terms : Terms) (due : End InputFault) (bytes : List ℕ)
    → length file ≤ FILE_LIMIT → IsContest asked.lots file (record { election = election; lots = terms.lots })
    → terms ≡ terms_of asked → IsOwedVerdict (poll election) terms sheet due bytes
    → IsOwedFor (over_file audits_two sheet) asked file no_history due bytes
owed asked sheet file election terms due bytes short is same (done, verdict) =
    subst (λ (d : End InputFault). IsOwedFor (over_file audits_two sheet) asked file no_history d bytes) (sym done) (
      short,
      record {
        poll = poll election;
        says = is.says;
        verdict = subst (λ (t : Terms). OwesVerdict (poll election) t sheet bytes) same verdict;
      },
    )

-- The verdict on the text by the file is what is owed for both.
pub judged :
    (asked : Asked) (sheet file text lots order : List ℕ) (election : Election) (terms : Terms) (end : End InputFault)
    (sink : Writing) → length file ≤ FILE_LIMIT → text ≡ sheet → order ≡ asked.lots
    → IsContest order file (record { election = election; lots = lots })
    → terms ≡ record { lots = lots; rule = asked.rule; places = asked.places; omega = asked.omega }
    → FinishesOwed (IsOwedVerdict (poll election) terms text) end sink
    → FinishesOwed (IsOwedFor (over_file audits_two sheet) asked file no_history) end sink
judged asked sheet file text lots order election terms end sink short same asks is terms_are (inl nothing) = inl nothing
judged asked sheet file text lots order election terms end sink short same asks is terms_are
    (inr (due, bytes, written, finishes)) =
    let of_asked =
    subst (λ (l : List ℕ). IsContest l file (record { election = election; lots = lots })) asks is in
    let by_terms =
    subst (λ (l : List ℕ). IsContest asked.lots file (record { election = election; lots = l }))
    (sym (ap (λ (t : Terms). t.lots) terms_are)) of_asked in
    let are =
    terms_are
    ∙ ap (λ (l : List ℕ). let t : Terms = record { lots = l; rule = asked.rule; places = asked.places; omega = asked.omega } in t)
    of_asked.lots_are in
    let on_sheet = subst (λ (s : List ℕ). IsOwedVerdict (poll election) terms s due bytes) same written in
    inr (due, bytes, owed asked sheet file election terms due bytes short by_terms are on_sheet, finishes)
