-- The text of a history that is printed has the form, with the history and the counts of its freezes.
use Rattle.std.proofs.Common.{◌≡◌, ℕ, ◌+◌, ◌==◌, Bool, true, false, cond, List, [], ◌∷◌, ◌++◌, All, length}
use Rattle.std.proofs.Common.{refl, sym, ap, ◌∙◌, append_assoc}
use Rattle.std.specs.Prelude.{decimal}
use Rattle.std.proofs.lemmas.List.Elements.{All-nil, All-cons}
use Rattle.plain_ballots.specs.Ballots.{plain}
use Rattle.candidate_roll.specs.Roll.{RollList}
use Rattle.meek_rule.specs.Rule.{Meek}
use Rattle.sheet_text.specs.Lines.{ended}
use Rattle.sheet_reader.specs.Form.{HasForm}
use Rattle.sheet_reader.specs.Laws.{HasNames, SheetsHaveTheForm, values_of}
use Rattle.batch_core.specs.declared.change.Change.TheVariants.{Enter, Correct, Withdraw}
use Rattle.batch_core.specs.declared.call.Call.{Call}
use Rattle.batch_core.specs.declared.call.Call.TheVariants.{Change as Changes, Freeze, Strike}
use Rattle.batch_core.specs.declared.entry.Entry.{Entry}
use Rattle.batch_core.specs.Histories.{standing_after, struck_after, own_calls}
use Rattle.day_reader.specs.Call.{is_freeze}
use Rattle.day_lines.specs.EntryText.{call_text, caller_text, reply_text}
use Rattle.day_lines.specs.declared.terms.Terms.{Terms}
use Rattle.day_lines.specs.DayText.{roll_with, freeze_places, sheet_line, AreSheets}
use Rattle.day_lines.specs.DayHistory.{clerk_freeze, EndsWithTheClerk}
use Rattle.day_text.specs.Form.{IsPrintableSheet, sheet_places}
use Rattle.day_text.specs.Laws.{WrittenDaysAreRead}
use Rattle.day_text.specs.Values.{FrozenSheet, DayTextList, sheets_text}
use Rattle.day_text.specs.Without.{call_without, entry_without, without_ballots}
use Rattle.day_text.specs.Written.{SaysCountAt, MayBePrinted, HistoriesHaveTheForm, HistoriesAreReadBack}
use Rattle.day_text.proofs.Freezes.{freezes_from, freezes_cons, place_of}
use Rattle.day_text.proofs.Histories.{entries_from}

-- ---- lines print no ballots

same_call : (call : Call) → call_text (call_without call) ≡ call_text call
same_call (Changes (Enter batch ballots)) = refl
same_call (Changes (Correct batch revision ballots)) = refl
same_call (Changes (Withdraw batch revision)) = refl
same_call Freeze = refl
same_call (Strike candidate) = refl

still_freezes : (call : Call) → is_freeze (call_without call) ≡ is_freeze call
still_freezes (Changes change) = refl
still_freezes Freeze = refl
still_freezes (Strike candidate) = refl

same_lines : (n : ℕ) (history : List Entry) → entries_from n (without_ballots history) ≡ entries_from n history
same_lines n [] = refl
same_lines n (e ∷ history) =
    λ i. ended (((decimal_part n e) ++ 32 ∷ same_call e.call i) ++ 32 ∷ reply_text e.reply) ++ same_lines (n + 1) history i
  where
    decimal_part : ℕ → Entry → List ℕ
    decimal_part n e = decimal n ++ 32 ∷ caller_text e.caller

same_freezes : (n : ℕ) (history : List Entry) → freezes_from n (without_ballots history) ≡ freezes_from n history
same_freezes n [] = refl
same_freezes n (e ∷ history) =
    freezes_cons n (entry_without e) (without_ballots history)
    ∙ ((λ i. place_of n (still_freezes e.call i) ++ same_freezes (n + 1) history i) ∙ sym (freezes_cons n e history))

same_callers :
    (caller : ℕ) (history : List Entry)
    → own_calls caller (without_ballots history) ≡ without_ballots (own_calls caller history)
same_callers caller [] = refl
same_callers caller (e ∷ history) = by (e.caller == caller) (same_callers caller history)
  where
    by :
        (t : Bool) → own_calls caller (without_ballots history) ≡ without_ballots (own_calls caller history)
        → cond t (entry_without e ∷ own_calls caller (without_ballots history)) (own_calls caller (without_ballots history))
        ≡ without_ballots (cond t (e ∷ own_calls caller history) (own_calls caller history))
    by true same = ap (λ (l : List Entry). entry_without e ∷ l) same
    by false same = same

without_push :
    (before : List Entry) (e : Entry)
    → without_ballots (before ++ e ∷ []) ≡ without_ballots before ++ entry_without e ∷ []
without_push [] e = refl
without_push (b ∷ before) e = ap (λ (l : List Entry). entry_without b ∷ l) (without_push before e)

still_ends : (history : List Entry) → EndsWithTheClerk history → EndsWithTheClerk (without_ballots history)
still_ends history ends = record {
  before = without_ballots ends.before;
  last = ap without_ballots ends.last ∙ without_push ends.before clerk_freeze;
  no_other = same_callers 0 ends.before ∙ ap without_ballots ends.no_other;
}

-- ---- sheets

-- The sheets of freezes, as values.
record SheetsOf (terms : Terms) (history : List Entry) (freezes text : List ℕ) : Type 0 where
  sheets : List FrozenSheet
  freezes_are : sheet_places sheets ≡ freezes
  printable : All (IsPrintableSheet terms.places) sheets
  counts : All (SaysCountAt terms history) sheets
  text_is : text ≡ sheets_text terms.places sheets

still_named : (roll : RollList) (struck : List ℕ) → HasNames roll → HasNames (roll_with roll struck)
still_named roll struck is = record { title = is.title; names = is.names }

module _ (form : SheetsHaveTheForm) (terms : Terms) (history : List Entry) (may : MayBePrinted terms history) where
  sheets_of : (freezes text : List ℕ) → AreSheets terms history freezes text → SheetsOf terms history freezes text
  sheets_of [] text is = record {
    sheets = [];
    freezes_are = refl;
    printable = All-nil (IsPrintableSheet terms.places);
    counts = All-nil (SaysCountAt terms history);
    text_is = is;
  }
  sheets_of (n ∷ freezes) text (sheet, others, is, more, whole) =
      let ballots = plain (standing_after history n) in
      let roll = roll_with terms.roll (struck_after history n) in
      let values = values_of roll (length ballots) is.0 is.1 in
      let has : HasForm terms.places sheet values =
      form Meek terms.places terms.omega ballots roll terms.lots sheet is.0 is.1 (may.elections n)
      (still_named terms.roll (struck_after history n) may.names) is is.2 in
      let s : FrozenSheet = record { freeze = n; values = values } in
      let rest = sheets_of freezes others more in
      record {
        sheets = s ∷ rest.sheets;
        freezes_are = ap (λ (l : List ℕ). n ∷ l) rest.freezes_are;
        printable = All-cons (IsPrintableSheet terms.places) s rest.sheets has.in_range rest.printable;
        counts = All-cons (SaysCountAt terms history) s rest.sheets (is.0, is.1, is.2, refl) rest.counts;
        text_is =
            whole
            ∙ ((λ i. ended (sheet_line n) ++ (has.text i ++ rest.text_is i))
            ∙ sym (append_assoc (ended (sheet_line n)) _ (sheets_text terms.places rest.sheets)));
      }

pub has_form : SheetsHaveTheForm → HistoriesHaveTheForm
has_form form terms history text may (own, sheets, whole) =
    let read = sheets_of form terms history may (freeze_places history) own sheets in
    let values : DayTextList = record { history = without_ballots history; sheets = read.sheets } in (
      values,
      record {
        calls = may.calls;
        ends = still_ends history may.ends;
        freezes = read.freezes_are ∙ sym (same_freezes 1 history);
        sheets = read.printable;
        text = whole ∙ (λ i. sym (same_lines 1 history) i ++ read.text_is i);
      },
      record { calls = refl; sheets = read.counts },
    )

pub is_read_back : SheetsHaveTheForm → WrittenDaysAreRead → HistoriesAreReadBack
is_read_back form read terms history text result may is reads =
    let own = has_form form terms history text may is in
    let places = (may.elections 0) in
    (own.0, own.2, read terms.places text own.0 result places.places_from places.places_to own.1 reads)
