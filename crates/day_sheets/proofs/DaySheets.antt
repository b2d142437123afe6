-- The sheets that are due of a history are the sheets of its text.
use Rattle.std.proofs.Common.{◌≡◌, ℕ, List, [], ◌∷◌, ◌++◌, length, map, refl, sym, ap, ◌∙◌, subst}
use Rattle.std.specs.Prelude.{All}
use Rattle.std.proofs.lemmas.List.{append_assoc}
use Rattle.std.proofs.lemmas.List.Elements.{All-head, All-tail, All-map}
use Rattle.candidate_roll.specs.Roll.{RollList}
use Rattle.plain_ballots.specs.Ballots.{plain}
use Rattle.frozen_plan.specs.Plan.{PlanRows, all_ballots}
use Rattle.batch_core.specs.declared.entry.Entry.{Entry}
use Rattle.batch_core.specs.Histories.{standing_after, struck_after}
use Rattle.frozen_version.specs.Versions.{VersionState, StandsIn}
use Rattle.meek_rule.specs.Rule.{Meek}
use Rattle.sheet_text.specs.Laws.{OrderOfBallotsLeavesTheSheet}
use Rattle.sheet_text.specs.Lines.{ended}
use Rattle.sheet_text.specs.Sheet.{IsSheet}
use Rattle.lane_sheet.specs.Due.{CountDue, dues_of}
use Rattle.day_lines.specs.declared.terms.Terms.{Terms}
use Rattle.day_lines.specs.DayText.{roll_with, freeze_places, sheet_line, AreSheets, IsDayText}
use Rattle.day_sheets.specs.Frozen.{AreFrozen}
use Rattle.day_sheets.specs.DueSheets.{SheetDue, sheets_at, AreDueTexts, IsDayTextOf}

abbrev pub place_of : VersionState → ℕ
place_of version = version.at

abbrev pub roll_of : RollList → VersionState → RollList
roll_of roll version = roll_with roll version.struck

abbrev pub ballots_of : VersionState → List (List ℕ)
ballots_of version = all_ballots version.plans

texts_are_sheets :
    (terms : Terms) (history : List Entry) (p : ℕ) (versions : List VersionState) (text : List ℕ)
    → OrderOfBallotsLeavesTheSheet → terms.places ≡ p
    → All (λ v. StandsIn v history) versions
    → AreDueTexts p
    (sheets_at (map place_of versions)
    (dues_of terms.omega terms.lots (map (roll_of terms.roll) versions) (map ballots_of versions))) text
    → AreSheets terms history (map place_of versions) text
texts_are_sheets terms history p [] text leaves is standing nothing = nothing
texts_are_sheets terms history p (v ∷ versions) text leaves is standing (first, others, (sheet, of, line), more, whole) =
    let here = All-head (λ (w : VersionState). StandsIn w history) v versions standing in
    let stood = plain (standing_after history v.at) in
    let in_order : IsSheet p terms.omega stood (roll_with terms.roll v.struck) terms.lots sheet =
    (leaves Meek p terms.omega (ballots_of v) stood (roll_with terms.roll v.struck) terms.lots sheet here.ballots).0 of in
    let by_struck =
    subst
    (λ (struck : List ℕ). IsSheet p terms.omega stood (roll_with terms.roll struck) terms.lots sheet)
    here.struck in_order in (
      sheet,
      others,
      subst (λ (k : ℕ). IsSheet k terms.omega stood (roll_with terms.roll (struck_after history v.at))
          terms.lots sheet) (sym is) by_struck,
      texts_are_sheets terms history p versions others leaves is
          (All-tail (λ (w : VersionState). StandsIn w history) v versions standing) more,
      whole ∙ (ap (λ (l : List ℕ). l ++ others) line ∙ append_assoc (ended (sheet_line v.at)) sheet others),
    )

-- the ballots of the versions' plans
ballots_are : (versions : List VersionState) → map all_ballots (map (λ v. v.plans) versions) ≡ map ballots_of versions
ballots_are [] = refl
ballots_are (v ∷ versions) = ap (λ (l : List (List (List ℕ))). ballots_of v ∷ l) (ballots_are versions)

-- The text over the versions of all freezes is the history's text.
pub day_text_of :
    (terms : Terms) (history : List Entry) (p n : ℕ) (versions : List VersionState) (rolls : List RollList)
    (freezes : List ℕ) (plans : List (List PlanRows)) → OrderOfBallotsLeavesTheSheet → terms.places ≡ p
    → AreFrozen n history versions → rolls ≡ map (roll_of terms.roll) versions → freezes ≡ map place_of versions
    → plans ≡ map (λ v. v.plans) versions → (text : List ℕ)
    → IsDayTextOf p history freezes (dues_of terms.omega terms.lots rolls (map all_ballots plans)) text
    → IsDayText terms history text
day_text_of terms history p n versions rolls freezes plans leaves is frozen of_rolls of_freezes of_plans text (sheets, texts, whole) =
    let ballots = ap (map all_ballots) of_plans ∙ ballots_are versions in
    let of_versions =
    subst (λ (l : List SheetDue). AreDueTexts p l sheets)
    (λ i. sheets_at (of_freezes i) (dues_of terms.omega terms.lots (of_rolls i) (ballots i))) texts in (
      sheets,
      subst (λ (places : List ℕ). AreSheets terms history places sheets) frozen.places
          (texts_are_sheets terms history p versions sheets leaves is frozen.stand of_versions),
      whole,
    )

-- ---- candidates

pub rolls_of_all :
    (roll : RollList) (m : ℕ) (versions : List VersionState) (rolls : List RollList)
    → rolls ≡ map (roll_of roll) versions → length roll.names ≡ m → All (λ r. length r.names ≡ m) rolls
rolls_of_all roll m versions rolls of names =
    let Of : RollList → Type 0 = λ r. length r.names ≡ m in
    subst (All Of) (sym of) (All-map Of (roll_of roll) versions (λ k d below. names))
