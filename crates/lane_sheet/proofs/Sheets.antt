-- The sheet of a count that was just begun.
use Rattle.std.proofs.Common.{◌≡◌, ℕ, List, ◌∷◌, [], length, Option, Result, Ok, Err, refl, sym, subst, ◌∙◌}
use Rattle.std.specs.Prelude.{OnOk, OnErr, IsPermutation}
use Rattle.candidate_roll.specs.Roll.{RollList}
use Rattle.byte_edge.specs.Faults.{CountsFault}
use Rattle.fixed_place.specs.Rounding.{scale}
use Rattle.meek_rule.specs.Rule.{Meek}
use Rattle.meek_rule.specs.Situation.{Situation}
use Rattle.meek_count.specs.Rows.{Rows}
use Rattle.meek_count.specs.Progress.{Progress, HasJustBegun, HasRest}
use Rattle.sheet_text.specs.Lines.{text_of_lines}
use Rattle.sheet_text.specs.Laws.{OrderOfBallotsLeavesTheSheet}
use Rattle.sheet_text.specs.Sheet.{IsSheet, sheet_lines, AppendsSheet, AppendsFrontOfSheet}
use Rattle.lane_sheet.specs.Due.{CountDue, due_in, due_of, HasSheet, IsSheetDue, IsOneSheet, WritesSome, WritesOrWants}

-- there is one
pub sheet_of :
    (places : ℕ) (count : Progress) → HasJustBegun (scale places) count → HasRest Meek (scale places) count
    → HasSheet places (due_in count)
sheet_of places count begun (rows, last, rest) = (
  text_of_lines (sheet_lines places count.roll (length count.ballots) rows last),
  (
    rows,
    last,
    subst (λ (now : Situation). Rows Meek (scale places) count.ballots count.lots now rows last) begun rest,
    refl,
  ),
)

-- it was written, or a front of it
pub wrote_sheet :
    {S T E : Type 0} (w : S → Option (List ℕ)) (f : S → ℕ) (a b : S) (places : ℕ) (count : Progress) (r : Result T E)
    → OnOk r (AppendsSheet Meek places count (w a) (w b)) → OnErr r (AppendsFrontOfSheet Meek places count (w a) (w b))
    → CountsFault (f a) (f b) r → WritesSome (IsSheetDue places (due_in count)) w f a b r
wrote_sheet w f a b places count (Ok x) (sheet, is, all) front faults = (sheet, is, record { whole = all; calm = faults })
wrote_sheet w f a b places count (Err e) all (sheet, is, front) faults = (sheet, is, record { part = front; rose = faults })

-- a text like this is one like that
pub written_as :
    {S T E : Type 0} (w : S → Option (List ℕ)) (f : S → ℕ) (a b : S) (IsOne IsOther : List ℕ → Type 0) (r : Result T E)
    → ((text : List ℕ) → IsOne text → IsOther text) → WritesSome IsOne w f a b r → WritesSome IsOther w f a b r
written_as w f a b IsOne IsOther r turned (text, is, did) = (text, turned text is, did)

-- the same, or memory was wanted
pub written_as_or :
    {S T E F : Type 0} (w : S → Option (List ℕ)) (f : S → ℕ) (a b : S) (IsOne IsOther : List ℕ → Type 0)
    (r : Result (Result T E) F) → ((text : List ℕ) → IsOne text → IsOther text) → WritesOrWants IsOne w f a b r
    → WritesOrWants IsOther w f a b r
written_as_or w f a b IsOne IsOther (Ok r) turned did = written_as w f a b IsOne IsOther r turned did
written_as_or w f a b IsOne IsOther (Err wants) turned same = same

-- ---- the only count

-- the sheet of this count is the one sheet
pub one_sheet :
    {S T E : Type 0} (w : S → Option (List ℕ)) (f : S → ℕ) (a b : S) (places : ℕ) (due : CountDue)
    (dues : List CountDue) (r : Result T E) → dues ≡ due ∷ [] → WritesSome (IsSheetDue places due) w f a b r
    → WritesSome (IsOneSheet places dues) w f a b r
one_sheet w f a b places due dues r only (sheet, is, wrote) = (sheet, (due, only, is), wrote)

only : (one other : CountDue) → one ∷ [] ≡ other ∷ [] → other ≡ one
only one other same = cc

-- the only sheet, of ballots in any order
pub sheet_in_order :
    (places omega : ℕ) (one other : List (List ℕ)) (roll : RollList) (lots : List ℕ) (dues : List CountDue)
    → dues ≡ due_of omega lots roll one ∷ [] → OrderOfBallotsLeavesTheSheet → IsPermutation one other
    → (text : List ℕ) → IsOneSheet places dues text → IsSheet places omega other roll lots text
sheet_in_order places omega one other roll lots dues are leaves same text (due, is, sheet) =
    (leaves Meek places omega one other roll lots text same).0
    (subst (λ (d : CountDue). IsSheetDue places d text) (only (due_of omega lots roll one) due (sym are ∙ is)) sheet)
