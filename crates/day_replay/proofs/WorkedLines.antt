-- Lines of calls, worked by hand.
use Rattle.std.proofs.Common.{◌≡◌, ◌≢◌, ℕ, zero, suc, ◌+◌, ◌<◌, List, ◌++◌, refl, ap}
use Rattle.std.proofs.Common.{subst, arith, codes, get_or}
use Rattle.std.specs.Prelude.{slice_get, Some, Option, unwrap_or}
use Rattle.std.specs.Fmt.{digits}
use Rattle.batch_core.specs.declared.call.Call.TheVariants.{Strike}
use Rattle.batch_core.specs.declared.reply.Reply.TheVariants.{Entered, Corrected, Struck}
use Rattle.batch_core.specs.declared.entry.Entry.{Entry}
use Rattle.day_lines.specs.EntryText.{entry_line}
use Rattle.sheet_text.specs.Lines.{ended}
use Rattle.sheet_check.specs.Difference.{line_at}
use Rattle.day_lines.specs.DayHistory.{clerk_freeze}
use Rattle.day_replay.specs.Nearest.{BeginsAs}
use Rattle.day_replay.specs.Worked.{WorkedLines, WorkedCallers, made_by, enter, correct, morning, morning_text, entered_line}

-- what is at a place of a list of known entries
got : (e x : Entry) → Some x ≡ Some e → x ≡ e
got e x at = ap (λ (o : Option Entry). unwrap_or o x) at

abbrev line_is : (text : List ℕ) → (k : ℕ) → (x : Entry) → Type 0
line_is text k x = line_at k text ≡ ended (entry_line (k + 1) x)

-- the lines of all calls
all_lines : (n : ℕ) → BeginsAs n morning_text morning
unfolding digits
all_lines n zero e below at = subst (line_is morning_text 0) (got e (made_by 1 enter Entered) at) refl
all_lines n (suc zero) e below at = subst (line_is morning_text 1) (got e (made_by 1 correct (Corrected 2)) at) refl
all_lines n (suc (suc zero)) e below at = subst (line_is morning_text 2) (got e (made_by 12 (Strike 2) Struck) at) refl
all_lines n (suc (suc (suc zero))) e below at = subst (line_is morning_text 3) (got e clerk_freeze at) refl
all_lines n (suc (suc (suc (suc k)))) e below at = absurd (cc)

-- a text whose line k is another
other_line :
    (n k : ℕ) (text : List ℕ) (e : Entry) → k < n → slice_get morning k ≡ Some e
    → line_at k text ≢ ended (entry_line (k + 1) e)
    → BeginsAs n text morning → ⊥
other_line n k text e below at other begins = other (begins k e below at)

pub worked_lines : WorkedLines
unfolding digits
worked_lines = record {
  all = all_lines 4;
  no_more_than_all = all_lines 9;
  of_the_first = first;
  other_revision =
      other_line 2 1 (entered_line ++ codes "2 team 1 correct 7 1 corrected 1\n")
      (made_by 1 correct (Corrected 2)) (omega arith) refl
      (λ same. absurd (omega (arith, ap (λ (l : List ℕ). get_or l 31 0) same)));
  other_team =
      other_line 1 0 (codes "1 team 2 enter 7 entered\n") (made_by 1 enter Entered) (omega arith) refl
      (λ same. absurd (omega (arith, ap (λ (l : List ℕ). get_or l 7 0) same)));
  other_batch =
      other_line 1 0 (codes "1 team 1 enter 8 entered\n") (made_by 1 enter Entered) (omega arith) refl
      (λ same. absurd (omega (arith, ap (λ (l : List ℕ). get_or l 15 0) same)));
  numbered_from_0 =
      other_line 1 0 (codes "0 team 1 enter 7 entered\n") (made_by 1 enter Entered) (omega arith) refl
      (λ same. absurd (omega (arith, ap (λ (l : List ℕ). get_or l 0 0) same)));
  not_ended =
      other_line 1 0 (codes "1 team 1 enter 7 entered") (made_by 1 enter Entered) (omega arith) refl
      (λ same. absurd (omega (arith, ap (λ (l : List ℕ). get_or l 24 0) same)));
  missing =
      other_line 2 1 entered_line (made_by 1 correct (Corrected 2)) (omega arith) refl
      (λ same. absurd (omega (arith, ap (λ (l : List ℕ). get_or l 0 0) same)));
}
  where
    first : BeginsAs 1 (entered_line ++ codes "2 team 1 correct 7 1 corrected 1\n") morning
    first zero e below at =
        subst (line_is (entered_line ++ codes "2 team 1 correct 7 1 corrected 1\n") 0)
        (got e (made_by 1 enter Entered) at) refl
    first (suc k) e below at = absurd (omega (arith, below))

pub worked_callers : WorkedCallers
unfolding digits
worked_callers = record {
  team = (codes "strike 2 struck\n", refl);
  clerk = (codes "freeze frozen\n", refl);
  whatever_is_said = (codes "\n", refl);
  half_a_number = λ says. absurd (omega (arith, ap (λ (l : List ℕ). get_or l 8 0) says.1));
  other_number = λ says. absurd (omega (arith, ap (λ (l : List ℕ). get_or l 0 0) says.1));
  no_call = λ says. absurd (omega (arith, ap (λ (l : List ℕ). get_or l 8 0) says.1));
}
