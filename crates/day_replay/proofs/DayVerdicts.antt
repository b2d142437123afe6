-- The history that is nearest to a text gives its verdict.
use Rattle.std.proofs.Common.{◌≡◌, ◌⊎◌, inl, inr, ℕ, ◌+◌, ◌<◌, ◌≤◌, List, length, take, get_or}
use Rattle.std.proofs.Common.{refl, sym, ap, ◌∙◌, subst, arith}
use Rattle.std.specs.Prelude.{slice_get, Some}
use Rattle.std.proofs.lemmas.Bool.{cases_lt}
use Rattle.std.proofs.lemmas.List.{take_all}
use Rattle.std.proofs.lemmas.Option.{slice_get-get_or}
use Rattle.batch_core.specs.declared.entry.Entry.{Entry}
use Rattle.day_reader.specs.declared.day.Day.{Day}
use Rattle.day_lines.specs.EntryText.{entry_line}
use Rattle.sheet_text.specs.Lines.{ended}
use Rattle.sheet_check.specs.Difference.{IsFirstDifference, line_at}
use Rattle.day_lines.specs.DayHistory.{IsHistoryOf, clerk_freeze}
use Rattle.day_lines.specs.DayText.{terms_of, IsDayText}
use Rattle.day_replay.specs.Nearest.{BeginsAs, IsNearest}
use Rattle.day_replay.specs.declared.day_verdict.DayVerdict.{DayVerdict}
use Rattle.day_replay.specs.declared.day_verdict.DayVerdict.TheVariants.{True, False}
use Rattle.day_replay.specs.Judged.{IsTextOf, BeginAlike, IsFalseAt, IsVerdict}
use Rattle.day_replay.proofs.DayEnds.{in_front, no_more}
use Rattle.day_replay.proofs.DayLines.{line_of_a_call}
use Rattle.day_lines.proofs.TermsLemmas.{AreTerms}
use Rattle.day_replay.proofs.DayTexts.{one_text}

module _ (day : Day) (are : AreTerms (terms_of day)) where
  -- the line of a history's call in its text
  call_line :
      (history : List Entry) (text : List ℕ) (k : ℕ) (e : Entry) → IsDayText (terms_of day) history text
      → slice_get history k ≡ Some e → line_at k text ≡ ended (entry_line (k + 1) e)
  call_line history text k e (sheets, is, whole) at =
      let place : 1 + k ≡ k + 1 = omega arith in
      ap (line_at k) whole ∙ (line_of_a_call 1 history sheets k e at ∙ ap (λ (n : ℕ). ended (entry_line n e)) place)

  module _ (text nearest : List ℕ) (history : List Entry) (is : IsHistoryOf day.scripts history)
      (near : IsNearest day.scripts text history) (of : IsDayText (terms_of day) history nearest) where
    -- no other history's text goes longer with the text
    goes_as_long :
        (n : ℕ) (other : List ℕ) (its : List Entry) → IsHistoryOf day.scripts its → IsDayText (terms_of day) its other
        → BeginAlike n text other → BeginAlike n text nearest
    goes_as_long n other its also whose alike = by (cases_lt (length its) n)
      where
        begins : (m : ℕ) → m ≤ n → BeginsAs m text its
        begins m few k e below at = alike k (omega (arith, few, below)) ∙ call_line its other k e whose at

        by : (length its < n) ⊎ (n ≤ length its) → BeginAlike n text nearest
        by (inl short) =
            let front : its ≡ take (length its) history =
            sym (take_all (length its) its (omega arith))
            ∙ near its (length its) also (omega arith) (begins (length its) (omega (arith, short))) in
            let same = no_more day.scripts history its is also front in
            let texts : other ≡ nearest =
            one_text (terms_of day) its other nearest are whose
            (subst (λ (h : List Entry). IsDayText (terms_of day) h nearest) same of) in
            subst (λ (t : List ℕ). BeginAlike n text t) texts alike
        by (inr long) = λ k below.
            let e = get_or its k clerk_freeze in
            let at : slice_get its k ≡ Some e = slice_get-get_or its k clerk_freeze (omega (arith, below, long)) in
            let fronts = near its n also long (begins n (omega arith)) in
            let there : slice_get history k ≡ Some e =
            sym (in_front history n k below)
            ∙ (ap (λ (l : List Entry). slice_get l k) (sym fronts) ∙ (in_front its n k below ∙ at)) in
            alike k below ∙ (call_line its other k e whose at ∙ sym (call_line history nearest k e of there))

    pub false_at : (n : ℕ) → IsFirstDifference text nearest n → IsFalseAt (IsTextOf day) text n
    false_at n differs = record {
      nearest = nearest;
      lawful = (history, is, of);
      differs = differs;
      no_longer = λ other lawful alike.
          let same = goes_as_long n other lawful.0 lawful.1 lawful.2 alike in
          differs.differs (same differs.line (let number = differs.number in omega (arith, number)));
    }

-- two verdicts on one text
module _ (IsLawful : List ℕ → Type 0) (text : List ℕ) where
  itself : (n : ℕ) → IsLawful text → IsFalseAt IsLawful text n → ⊥
  itself n is wrong = wrong.no_longer text is (λ k below. refl)

  earlier : (n m : ℕ) → IsFalseAt IsLawful text n → IsFalseAt IsLawful text m → n < m → ⊥
  earlier n m one other before =
      one.no_longer other.nearest other.lawful (λ k below. other.differs.same_before k
      (let number = other.differs.number in omega (arith, number, below, before)))

  one_line : (n m : ℕ) → IsFalseAt IsLawful text n → IsFalseAt IsLawful text m → n ≡ m
  one_line n m one other = by (cases_lt n m) (cases_lt m n)
    where
      by : (n < m) ⊎ (m ≤ n) → (m < n) ⊎ (n ≤ m) → n ≡ m
      by (inl before) second = absurd (earlier n m one other before)
      by (inr le) (inl before) = absurd (earlier m n other one before)
      by (inr le) (inr ge) = omega (arith, le, ge)

pub one_verdict :
    (IsLawful : List ℕ → Type 0) (text : List ℕ) (one other : DayVerdict) → IsVerdict IsLawful text one
    → IsVerdict IsLawful text other → one ≡ other
one_verdict IsLawful text True True p q = refl
one_verdict IsLawful text True (False n) p q = absurd (itself IsLawful text n p q)
one_verdict IsLawful text (False n) True p q = absurd (itself IsLawful text n q p)
one_verdict IsLawful text (False n) (False m) p q = ap (λ (k : ℕ). False k) (one_line IsLawful text n m p q)
