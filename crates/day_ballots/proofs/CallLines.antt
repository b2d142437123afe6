-- The lines of a history's calls, and a text in which they stand.
use Rattle.std.proofs.Common.{◌≡◌, ℕ, ◌+◌, ◌<◌, ◌≤◌, List, [], length, refl, sym, ap, ◌∙◌, subst, arith, get_or, inl, inr}
use Rattle.std.specs.Prelude.{slice_get, Option, Some, None, Result, Ok, Err, OnOk, OnErr, MatchOption}
use Rattle.std.specs.Io.KnownBytes.{Appends}
use Rattle.byte_edge.specs.Bytes.{AppendsFront}
use Rattle.byte_edge.specs.Faults.{CountsFault}
use Rattle.byte_edge.specs.declared.failed.Failed.{Failed}
use Rattle.piece_text.specs.Writing.{Writes}
use Rattle.std.proofs.lemmas.Bool.{cases_lt}
use Rattle.std.proofs.lemmas.List.{append-nil}
use Rattle.std.proofs.lemmas.Option.{slice_get-get_or}
use Rattle.batch_core.specs.declared.entry.Entry.{Entry}
use Rattle.day_lines.specs.EntryText.{entry_line, entries_text}
use Rattle.sheet_text.specs.Lines.{ended}
use Rattle.sheet_check.specs.Comparison.{Comparison, IsCompared, told}
use Rattle.sheet_check.specs.Difference.{IsFirstDifference, line_at}
use Rattle.sheet_check.proofs.Differences.{Tells, compared}
use Rattle.day_lines.specs.DayHistory.{clerk_freeze}
use Rattle.day_replay.specs.Nearest.{BeginsAs}
use Rattle.day_replay.proofs.Lists.{inside}
use Rattle.day_replay.proofs.DayLines.{line_of_a_call}
use Rattle.day_ballots.specs.Found.{IsFirstOther}

-- the line of a call is at its place
call_line :
    (history : List Entry) (k : ℕ) (e : Entry) → slice_get history k ≡ Some e
    → line_at k (entries_text history) ≡ ended (entry_line (k + 1) e)
call_line history k e at =
    let place : 1 + k ≡ k + 1 = omega arith in
    ap (line_at k) (sym (append-nil (entries_text history)))
    ∙ (line_of_a_call 1 history [] k e at ∙ ap (λ (n : ℕ). ended (entry_line n e)) place)

module _ (text : List ℕ) (history : List Entry) where
  -- these are all lines of the text
  pub whole : (n : ℕ) → text ≡ entries_text history → BeginsAs n text history
  whole n same k e below at = ap (line_at k) same ∙ call_line history k e at

  -- lines before the first that differs
  begins : (n d : ℕ) → IsFirstDifference text (entries_text history) d → ((k : ℕ) → k < n → k < length history → k + 1 < d)
      → BeginsAs n text history
  begins n d first before k e below at =
      let there = before k below (inside history k e at) in
      let number = first.number in
      first.same_before k (omega (arith, there, number)) ∙ call_line history k e at

  -- The first line that differs is that of one of the first n calls.
  pub first_other :
      (n d : ℕ) → IsFirstDifference text (entries_text history) d → d ≤ n → d ≤ length history
      → IsFirstOther n text history d
  first_other n d first asked call = record {
    before = first.line;
    number = first.number;
    asked = asked;
    call = call;
    so_far = begins first.line d first (λ k below more. let number = first.number in omega (arith, below, number));
    differs = λ same.
        let number = first.number in
        let inner : first.line < length history = omega (arith, number, call) in
        let e = get_or history first.line clerk_freeze in
        let at : slice_get history first.line ≡ Some e = slice_get-get_or history first.line clerk_freeze inner in
        first.differs (same first.line e (omega (arith, number)) at ∙ sym (call_line history first.line e at));
  }

  -- It is after the n-th call, or after all.
  pub behind :
      (n d : ℕ) → IsFirstDifference text (entries_text history) d → (d ≤ n → d ≤ length history → ⊥)
      → BeginsAs n text history
  behind n d first not = begins n d first (λ k below more. by k below more)
    where
      by : (k : ℕ) → k < n → k < length history → k + 1 < d
      by k below more =
          elim (cases_lt (k + 1) d) [
            | inl lt ↦ lt
            | inr le ↦ absurd (not (omega (arith, le, below)) (omega (arith, le, more)))
          ]

-- ---- the lines, compared as they were written

wrote :
    {S T E : Type 0} (w : S → Option (List ℕ)) (f : S → ℕ) (a b : S) (text : List ℕ) (r : Result T E)
    → OnOk r (Appends (w a) (w b) text) → OnErr r (AppendsFront (w a) (w b) text) → CountsFault (f a) (f b) r
    → Writes w f a b text r
wrote w f a b text (Ok x) all front faults = record { whole = all; calm = faults }
wrote w f a b text (Err e) all front faults = record { part = front; rose = faults }

pub compared_lines :
    (text : List ℕ) (history : List Entry) (start end : Comparison) (r : Result (Unit {0}) Failed) (found : Option ℕ)
    → start ≡ record { bytes = text; at = 0; other = None; faults = 0 }
    → OnOk r (Appends (Some (told start)) (Some (told end)) (entries_text history))
    → OnErr r (AppendsFront (Some (told start)) (Some (told end)) (entries_text history))
    → CountsFault start.faults end.faults r → Tells end r found
    → IsCompared (λ lines. lines ≡ entries_text history) text found
compared_lines text history start end r found starts all front faults tells =
    compared (λ lines. lines ≡ entries_text history) text start end r found starts (
      entries_text history,
      refl,
      wrote (λ c. Some (told c)) (λ c. c.faults) start end (entries_text history) r all front faults,
    )
    tells

-- ---- the first of the calls whose line is another

module _ (text : List ℕ) (history : List Entry) where
  pub is_other :
      (n d : ℕ) → IsCompared (λ lines. lines ≡ entries_text history) text (Some d) → d ≤ n → d ≤ length history
      → IsFirstOther n text history d
  is_other n d (lines, are, first) asked call =
      first_other text history n d (subst (λ (l : List ℕ). IsFirstDifference text l d) are first) asked call

  pub is_behind :
      (n d : ℕ) → IsCompared (λ lines. lines ≡ entries_text history) text (Some d) → (d ≤ n → d ≤ length history → ⊥)
      → BeginsAs n text history
  is_behind n d (lines, are, first) not =
      behind text history n d (subst (λ (l : List ℕ). IsFirstDifference text l d) are first) not

  -- no line differs
  pub no_difference :
      (n : ℕ) (found : Option ℕ) → found ≡ None → text ≡ entries_text history
      → MatchOption found (BeginsAs n text history) (IsFirstOther n text history)
  no_difference n found none same =
      subst (λ (o : Option ℕ). MatchOption o (BeginsAs n text history) (IsFirstOther n text history)) (sym none)
      (whole text history n same)
