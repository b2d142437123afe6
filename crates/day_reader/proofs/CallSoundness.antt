-- What the table of a call accepts so far is a front part of a call.
use Rattle.std.proofs.Common.{◌≡◌, ℕ, List, [], ◌∷◌, ◌++◌, Bool, true, false, cond, refl, ap, subst, Ok, Err}
use Rattle.plain_ballots.specs.declared.ballot_line.BallotLine.{BallotLine}
use Rattle.batch_core.specs.declared.call.Call.{Call}
use Rattle.input_text.specs.declared.fault_kind.FaultKind.{FaultKind}
use Rattle.input_text.specs.declared.fault_kind.FaultKind.TheVariants.{NoSuchCandidate, BadBatch, BadRevision}
use Rattle.input_text.specs.Token.{Item, Number, Minus, Text, Word}
use Rattle.input_text.specs.Judged.{Judged, then_on, Progress, GoesOn, Ends, carried_to}
use Rattle.blt_reader.specs.BallotTable.{Lines, Between, at_line}
use Rattle.input_text.proofs.Judgements.{refused, same_value, in_range}
use Rattle.blt_reader.specs.Said.{ExpectsLinesRightly}
use Rattle.day_reader.specs.Call.{call_items, IsCall, is_freeze}
use Rattle.day_reader.specs.CallTable.{as_tested, is_between, InCall, EnterBatch, CorrectBatch, WithdrawBatch}
use Rattle.day_reader.specs.CallTable.{CorrectRevision, WithdrawRevision, EnterLines, CorrectLines}
use Rattle.day_reader.specs.CallTable.{StrikeCandidate, of_a_batch, entered, corrected, at_call}
use Rattle.day_reader.specs.Front.{begun_call, IsBegunCall}
use Rattle.day_reader.proofs.SharedParts.{no_lines, line_goes_on}

-- ---- a number

-- a number that a test accepts
module _ {S V : Type 0} (P : Progress S V → List Item → Type 0) (before : List Item) where
  pub number_goes_on :
      (test : ℕ → Bool) (kind : FaultKind) (x : Item) (next : Progress S V) (f : ℕ → Progress S V)
      → then_on (as_tested test kind x) (λ n. Ok (f n)) ≡ Ok next
      → ((n : ℕ) → test n ≡ true → P (f n) (before ++ Number n ∷ []))
      → P next (before ++ x ∷ [])
  number_goes_on test kind (Number n) next f e goes = tested (test n) refl e
    where
      tested :
          (b : Bool) → test n ≡ b → then_on (cond b (Ok n) (Err kind)) (λ n. Ok (f n)) ≡ Ok next
          → P next (before ++ Number n ∷ [])
      tested true is e = subst (λ p. P p (before ++ Number n ∷ [])) (same_value e) (goes n is)
      tested false is e = absurd (refused e)
  number_goes_on test kind (Minus n) next f e goes = absurd (refused e)
  number_goes_on test kind (Text bytes) next f e goes = absurd (refused e)
  number_goes_on test kind (Word letters) next f e goes = absurd (refused e)

-- ---- a call

abbrev pub called : Progress InCall Call → List Item
called (GoesOn expected) = begun_call expected
called (Ends call) = call_items call

module _ (candidates : ℕ) where
  abbrev pub IsCalled : Progress InCall Call → Type 0
  IsCalled (GoesOn expected) = IsBegunCall candidates expected
  IsCalled (Ends call) = IsCall candidates call × (is_freeze call ≡ false)

  abbrev pub IsCallFront : Progress InCall Call → List Item → Type 0
  IsCallFront read items = IsCalled read × (called read ≡ items)

module _ (rightly : ExpectsLinesRightly) (candidates : ℕ) where
  abbrev IsFront : Progress InCall Call → List Item → Type 0
  IsFront = IsCallFront candidates

  enter_goes_on :
      (batch : ℕ) (lines : Lines) (next : Progress InCall Call) (x : Item)
      (judged : Judged (Progress Lines (List BallotLine)))
      → IsBegunCall candidates (EnterLines batch lines) → at_line candidates of_a_batch lines x ≡ judged
      → carried_to (λ more. GoesOn (EnterLines batch more)) (λ all. Ends (entered candidates batch all)) judged ≡ Ok next
      → IsFront next (begun_call (EnterLines batch lines) ++ x ∷ [])
  enter_goes_on batch lines next x (Ok (GoesOn more)) is judged e =
      let one = line_goes_on rightly candidates of_a_batch lines (GoesOn more) x is.1 judged in
      subst (λ p. IsFront p (begun_call (EnterLines batch lines) ++ x ∷ [])) (same_value e)
      ((is.0, one.0), ap (λ (l : List Item). begun_call (EnterLines batch (Between [])) ++ l) one.1)
  enter_goes_on batch lines next x (Ok (Ends all)) is judged e =
      let one = line_goes_on rightly candidates of_a_batch lines (Ends all) x is.1 judged in
      subst (λ p. IsFront p (begun_call (EnterLines batch lines) ++ x ∷ [])) (same_value e) (
        ((is.0, record { candidates_are = refl; lines = one.0 }), refl),
        ap (λ (l : List Item). begun_call (EnterLines batch (Between [])) ++ l) one.1,
      )
  enter_goes_on batch lines next x (Err kind) is judged e = absurd (refused e)

  correct_goes_on :
      (batch revision : ℕ) (lines : Lines) (next : Progress InCall Call) (x : Item)
      (judged : Judged (Progress Lines (List BallotLine))) → IsBegunCall candidates (CorrectLines batch revision lines)
      → at_line candidates of_a_batch lines x ≡ judged
      → carried_to (λ more. GoesOn (CorrectLines batch revision more))
      (λ all. Ends (corrected candidates batch revision all)) judged ≡ Ok next
      → IsFront next (begun_call (CorrectLines batch revision lines) ++ x ∷ [])
  correct_goes_on batch revision lines next x (Ok (GoesOn more)) is judged e =
      let one = line_goes_on rightly candidates of_a_batch lines (GoesOn more) x is.2 judged in
      subst (λ p. IsFront p (begun_call (CorrectLines batch revision lines) ++ x ∷ [])) (same_value e)
      ((is.0, is.1, one.0), ap (λ (l : List Item). begun_call (CorrectLines batch revision (Between [])) ++ l) one.1)
  correct_goes_on batch revision lines next x (Ok (Ends all)) is judged e =
      let one = line_goes_on rightly candidates of_a_batch lines (Ends all) x is.2 judged in
      subst (λ p. IsFront p (begun_call (CorrectLines batch revision lines) ++ x ∷ [])) (same_value e) (
        ((is.0, is.1, record { candidates_are = refl; lines = one.0 }), refl),
        ap (λ (l : List Item). begun_call (CorrectLines batch revision (Between [])) ++ l) one.1,
      )
  correct_goes_on batch revision lines next x (Err kind) is judged e = absurd (refused e)

  pub call_goes_on :
      (expected : InCall) (next : Progress InCall Call) (x : Item) → IsBegunCall candidates expected
      → at_call candidates expected x ≡ Ok next → IsFront next (begun_call expected ++ x ∷ [])
  unfolding at_call
  call_goes_on EnterBatch next x is e =
      number_goes_on IsFront (begun_call EnterBatch) (is_between 1 9999) BadBatch x next
      (λ n. GoesOn (EnterLines n (Between []))) e
      (λ n ok. ((in_range 9999 n ok, no_lines rightly candidates of_a_batch), refl))
  call_goes_on CorrectBatch next x is e =
      number_goes_on IsFront (begun_call CorrectBatch) (is_between 1 9999) BadBatch x next
      (λ n. GoesOn (CorrectRevision n)) e
      (λ n ok. (in_range 9999 n ok, refl))
  call_goes_on WithdrawBatch next x is e =
      number_goes_on IsFront (begun_call WithdrawBatch) (is_between 1 9999) BadBatch x next
      (λ n. GoesOn (WithdrawRevision n)) e
      (λ n ok. (in_range 9999 n ok, refl))
  call_goes_on (CorrectRevision batch) next x is e =
      number_goes_on IsFront (begun_call (CorrectRevision batch)) (is_between 1 9999) BadRevision x next
      (λ n. GoesOn (CorrectLines batch n (Between []))) e
      (λ n ok. ((is, in_range 9999 n ok, no_lines rightly candidates of_a_batch), refl))
  call_goes_on (WithdrawRevision batch) next x is e =
      number_goes_on IsFront (begun_call (WithdrawRevision batch)) (is_between 1 9999) BadRevision x next _ e
      (λ n ok. (((is, in_range 9999 n ok), refl), refl))
  call_goes_on (EnterLines batch lines) next x is e = enter_goes_on batch lines next x _ is refl e
  call_goes_on (CorrectLines batch revision lines) next x is e = correct_goes_on batch revision lines next x _ is refl e
  call_goes_on StrikeCandidate next x is e =
      number_goes_on IsFront (begun_call StrikeCandidate) (is_between 1 candidates) NoSuchCandidate x next _ e
      (λ n ok. ((in_range candidates n ok, refl), refl))
