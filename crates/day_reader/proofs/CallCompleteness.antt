-- The table of a call accepts all calls, and each front part of one can go on to a call.
use Rattle.std.proofs.Common.{◌≡◌, ℕ, ◌≤◌, List, [], ◌∷◌, refl, sym, ◌∙◌, ap, arith, Ok}
use Rattle.plain_ballots.specs.Ballots.{BallotList}
use Rattle.plain_ballots.specs.declared.ballot_line.BallotLine.{BallotLine}
use Rattle.batch_core.specs.declared.change.Change.TheVariants.{Enter, Correct, Withdraw}
use Rattle.batch_core.specs.declared.call.Call.{Call}
use Rattle.batch_core.specs.declared.call.Call.TheVariants.{Change, Strike}
use Rattle.input_text.specs.Token.{Item, Number}
use Rattle.input_text.specs.Range.{IsIn}
use Rattle.blt_reader.specs.Blt.{ballots}
use Rattle.input_text.specs.Judged.{Judged, after, Progress, GoesOn, Ends, closed}
use Rattle.blt_reader.specs.BallotTable.{Lines, Between, Within, at_line}
use Rattle.blt_reader.specs.Front.{begun}
use Rattle.blt_reader.specs.Said.{ExpectsLinesRightly}
use Rattle.input_text.proofs.Judgements.{to_range}
use Rattle.input_text.proofs.Tables.{place_of, carries}
use Rattle.day_reader.specs.Call.{IsBatch}
use Rattle.day_reader.specs.CallTable.{InCall, EnterBatch, CorrectBatch, WithdrawBatch, CorrectRevision}
use Rattle.day_reader.specs.CallTable.{WithdrawRevision, EnterLines, CorrectLines, StrikeCandidate}
use Rattle.day_reader.specs.CallTable.{of_a_batch, entered, corrected, at_call}
use Rattle.day_reader.specs.Front.{IsBegunCall}
use Rattle.day_reader.proofs.SharedParts.{reads_begun, reads_ballots}

module _ (rightly : ExpectsLinesRightly) (candidates : ℕ) where
  abbrev Table : Progress InCall Call → Item → Judged (Progress InCall Call)
  Table = closed (at_call candidates)

  abbrev pub ReadsCall : InCall → List Item → Progress InCall Call → Type 0
  ReadsCall expected items next = after Table (GoesOn expected) items ≡ Ok next

  -- ---- ballots that are entered

  reads_batch :
      (batch : ℕ) (items : List Item) → IsIn 9999 batch
      → after Table (GoesOn EnterBatch) (Number batch ∷ items) ≡ after Table (GoesOn (EnterLines batch (Between []))) items
  unfolding at_call
  reads_batch batch items is = rw (to_range 9999 batch is) refl

  in_batch :
      (batch : ℕ) (items : List Item) (start last : Progress Lines (List BallotLine))
      → after (closed (at_line candidates of_a_batch)) start items ≡ Ok last
      → after Table (place_of (λ lines. GoesOn (EnterLines batch lines))
      (λ lines. Ends (entered candidates batch lines)) start)
      items ≡ Ok (place_of (λ lines. GoesOn (EnterLines batch lines)) (λ lines. Ends (entered candidates batch lines)) last)
  unfolding at_call
  in_batch batch items =
      carries (at_line candidates of_a_batch) Table (λ lines. GoesOn (EnterLines batch lines))
      (λ lines. Ends (entered candidates batch lines)) (λ lines item. refl) items

  pub reads_enter_lines :
      (batch : ℕ) (lines : Lines) → IsBegunCall candidates (EnterLines batch lines)
      → ReadsCall EnterBatch (Number batch ∷ begun lines) (GoesOn (EnterLines batch lines))
  reads_enter_lines batch lines is =
      reads_batch batch (begun lines) is.0 ∙ in_batch batch (begun lines) (GoesOn (Between [])) (GoesOn lines)
      (reads_begun rightly candidates of_a_batch lines is.1)

  pub reads_enter :
      (batch : ℕ) (all : BallotList) → IsIn 9999 batch → IsBatch candidates all
      → ReadsCall EnterBatch (Number batch ∷ ballots all.lines) (Ends (Change (Enter batch all)))
  reads_enter batch all is are =
      reads_batch batch (ballots all.lines) is
      ∙ in_batch batch (ballots all.lines) (GoesOn (Between [])) (Ends all.lines)
      (reads_ballots rightly candidates of_a_batch all.lines are.lines)
      ∙ ap (λ (n : ℕ). Ok (Ends (Change (Enter batch (record { candidates = n; lines = all.lines })))))
      (sym are.candidates_are)

  -- ---- ballots that are corrected

  reads_revision :
      (batch revision : ℕ) (items : List Item) → IsIn 9999 batch → IsIn 9999 revision
      → after Table (GoesOn CorrectBatch) (Number batch ∷ Number revision ∷ items)
      ≡ after Table (GoesOn (CorrectLines batch revision (Between []))) items
  unfolding at_call
  reads_revision batch revision items is of = rw (to_range 9999 batch is, to_range 9999 revision of) refl

  in_correction :
      (batch revision : ℕ) (items : List Item) (start last : Progress Lines (List BallotLine))
      → after (closed (at_line candidates of_a_batch)) start items ≡ Ok last
      → after Table (place_of (λ lines. GoesOn (CorrectLines batch revision lines))
      (λ lines. Ends (corrected candidates batch revision lines)) start) items
      ≡ Ok (place_of (λ lines. GoesOn (CorrectLines batch revision lines))
      (λ lines. Ends (corrected candidates batch revision lines)) last)
  unfolding at_call
  in_correction batch revision items =
      carries (at_line candidates of_a_batch) Table (λ lines. GoesOn (CorrectLines batch revision lines))
      (λ lines. Ends (corrected candidates batch revision lines)) (λ lines item. refl) items

  pub reads_correct_lines :
      (batch revision : ℕ) (lines : Lines) → IsBegunCall candidates (CorrectLines batch revision lines)
      → ReadsCall CorrectBatch (Number batch ∷ Number revision ∷ begun lines) (GoesOn (CorrectLines batch revision lines))
  reads_correct_lines batch revision lines is =
      reads_revision batch revision (begun lines) is.0 is.1
      ∙ in_correction batch revision (begun lines) (GoesOn (Between [])) (GoesOn lines)
      (reads_begun rightly candidates of_a_batch lines is.2)

  pub reads_correct :
      (batch revision : ℕ) (all : BallotList) → IsIn 9999 batch → IsIn 9999 revision → IsBatch candidates all
      → ReadsCall CorrectBatch (Number batch ∷ Number revision ∷ ballots all.lines)
      (Ends (Change (Correct batch revision all)))
  reads_correct batch revision all is of are =
      reads_revision batch revision (ballots all.lines) is of
      ∙ in_correction batch revision (ballots all.lines) (GoesOn (Between [])) (Ends all.lines)
      (reads_ballots rightly candidates of_a_batch all.lines are.lines)
      ∙ ap (λ (n : ℕ). Ok
      (Ends (Change (Correct batch revision (record { candidates = n; lines = all.lines })))))
      (sym are.candidates_are)

  -- ---- numbers alone

  pub reads_correct_batch :
      (batch : ℕ) → IsIn 9999 batch → ReadsCall CorrectBatch (Number batch ∷ []) (GoesOn (CorrectRevision batch))
  unfolding at_call
  reads_correct_batch batch is = rw (to_range 9999 batch is) refl

  pub reads_withdraw_batch :
      (batch : ℕ) → IsIn 9999 batch → ReadsCall WithdrawBatch (Number batch ∷ []) (GoesOn (WithdrawRevision batch))
  unfolding at_call
  reads_withdraw_batch batch is = rw (to_range 9999 batch is) refl

  pub reads_withdraw :
      (batch revision : ℕ) → IsIn 9999 batch → IsIn 9999 revision
      → ReadsCall WithdrawBatch (Number batch ∷ Number revision ∷ []) (Ends (Change (Withdraw batch revision)))
  unfolding at_call
  reads_withdraw batch revision is of = rw (to_range 9999 batch is, to_range 9999 revision of) refl

  pub reads_strike :
      (candidate : ℕ) → IsIn candidates candidate
      → ReadsCall StrikeCandidate (Number candidate ∷ []) (Ends (Strike candidate))
  unfolding at_call
  reads_strike candidate is = rw (to_range candidates candidate is) refl

  -- ---- calls that can go on

  abbrev pub CanEnd : InCall → Type 0
  CanEnd expected = (more : List Item) × (call : Call) × ReadsCall expected more (Ends call)

  one : IsIn 9999 1
  one = record { least = omega arith; most = omega arith }

  pub call_can_end : (expected : InCall) → 1 ≤ candidates → CanEnd expected
  unfolding at_call
  call_can_end EnterBatch some = (Number 1 ∷ Number 0 ∷ [], entered candidates 1 [], refl)
  call_can_end CorrectBatch some = (Number 1 ∷ Number 1 ∷ Number 0 ∷ [], corrected candidates 1 1 [], refl)
  call_can_end WithdrawBatch some = (Number 1 ∷ Number 1 ∷ [], Change (Withdraw 1 1), refl)
  call_can_end (CorrectRevision batch) some = (Number 1 ∷ Number 0 ∷ [], corrected candidates batch 1 [], refl)
  call_can_end (WithdrawRevision batch) some = (Number 1 ∷ [], Change (Withdraw batch 1), refl)
  call_can_end (EnterLines batch (Between lines)) some = (Number 0 ∷ [], entered candidates batch lines, refl)
  call_can_end (EnterLines batch (Within lines count ranks)) some = (Number 0 ∷ Number 0 ∷ [], _, refl)
  call_can_end (CorrectLines batch revision (Between lines)) some =
      (Number 0 ∷ [], corrected candidates batch revision lines, refl)
  call_can_end (CorrectLines batch revision (Within lines count ranks)) some = (Number 0 ∷ Number 0 ∷ [], _, refl)
  call_can_end StrikeCandidate some = (Number 1 ∷ [], Strike 1, reads_strike 1 (record { least = omega arith; most = some }))
