-- The parts of a call, one after another.
use Rattle.std.proofs.Common.{◌≡◌, ℕ, [], refl, sym, ◌∙◌, ap, Ok, Err}
use Rattle.plain_ballots.specs.Ballots.{BallotList}
use Rattle.batch_core.specs.declared.change.Change.TheVariants.{Enter, Correct, Withdraw}
use Rattle.batch_core.specs.declared.call.Call.{Call}
use Rattle.batch_core.specs.declared.call.Call.TheVariants.{Change, Strike}
use Rattle.input_text.specs.declared.fault_kind.FaultKind.TheVariants.{NoSuchCandidate}
use Rattle.input_text.specs.declared.input_fault.InputFault.{InputFault}
use Rattle.input_text.specs.declared.input_stop.InputStop.{InputStop}
use Rattle.input_text.specs.Token.{Scan}
use Rattle.input_text.specs.Judged.{GoesOn, Ends, reads}
use Rattle.blt_reader.specs.BallotTable.{Between, at_line}
use Rattle.input_text.specs.Reads.{Stops, Accepts, Reads}
use Rattle.day_reader.specs.CallTable.{as_between, as_batch, as_revision, InCall, EnterBatch, CorrectBatch}
use Rattle.day_reader.specs.CallTable.{WithdrawBatch, CorrectRevision, WithdrawRevision, EnterLines}
use Rattle.day_reader.specs.CallTable.{CorrectLines, StrikeCandidate, of_a_batch, entered, corrected, at_call}
use Rattle.day_reader.proofs.Steps.{judged_read, judged_stops, within_read, within_fails}

module _ (candidates : ℕ) where
  abbrev Says : InCall → Scan → InputFault → Scan → Type 0
  Says expected old fault new = reads (at_call candidates) expected old ≡ Err (record { fault = fault; rest = new })

  abbrev pub Leads_on : InCall → Scan → InCall → Scan → Type 0
  Leads_on expected old next new = reads (at_call candidates) expected old ≡ reads (at_call candidates) next new

  module _ (old new : Scan) where
    -- ---- the numbers

    pub enter_stops : (fault : InputFault) → Stops as_batch old fault new → Says EnterBatch old fault new
    unfolding at_call
    enter_stops fault is =
        judged_stops (at_call candidates) EnterBatch as_batch (λ n. Ok (GoesOn (EnterLines n (Between []))))
        (λ item. refl) old new fault is

    pub enter_batch : (n : ℕ) → Accepts as_batch old n new → Leads_on EnterBatch old (EnterLines n (Between [])) new
    unfolding at_call
    enter_batch n is =
        judged_read (at_call candidates) EnterBatch as_batch (λ n. Ok (GoesOn (EnterLines n (Between []))))
        (λ item. refl) old new n (GoesOn (EnterLines n (Between []))) is refl

    pub correct_stops : (fault : InputFault) → Stops as_batch old fault new → Says CorrectBatch old fault new
    unfolding at_call
    correct_stops fault is =
        judged_stops (at_call candidates) CorrectBatch as_batch (λ n. Ok (GoesOn (CorrectRevision n)))
        (λ item. refl) old new fault is

    pub correct_batch : (n : ℕ) → Accepts as_batch old n new → Leads_on CorrectBatch old (CorrectRevision n) new
    unfolding at_call
    correct_batch n is =
        judged_read (at_call candidates) CorrectBatch as_batch (λ n. Ok (GoesOn (CorrectRevision n)))
        (λ item. refl) old new n
        (GoesOn (CorrectRevision n)) is refl

    pub correct_revision_stops :
        (batch : ℕ) (fault : InputFault) → Stops as_revision old fault new → Says (CorrectRevision batch) old fault new
    unfolding at_call
    correct_revision_stops batch fault is =
        judged_stops (at_call candidates) (CorrectRevision batch) as_revision
        (λ n. Ok (GoesOn (CorrectLines batch n (Between [])))) (λ item. refl) old new fault is

    pub correct_revision :
        (batch n : ℕ) → Accepts as_revision old n new
        → Leads_on (CorrectRevision batch) old (CorrectLines batch n (Between [])) new
    unfolding at_call
    correct_revision batch n is =
        judged_read (at_call candidates) (CorrectRevision batch) as_revision
        (λ n. Ok (GoesOn (CorrectLines batch n (Between [])))) (λ item. refl) old new n
        (GoesOn (CorrectLines batch n (Between []))) is refl

    pub withdraw_stops : (fault : InputFault) → Stops as_batch old fault new → Says WithdrawBatch old fault new
    unfolding at_call
    withdraw_stops fault is =
        judged_stops (at_call candidates) WithdrawBatch as_batch (λ n. Ok (GoesOn (WithdrawRevision n)))
        (λ item. refl) old new fault is

    pub withdraw_batch : (n : ℕ) → Accepts as_batch old n new → Leads_on WithdrawBatch old (WithdrawRevision n) new
    unfolding at_call
    withdraw_batch n is =
        judged_read (at_call candidates) WithdrawBatch as_batch (λ n. Ok (GoesOn (WithdrawRevision n)))
        (λ item. refl) old new n
        (GoesOn (WithdrawRevision n)) is refl

    pub withdraw_revision_stops :
        (batch : ℕ) (fault : InputFault) → Stops as_revision old fault new → Says (WithdrawRevision batch) old fault new
    unfolding at_call
    withdraw_revision_stops batch fault is =
        judged_stops (at_call candidates) (WithdrawRevision batch) as_revision (λ n. Ok (Ends (Change (Withdraw batch n))))
        (λ item. refl) old new fault is

    pub withdraw_revision :
        (batch n : ℕ) → Accepts as_revision old n new
        → reads (at_call candidates) (WithdrawRevision batch) old ≡ Ok (Change (Withdraw batch n), new)
    unfolding at_call
    withdraw_revision batch n is =
        judged_read (at_call candidates) (WithdrawRevision batch) as_revision (λ n. Ok (Ends (Change (Withdraw batch n))))
        (λ item. refl) old new n (Ends (Change (Withdraw batch n))) is refl

    pub strike_stops :
        (fault : InputFault) → Stops (as_between 1 candidates NoSuchCandidate) old fault new
        → Says StrikeCandidate old fault new
    unfolding at_call
    strike_stops fault is =
        judged_stops (at_call candidates) StrikeCandidate (as_between 1 candidates NoSuchCandidate)
        (λ n. Ok (Ends (Strike n)))
        (λ item. refl) old new fault is

    pub strike_read :
        (n : ℕ) → Accepts (as_between 1 candidates NoSuchCandidate) old n new
        → reads (at_call candidates) StrikeCandidate old ≡ Ok (Strike n, new)
    unfolding at_call
    strike_read n is =
        judged_read (at_call candidates) StrikeCandidate (as_between 1 candidates NoSuchCandidate)
        (λ n. Ok (Ends (Strike n)))
        (λ item. refl) old new n (Ends (Strike n)) is refl

    -- ---- the ballots

    pub entering_fails :
        (batch : ℕ) (start : Scan) (why : InputStop) → Leads_on EnterBatch start (EnterLines batch (Between [])) old
        → Reads (at_line candidates of_a_batch) (Between []) (λ (all : BallotList). all.lines) old (Err why) new
        → Reads (at_call candidates) EnterBatch (λ (call : Call). call) start (Err why) new
    unfolding at_call
    entering_fails batch start why so_far is =
        within_fails (at_line candidates of_a_batch) (at_call candidates) (λ more. EnterLines batch more)
        (λ all. Ends (entered candidates batch all)) (λ lines item. refl) (Between []) old new
        (λ (all : BallotList). all.lines) (λ (call : Call). call) EnterBatch start why so_far is

    pub entering_read :
        (batch : ℕ) (start : Scan) (all : BallotList) → Leads_on EnterBatch start (EnterLines batch (Between [])) old
        → all.candidates ≡ candidates → reads (at_line candidates of_a_batch) (Between []) old ≡ Ok (all.lines, new)
        → reads (at_call candidates) EnterBatch start ≡ Ok (Change (Enter batch all), new)
    unfolding at_call
    entering_read batch start all so_far same is =
        so_far
        ∙ within_read (at_line candidates of_a_batch) (at_call candidates) (λ more. EnterLines batch more)
        (λ all. Ends (entered candidates batch all)) (λ lines item. refl) (Between []) old new all.lines is
        ∙ ap (λ (n : ℕ). Ok (Change (Enter batch (record { candidates = n; lines = all.lines })), new)) (sym same)

    pub correcting_fails :
        (batch revision : ℕ) (start : Scan) (why : InputStop)
        → Leads_on CorrectBatch start (CorrectLines batch revision (Between [])) old
        → Reads (at_line candidates of_a_batch) (Between []) (λ (all : BallotList). all.lines) old (Err why) new
        → Reads (at_call candidates) CorrectBatch (λ (call : Call). call) start (Err why) new
    unfolding at_call
    correcting_fails batch revision start why so_far is =
        within_fails (at_line candidates of_a_batch) (at_call candidates) (λ more. CorrectLines batch revision more)
        (λ all. Ends (corrected candidates batch revision all)) (λ lines item. refl) (Between []) old new
        (λ (all : BallotList). all.lines) (λ (call : Call). call) CorrectBatch start why so_far is

    pub correcting_read :
        (batch revision : ℕ) (start : Scan) (all : BallotList)
        → Leads_on CorrectBatch start (CorrectLines batch revision (Between [])) old → all.candidates ≡ candidates
        → reads (at_line candidates of_a_batch) (Between []) old ≡ Ok (all.lines, new)
        → reads (at_call candidates) CorrectBatch start ≡ Ok (Change (Correct batch revision all), new)
    unfolding at_call
    correcting_read batch revision start all so_far same is =
        so_far
        ∙ within_read (at_line candidates of_a_batch) (at_call candidates) (λ more. CorrectLines batch revision more)
        (λ all. Ends (corrected candidates batch revision all)) (λ lines item. refl) (Between []) old new all.lines is
        ∙ ap (λ (n : ℕ). Ok (Change (Correct batch revision (record { candidates = n; lines = all.lines })), new)) (sym same)
