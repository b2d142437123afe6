use Rattle.std.proofs.Common.{refl, ap}
use Rattle.day_reader.specs.CallTable.{EnterBatch, CorrectBatch, WithdrawBatch, StrikeCandidate}
use Rattle.day_reader.specs.TeamTable.{in_team}
use Rattle.day_reader.proofs.TeamSteps.{call_read, freeze_read, no_word}
use Rattle.day_reader.proofs.calls.read_call.Goals as goal

pub returns-in-Enter-clause-reads : goal.returns-in-Enter-clause-reads
returns-in-Enter-clause-reads c =
    λ before script counts. call_read c.args.candidates before script _ _ c.args.keyword c.args.at refl _ EnterBatch
    c.read_enter.result (ap (in_team before script) c.in-Enter.is) c.read_enter.ensures.reads

pub returns-in-Correct-clause-reads : goal.returns-in-Correct-clause-reads
returns-in-Correct-clause-reads c =
    λ before script counts. call_read c.args.candidates before script _ _ c.args.keyword c.args.at refl _ CorrectBatch
    c.read_correct.result (ap (in_team before script) c.in-Correct.is) c.read_correct.ensures.reads

pub returns-in-Withdraw-clause-reads : goal.returns-in-Withdraw-clause-reads
returns-in-Withdraw-clause-reads c =
    λ before script counts. call_read c.args.candidates before script _ _ c.args.keyword c.args.at refl _ WithdrawBatch
    c.read_withdraw.result (ap (in_team before script) c.in-Withdraw.is) (c.read_withdraw.ensures.reads c.args.candidates)

pub returns-in-Strike-clause-reads : goal.returns-in-Strike-clause-reads
returns-in-Strike-clause-reads c =
    λ before script counts. call_read c.args.candidates before script _ _ c.args.keyword c.args.at refl _ StrikeCandidate
    c.read_strike.result (ap (in_team before script) c.in-Strike.is) c.read_strike.ensures.reads

pub returns-in-Freeze-clause-reads : goal.returns-in-Freeze-clause-reads
returns-in-Freeze-clause-reads c =
    λ before script counts. freeze_read c.args.candidates before script _ _ c.args.keyword c.args.at refl c.args.frozen.now
    _ c.count_freeze.result c.in-Freeze.is counts c.count_freeze.ensures.one_more c.count_freeze.ensures.full

pub returns-in_default-clause-reads : goal.returns-in_default-clause-reads
returns-in_default-clause-reads c =
    λ before script counts. rw c.refused.ensures
    (no_word c.args.candidates before script _ _ c.args.keyword c.args.at refl c.in_default.not-Enter
    c.in_default.not-Correct
    c.in_default.not-Withdraw c.in_default.not-Strike c.in_default.not-Freeze c.requires)
