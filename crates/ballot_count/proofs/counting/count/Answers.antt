use Rattle.std.proofs.Common.{ℕ, List, refl, subst}
use Rattle.std.specs.Prelude.{Result, Err, IsPermutation}
use Rattle.plain_ballots.specs.Ballots.{BallotList, plain}
use Rattle.blt_reader.specs.Election.{poll_of_lines}
use Rattle.input_text.specs.declared.input_stop.InputStop.{InputStop}
use Rattle.tool_edge.specs.Streams.{writing}
use Rattle.tool_edge.specs.declared.contest.StoredContest.{StoredContest}
use Rattle.tool_edge.specs.Contest.{ReadsStored, SaysContest}
use Rattle.tool_edge.proofs.Running.{refused}
use Rattle.tool_edge.specs.Tools.{over_contests}
use Rattle.ballot_count.specs.Owed.{OwesSheet}
use Rattle.ballot_count.specs.Ending.{WritesOwed}
use Rattle.sheet_text.specs.Sheet.{IsSheet}
use Rattle.fixed_place.specs.declared.omega.TheConstants.{USUAL_OMEGA}
use Rattle.ballot_count.proofs.CountEnding.{counted}
use Rattle.ballot_count.proofs.Endings.{ended}
use Rattle.ballot_count.proofs.counting.count.Goals as goal

-- what reading into packed ballots gives
abbrev ReadsPacked : (lots input : List ℕ) → Result (StoredContest BallotList) InputStop → Type 0
ReadsPacked =
    ReadsStored (λ (packed : BallotList) lines. IsPermutation (plain packed.lines) (plain lines))
    (λ (packed : BallotList). packed.candidates)

pub returns-in-Err : goal.returns-in-Err
returns-in-Err g c =
    let read =
    subst (λ (i : List ℕ). ReadsPacked c.args.lots.now i (Err c.in-Err.stop)) c.as_slice.ensures.value
    c.in-Err.ensures in
    refused (over_contests OwesSheet) c.args.lots.now c.args.input.items c.in-Err.stop c.refuse_input.result
    (writing g.K.Sink.written g.K.Sink.faults c.args.sink.now c.refuse_input.new.sink) refl c.requires.short
    (λ fault is. subst (λ (stop : InputStop). ReadsPacked c.args.lots.now c.args.input.items (Err stop)) is read)
    c.refuse_input.ensures

-- the lots are those of the words
pub returns : goal.returns
returns g c =
    let w = g.K.Sink.written in
    let f = g.K.Sink.faults in
    let of = c.in-Ok.ensures in
    let file = poll_of_lines c.in-Ok.contest.election of.lines in
    let sink = writing w f c.args.sink.now c.end_after.new.sink in
    let wrote =
    ended w f c.args.sink.now c.count_contest-wrote.new.sink c.end_after.new.sink
    (IsSheet 9 USUAL_OMEGA (plain file.lines) file.roll c.in-Ok.contest.lots) c.count_contest-wrote.result
    c.end_after.result (c.count_contest-wrote.ensures of.lines of.held) c.end_after.ensures in
    counted c.args.lots.now c.args.input.items file c.end_after.result sink c.requires.short
    (subst (λ (i : List ℕ). SaysContest c.args.lots.now i file) c.as_slice.ensures.value of.says)
    (subst (λ (l : List ℕ). WritesOwed (IsSheet 9 USUAL_OMEGA (plain file.lines) file.roll l) c.end_after.result sink)
    of.lots_are wrote)
