use Rattle.std.proofs.Common.{ℕ, List, refl, sym, subst}
use Rattle.std.specs.Prelude.{Err, IsPermutation}
use Rattle.plain_ballots.specs.Ballots.{plain}
use Rattle.blt_reader.specs.Election.{poll}
use Rattle.input_text.specs.declared.input_stop.InputStop.{InputStop}
use Rattle.tool_edge.specs.Streams.{writing}
use Rattle.tool_edge.specs.Contest.{ReadsContest}
use Rattle.tool_edge.specs.Finishing.{FinishesOwed}
use Rattle.tool_edge.specs.Tools.{over_contests}
use Rattle.tool_edge.proofs.Running.{refused}
use Rattle.warren_cli.specs.Owed.{OwesWarren, IsSheetOwed}
use Rattle.warren_cli.proofs.FileLemmas.{counted}
use Rattle.warren_cli.proofs.counting.count.Goals as goal

pub returns-in-Err : goal.returns-in-Err
returns-in-Err g c =
    refused (over_contests OwesWarren) c.args.lots.now c.args.input.now c.in-Err.stop c.refuse_input.result
    (writing g.K.Sink.written g.K.Sink.faults c.args.sink.now c.refuse_input.new.sink) refl c.requires
    (λ fault is. subst (λ (stop : InputStop). ReadsContest c.args.lots.now c.args.input.now (Err stop)) is c.in-Err.ensures)
    c.refuse_input.ensures

-- the plan's ballots are those of the file, and its lots are those of the words
pub returns : goal.returns
returns g c =
    let of = c.in-Ok.ensures in
    let file = poll c.in-Ok.contest.election in
    let sink = writing g.K.Sink.written g.K.Sink.faults c.args.sink.now c.write_count.new.sink in
    let ballots = c.in-Ok-begin.spread.ballots in
    let moved : IsPermutation ballots (plain file.lines) =
    subst (λ (b : List (List ℕ)). IsPermutation b (plain file.lines)) (sym c.in-Ok-begin.ensures.ballots)
    c.in-Ok-plans_of.ensures.ballots in
    counted c.args.lots.now c.args.input.now file ballots c.write_count.result sink c.requires of.says
    c.sheets_are_unique.ensures.orders moved
    (subst (λ (l : List ℕ). FinishesOwed (IsSheetOwed ballots file.roll l) c.write_count.result sink)
    of.lots_are c.write_count.ensures)
