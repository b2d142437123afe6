use Rattle.std.proofs.lemmas.Result.{err_from_is_err_and}
use Rattle.blt_reader.specs.Election.{poll_of_lines}
use Rattle.tool_edge.proofs.BadLots.{reads_bad_lots}
use Rattle.tool_edge.proofs.contest.StoredContest.read_by.Goals as goal

pub returns-in_err-lots : goal.returns-in_err-lots
returns-in_err-lots g c =
    let read = c.in_ok-election.ensures.accepted in
    let p = err_from_is_err_and c.from_residual-in_err-lots.result c.from_residual-in_err-lots.ensures.1 in
    rw (p.1, p.2) (reads_bad_lots c.args.lots.now c.args.input.now (poll_of_lines c.in_ok-election.election read.0) _
    read.1 c.in_err-lots.ensures.stop)
