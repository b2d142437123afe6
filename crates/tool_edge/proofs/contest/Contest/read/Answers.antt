use Rattle.std.proofs.lemmas.Result.{err_from_is_err_and}
use Rattle.blt_reader.specs.Election.{poll}
use Rattle.tool_edge.proofs.BadLots.{reads_bad_lots}
use Rattle.tool_edge.proofs.contest.Contest.read.Goals as goal

pub returns-in_err-lots : goal.returns-in_err-lots
returns-in_err-lots c =
    let p = err_from_is_err_and c.from_residual-in_err-lots.result c.from_residual-in_err-lots.ensures.1 in
    rw (p.1, p.2) (reads_bad_lots c.args.lots.now c.args.input.now (poll c.in_ok-election.election) _
    c.in_ok-election.ensures.accepted c.in_err-lots.ensures.stop)
