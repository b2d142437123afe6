use Rattle.std.proofs.lemmas.Result.{err_from_is_err_and}
use Rattle.blt_reader.specs.Election.{poll}
use Rattle.tool_edge.proofs.BadLots.{reads_bad_lots_behind}
use Rattle.tool_edge.proofs.Places.{room_for_place}
use Rattle.tool_edge.proofs.contest.Contest.read_behind.Goals as goal

pub stop_behind-requires : goal.stop_behind-requires
stop_behind-requires c = room_for_place c.args.before c.args.file.now c.in-Err.stop c.requires c.in-Err.ensures.refused

pub returns-in_err-lots : goal.returns-in_err-lots
returns-in_err-lots c =
    let p = err_from_is_err_and c.from_residual.result c.from_residual.ensures.1 in
    rw (p.1, p.2) (reads_bad_lots_behind c.args.lots.now c.args.file.now (poll c.in-Ok.election) _
    c.in-Ok.ensures.accepted c.in_err-lots.ensures.stop c.args.before)
