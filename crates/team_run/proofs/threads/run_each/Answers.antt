use mir.Syntax.{named}
use denote.Param.{param}
use denote.Param.Send.{IsSync, sendable, shr_sync}
use Rattle.std.proofs.Crossing as heap
use Rattle.team_run.proofs.Crosses.{team_send, four_sync}
use Rattle.shard_office.proofs.Shared.{office_sync}
use Rattle.team_run.proofs.threads.run_each.Goals as goal

pub for_each_mut-requires-send-T : goal.for_each_mut-requires-send-T
for_each_mut-requires-send-T g c κs within = let a = team_send in search sendable

pub for_each_mut-requires-sync-F : goal.for_each_mut-requires-sync-F
for_each_mut-requires-sync-F g c κs within =
    let r : IsSync (param 0 g.row.R) = c.type_bounds.sync-R in
    let s : IsSync (param 1 g.row.G) = c.type_bounds.sync-G in
    let closure =
    four_sync _ _ _ _ (shr_sync (named 6) κs.1.1.1.1.1.1.0 _ r)
    (shr_sync (named 7) κs.1.1.1.1.1.1.1.0 _ heap.sync)
    (shr_sync (named 8) κs.1.1.1.1.1.1.1.1.0 _ office_sync) (shr_sync (named 9) κs.1.1.1.1.1.1.1.1.1.0 _ s) in
    record { shared = closure.shared }
