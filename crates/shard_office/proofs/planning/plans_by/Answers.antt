use Rattle.std.proofs.Common.{◌<◌, length, subst, arith}
use mir.Syntax.{named}
use denote.Param.Send.{shr_sync, shr_slice_sync}
use Rattle.std.proofs.Crossing as heap
use Rattle.shard_office.specs.Turned.{IsPlanOf}
use Rattle.shard_office.proofs.Lists.{read_at}
use Rattle.shard_office.proofs.Places.{get_lt}
use Rattle.shard_office.proofs.Shared.{held_sync, two_sync}
use Rattle.shard_office.proofs.planning.plans_by.Goals as goal

pub made_by_workers-requires-sync-F : goal.made_by_workers-requires-sync-F
made_by_workers-requires-sync-F g c κs within =
    let closure =
    two_sync _ _ (shr_sync (named 5) κs.1.1.1.1.1.0 _ heap.sync)
    (shr_slice_sync (named 6) κs.1.1.1.1.1.1.0 _ held_sync) in
    record { shared = closure.shared }

pub returns-clause-plans : goal.returns-clause-plans
returns-clause-plans g c i v p ev ep =
    let plans = c.in-Ok.plans in
    let below : i < length c.args.held.now =
    omega (arith, get_lt plans.items i p ep, plans.ok.0, c.in-Ok.ensures.as_many) in
    subst (IsPlanOf v) (read_at plans.items i p p ep) (c.in-Ok.ensures.made i p below v ev)
