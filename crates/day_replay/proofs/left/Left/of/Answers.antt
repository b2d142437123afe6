use Rattle.std.proofs.Common.{◌≤◌}
use Rattle.std.specs.Prelude.{Some}
use Rattle.std.proofs.lemmas.List.Elements.{All-pop}
use Rattle.day_reader.specs.declared.script.Script.{Script}
use Rattle.day_replay.proofs.Putting.{put_on}
use Rattle.day_replay.proofs.left.Left.of.Goals as goal

pub scripts-preserved : goal.scripts-preserved
scripts-preserved c =
    let parted =
    All-pop (λ (s : Script). (1 ≤ s.team) × (s.team ≤ 16)) c.scripts.scripts c.pop.new.self (Some c.in-Some.script)
    c.in-Some.ensures.last c.scripts.invariant.0 in
    let put =
    put_on c.args.scripts c.scripts.scripts c.pop.new.self c.in-Some.script c.scripts.teams.items c.index_mut.result.now
    c.put_behind.new.list c.scripts.invariant.1 parted.1.0 parted.1.1 c.in-Some.ensures.last c.index_mut.ensures.value
    c.in_ok-put_behind.ensures c.scripts.invariant.2 in
    (parted.0, put.0, put.1)
