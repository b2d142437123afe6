use Rattle.day_replay.proofs.Taking.{taken}
use Rattle.day_replay.proofs.left.Left.take.Goals as goal

pub returns : goal.returns
returns c =
    taken c.args.self.now.teams.items c.args.team c.index_mut.result.now c.pop.new.self c.in-Some.call c.requires.team.0
    c.requires.team.1 c.requires.teams c.index_mut.ensures.value c.in-Some.ensures.last
