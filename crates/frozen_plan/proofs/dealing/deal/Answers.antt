use Rattle.std.proofs.Common.{length}
use Rattle.frozen_plan.proofs.LastLines.{one_less, turn_room}
use Rattle.frozen_plan.proofs.dealing.deal.Goals as goal

pub put-requires-clause-room : goal.put-requires-clause-room
put-requires-clause-room c =
    turn_room c.args.ballots.candidates c.args.ballots.lines (length c.args.shares.now) c.loop-line.ballots
    c.pop_line.new.self c.in-Some.line c.loop-line.shares c.loop-line.turn c.before-turn.result c.loop-line.invariant
    c.in-Some.ensures.last c.requires.some c.before-turn.ensures c.index-shares-turn.result
    c.lines_stand_for_ballots.ensures.count c.lines.ensures.sound.bounded

pub loop-line-preserved-in_ok-put : goal.loop-line-preserved-in_ok-put
loop-line-preserved-in_ok-put c =
    one_less c.args.ballots.candidates c.args.ballots.lines (length c.args.shares.now) c.loop-line.ballots
    c.pop_line.new.self c.in-Some.line c.loop-line.shares c.loop-line.turn c.before-turn.result c.loop-line.invariant
    c.in-Some.ensures.last c.requires.some c.before-turn.ensures c.index-shares-turn.result c.put.new.share
    (record { candidates = c.in_ok-put.ensures.candidates; ballots = c.in_ok-put.ensures.ballots })

pub loop-line-preserved : goal.loop-line-preserved
loop-line-preserved c =
    one_less c.args.ballots.candidates c.args.ballots.lines (length c.args.shares.now) c.loop-line.ballots
    c.pop_line.new.self c.in-Some.line c.loop-line.shares c.loop-line.turn c.before-turn.result c.loop-line.invariant
    c.in-Some.ensures.last c.requires.some c.before-turn.ensures c.index-shares-turn.result c.put.new.share
    (record { candidates = c.in_ok-put.ensures.candidates; ballots = c.in_ok-put.ensures.ballots })
