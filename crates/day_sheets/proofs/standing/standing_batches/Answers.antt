use Rattle.day_sheets.proofs.StandingWalk.{walk_begins, walked_on, few, may_go, next_call}
use Rattle.day_sheets.proofs.standing.standing_batches.Goals as goal

pub loop-entry-init : goal.loop-entry-init
loop-entry-init c = walk_begins c.args.entries.now c.requires.legal c.requires.numbers

pub standing_then-standing-requires-clause-few : goal.standing_then-standing-requires-clause-few
standing_then-standing-requires-clause-few c = few c.loop-entry.invariant

pub standing_then-standing-requires-clause-some : goal.standing_then-standing-requires-clause-some
standing_then-standing-requires-clause-some c =
    may_go c.loop-entry.invariant (next_call c.args.entries.now c.loop-entry.entry-index c.entry-item.result
    c.loop-entry-test.true c.entry-item.is)

pub loop-entry-preserved : goal.loop-entry-preserved
loop-entry-preserved c =
    walked_on c.loop-entry.invariant
    (next_call c.args.entries.now c.loop-entry.entry-index c.entry-item.result c.loop-entry-test.true c.entry-item.is)
    c.standing_then-standing.result c.standing_then-standing.ensures
