use Rattle.tally_cli.proofs.Ends.{nothing_shown}
use Rattle.tally_cli.proofs.opening.open_hall.Goals as goal

pub returns-clause-shown : goal.returns-clause-shown
returns-clause-shown g c =
    nothing_shown _ c.args.candidates c.requires.1 c.new.ensures.candidates c.new.ensures.shard
    c.new.ensures.shards c.new.ensures.entries
    c.in-Ok.ensures.scribe c.in_ok-kept.ensures
