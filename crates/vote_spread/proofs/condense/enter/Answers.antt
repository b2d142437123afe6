use Rattle.std.proofs.Common.{arith, ◌∙◌}
use Rattle.vote_spread.specs.Rows.{seen}
use Rattle.vote_spread.proofs.TotalLemmas.{continues_then, continues_end}
use Rattle.vote_spread.proofs.condense.enter.Goals as goal

pub returns-in_err-below-clause-continues : goal.returns-in_err-below-clause-continues
returns-in_err-below-clause-continues c =
    continues_end c.args.classes.now c.args.branch.ballots c.args.at c.args.branch.candidate c.args.tail.now
    (seen c.args.rows.now.items) (seen c.put.new.rows.items) c.put.ensures.continues
    c.in_err-below.ensures.leaves

pub returns-clause-continues : goal.returns-clause-continues
returns-clause-continues c =
    continues_then c.args.classes.now c.args.branch.ballots c.args.at c.in_ok-below.below
    c.args.branch.candidate c.args.tail.now (seen c.args.rows.now.items) (seen c.put.new.rows.items)
    (seen c.follow.new.rows.items) c.put.ensures.continues c.in_ok-below.ensures.leaves
    c.follow.ensures.continues

pub returns-clause-leaves : goal.returns-clause-leaves
returns-clause-leaves c =
    let leaves = c.in_ok-below.ensures.leaves in (
      leaves.0,
      leaves.1,
      λ s keeps are. c.follow.ensures.continues.above s keeps c.in_ok-below.below are (omega arith) ∙ leaves.2 s keeps are,
    )
