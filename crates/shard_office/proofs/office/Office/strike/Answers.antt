use Rattle.std.proofs.Common.{◌≡◌, ◌++◌, ◌∷◌, [], IfOk, subst}
use Rattle.std.specs.Prelude.{OnErr}
use Rattle.shard_office.specs.Names.{strike_answer}
use Rattle.shard_office.specs.Sight.{GoesOn}
use Rattle.shard_office.specs.Passes.{PassState, sight_of, mine_of, own}
use Rattle.shard_office.proofs.AfterMarks.{HaveStruck, have_struck}
use Rattle.shard_office.proofs.office.Office.strike.Given.{Over}
use Rattle.shard_office.proofs.office.Office.strike.Goals as goal

-- what became of the pass's seats
did :
    (g : Over) (c : goal.After-strike g)
    → HaveStruck c.pass.inside.desk.office.value c.pass.inside.desk.caller c.args.candidate
    c.pass.inside.desk.shards.items c.pass.inside.desk.register c.strike.new.marks c.strike.result
did g c =
    let desk = c.pass.inside.desk in
    have_struck desk.office.value desk.caller c.args.candidate desk.shards.items desk.register c.strike.new.marks
    c.pass.invariant c.strike.result (record {
      knows = c.strike.ensures.own;
      mark = c.strike.ensures.mark;
      answered = c.strike.ensures.answered;
      refused = c.strike.ensures.refused;
    })

-- the pass now
abbrev now : (g : Over) → goal.After-strike g → PassState
now g c =
    let desk = c.pass.inside.desk in
    record {
      office = desk.office.value;
      caller = desk.caller;
      sight = sight_of desk.shards.items c.strike.new.marks;
      mine = mine_of desk.shards.items c.strike.new.marks;
    }

pub invariant_of-pass : goal.invariant_of-pass
invariant_of-pass g c = (did g c).at

pub returns-clause-goes_on : goal.returns-clause-goes_on
returns-clause-goes_on g c =
    subst (λ (p : PassState). GoesOn p.sight (now g c).sight) c.pass.view_is (did g c).goes_on

pub returns-clause-own : goal.returns-clause-own
returns-clause-own g c =
    subst (λ (p : PassState). IfOk c.strike.result (λ a. own (now g c)
    ≡ own p ++ strike_answer p.caller c.args.candidate a ∷ [])) c.pass.view_is (did g c).own_are

pub returns-clause-refused : goal.returns-clause-refused
returns-clause-refused g c =
    subst (λ (p : PassState). OnErr c.strike.result (own (now g c) ≡ own p)) c.pass.view_is (did g c).own_stay
