use Rattle.std.proofs.Common.{ℕ, ◌+◌, ◌≤◌, ◌∷◌, List, length, drop, get_or, arith, rules, subst, ◌∙◌}
use Rattle.std.proofs.lemmas.List.{drop_more, drop_all}
use Rattle.std.proofs.lemmas.List.Elements.{All-get_or}
use Rattle.vote_spread.specs.Rows.{seen}
use Rattle.vote_spread.proofs.FollowLemmas.{Missing, missing_begin, missing_next, missing_stop, missing_end}
use Rattle.vote_spread.proofs.condense.follow.Goals as goal

pub loop-rank-init : goal.loop-rank-init
loop-rank-init c = record {
  capacity = search rules;
  few = omega arith;
  shallow = omega arith;
  missing = missing_begin c.args.classes.now c.args.ballots c.args.at c.args.tail.now (seen c.args.rows.now.items);
}

pub put-requires-clause-candidate : goal.put-requires-clause-candidate
put-requires-clause-candidate c =
    All-get_or (λ (r : ℕ). (1 ≤ r) × (r ≤ length c.args.classes.now)) c.args.tail.now c.loop-rank.rank-index 0
    c.loop-rank-test.true c.requires.ranks

pub loop-rank-preserved : goal.loop-rank-preserved
loop-rank-preserved c =
    let i = c.loop-rank.rank-index in
    let tail = c.args.tail.now in
    let inv = c.loop-rank.invariant in
    let old = seen c.args.rows.now.items in
    let now = seen c.loop-rank.rows.items in
    let leaves = c.in-Some.ensures.leaves in
    let at_rank :
    Missing c.args.classes.now c.args.ballots c.args.at c.loop-rank.depth tail
    (get_or tail i 0 ∷ drop (i + 1) tail) old now =
    subst
    (λ (l : List ℕ). Missing c.args.classes.now c.args.ballots c.args.at c.loop-rank.depth tail l old now)
    (drop_more tail i 0 c.loop-rank-test.true) inv.missing in
    record {
      capacity = c.put.ensures.capacity ∙ inv.capacity;
      few = omega (arith, c.put.ensures.few, inv.few);
      shallow = omega (arith, leaves.1, inv.shallow);
      missing =
          missing_next c.args.classes.now c.args.ballots c.args.at c.loop-rank.depth c.in-Some.below
          (get_or tail i 0) tail (drop (i + 1) tail) old now (seen c.put.new.rows.items) at_rank
          c.put.ensures.continues leaves;
    }

pub returns-in-None-clause-continues : goal.returns-in-None-clause-continues
returns-in-None-clause-continues c =
    let i = c.loop-rank.rank-index in
    let tail = c.args.tail.now in
    let old = seen c.args.rows.now.items in
    let now = seen c.loop-rank.rows.items in
    let at_rank :
    Missing c.args.classes.now c.args.ballots c.args.at c.loop-rank.depth tail
    (get_or tail i 0 ∷ drop (i + 1) tail) old now =
    subst
    (λ (l : List ℕ). Missing c.args.classes.now c.args.ballots c.args.at c.loop-rank.depth tail l old now)
    (drop_more tail i 0 c.loop-rank-test.true) c.loop-rank.invariant.missing in
    missing_stop c.args.classes.now c.args.ballots c.args.at c.loop-rank.depth (get_or tail i 0) tail
    (drop (i + 1) tail) old now (seen c.put.new.rows.items) at_rank c.put.ensures.continues
    c.in-None.ensures.leaves

pub returns-clause-continues : goal.returns-clause-continues
returns-clause-continues c =
    missing_end c.args.classes.now c.args.ballots c.args.at c.loop-rank.depth c.args.tail.now
    (drop c.loop-rank.rank-index c.args.tail.now) (seen c.args.rows.now.items) (seen c.loop-rank.rows.items)
    (drop_all c.loop-rank.rank-index c.args.tail.now c.loop-rank-test.false) c.loop-rank.invariant.missing
