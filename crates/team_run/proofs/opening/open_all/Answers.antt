use Rattle.std.proofs.Common.{ap, length, length-append, arith, ◌∷◌, []}
use Rattle.std.proofs.lemmas.List.{length-reverse}
use Rattle.team_run.proofs.OpeningLemmas.{opening_none, next_can, opening_more}
use Rattle.team_run.proofs.opening.open_all.Goals as goal

pub scripts-init : goal.scripts-init
scripts-init c = (
  opening_none c.args.office.now c.args.clerk.now c.args.scripts c.reverse.new.self c.args.teams.now.items
      c.requires.fresh c.requires.scripts c.requires.none c.reverse.ensures,
  (let same =
      ap length c.reverse.ensures in
      let turned = length-reverse c.args.scripts in let room = c.requires.room in omega arith),
)

pub open_one-requires-clause-answerable : goal.open_one-requires-clause-answerable
open_one-requires-clause-answerable c =
    next_can c.args.office.now c.args.clerk.now c.scripts.clerk c.args.scripts c.scripts.scripts
    c.pop.new.self c.in-Some.script c.scripts.teams.items c.scripts.invariant.0 c.in-Some.ensures.last

pub scripts-preserved : goal.scripts-preserved
scripts-preserved c =
    let team = c.in_ok-open_one.ensures.team in (
      opening_more c.args.office.now c.args.clerk.now c.scripts.clerk c.open_one.new.clerk c.args.scripts
          c.scripts.scripts c.pop.new.self c.in-Some.script c.scripts.teams.items c.open_one.new.teams.items
          team.0
          c.scripts.invariant.0 c.in-Some.ensures.last c.in_ok-open_one.ensures.clerk team.1 team.2 team.3,
      (let before = c.scripts.invariant.1 in
          let more = c.in_ok-open_one.ensures.len in
          let same = c.in_ok-open_one.ensures.capacity in
          let left = ap length c.in-Some.ensures.last in
          let one = length-append c.pop.new.self (c.in-Some.script ∷ []) in
          omega arith),
    )
