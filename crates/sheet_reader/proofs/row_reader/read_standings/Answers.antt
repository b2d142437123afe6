use Rattle.std.proofs.Common.{◌∙◌, arith}
use Rattle.sheet_reader.proofs.Places.{no_standings, standing_more}
use Rattle.sheet_reader.proofs.row_reader.read_standings.Goals as goal

pub returns-then-not-read_standing_into-clause-read : goal.returns-then-not-read_standing_into-clause-read
returns-then-not-read_standing_into-clause-read g c s k v rest lk lv ks vs is =
    no_standings g.row.P _ c.loop-p.p _ _ _ s k v _ _ rest (omega (arith, c.loop-p-test.true, c.len-p-end.ensures)) lk
    lv ks vs c.loop-p.invariant.read
    c.if-not-read_standing_into.ensures.read is

pub loop-p-preserved : goal.loop-p-preserved
loop-p-preserved g c = record {
  states = c.read_standing_into.ensures.states ∙ c.loop-p.invariant.states;
  keeps = c.read_standing_into.ensures.keeps ∙ c.loop-p.invariant.states;
  votes = c.read_standing_into.ensures.votes ∙ c.loop-p.invariant.states;
  read = standing_more g.row.P c.loop-p.p _ _ _ _ _ _ _ _ _
      (omega (arith, c.loop-p-test.true, c.len-p-end.ensures, c.loop-p.invariant.states))
      (omega (arith, c.loop-p-test.true, c.len-p-end.ensures, c.loop-p.invariant.keeps))
      (omega (arith, c.loop-p-test.true, c.len-p-end.ensures, c.loop-p.invariant.votes))
      c.loop-p.invariant.read c.if-not-read_standing_into.ensures.read;
}
