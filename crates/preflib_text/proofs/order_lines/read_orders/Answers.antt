use Rattle.std.proofs.Common.{◌≡◌, ◌-◌, List, ◌∷◌, sym, ap, ◌∙◌, subst, arith, None}
use Rattle.std.proofs.lemmas.Grind.{common_steps}
use Rattle.plain_ballots.specs.declared.limits.TheConstants.{MOST_BALLOTS}
use Rattle.plain_ballots.specs.Ballots.{ballot_count}
use Rattle.preflib_text.specs.Counting.{IsReadTo}
use Rattle.preflib_text.specs.Faults.{Line}
use Rattle.preflib_text.specs.Refusals.{whole_fault}
use Rattle.preflib_text.proofs.ReadLines.{read_more}
use Rattle.preflib_text.proofs.order_lines.read_orders.Goals as goal

-- the line that is read is the first of those that were to come
so_far : (c : goal.In_ok-add) → IsReadTo c.args.equal c.args.lines.now.rest c.loop-line.counted
    (c.in-Some.line ∷ c.next.new.self.rest)
so_far c =
    subst (λ (ls : List Line). IsReadTo c.args.equal c.args.lines.now.rest c.loop-line.counted ls) c.in-Some.ensures.0
    c.loop-line.invariant.read

sound : (c : goal.In_ok-add) → whole_fault c.args.equal c.loop-line.counted.ballots.candidates
    (MOST_BALLOTS - ballot_count c.loop-line.counted.ballots.lines, c.in-Some.line) ≡ None
sound c =
    let same = c.loop-line.invariant.same ∙ sym c.loop-line.invariant.candidates in
    ap (λ n. whole_fault c.args.equal n (MOST_BALLOTS - ballot_count c.loop-line.counted.ballots.lines, c.in-Some.line)) same
    ∙ ap (λ r. whole_fault c.args.equal c.loop-line.order.candidates (r, c.in-Some.line)) (sym c.room.ensures)
    ∙ c.in_ok-treated.ensures.sound

pub loop-line-preserved : goal.loop-line-preserved
loop-line-preserved c = record {
  candidates = grind (arith, common_steps);
  same = grind (arith, common_steps);
  sound = c.in_ok-add.ensures.counted;
  read = read_more c.args.equal c.args.lines.now.rest c.loop-line.counted c.add.new.self c.in-Some.line
      c.next.new.self.rest c.in_ok-treated.treated c.count.result (so_far c)
      (c.count.ensures ∙ c.in_ok-treated.ensures.count) c.in_ok-add.ensures.ballots (sound c)
      c.in_ok-treated.ensures.ranked c.in_ok-treated.ensures.passed c.in_ok-treated.ensures.cut
      c.in_ok-add.ensures.tally;
  rows = grind (arith, common_steps);
  bytes = grind (arith, common_steps);
}
