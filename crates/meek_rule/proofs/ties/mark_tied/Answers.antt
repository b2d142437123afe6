use Rattle.std.proofs.Common.{false, arith, ◌∙◌, length}
use Rattle.std.proofs.lemmas.List.FromFn.{fill_by_all}
use Rattle.std.proofs.lemmas.List.Edits.{fill_by_more}
use Rattle.std.proofs.Math.ListN.{length-set}
use Rattle.std.proofs.Common.{◌<◌, ap}
use Rattle.meek_rule.specs.Ties.{is_tied}
use Rattle.meek_rule.proofs.ties.mark_tied.Goals as goal

pub returns : goal.returns
returns g c =
    fill_by_all (is_tied c.args.states.now c.args.votes.now c.args.surplus) c.loop-p.marks
    (length c.args.states.now) false (c.loop-p.invariant.same_length ∙ c.requires.marks_of_all)
    (λ q below. c.loop-p.invariant.marked q (omega arith))

pub loop-p-preserved : goal.loop-p-preserved
loop-p-preserved g c =
    let inside : c.loop-p.p < length c.loop-p.marks = omega arith in
    record {
      same_length = ap length c.set.ensures ∙ length-set c.loop-p.marks c.loop-p.p c.is_tied.result ∙ c.loop-p.invariant.same_length;
      marked = rw (c.set.ensures, c.is_tied.ensures)
          (fill_by_more (is_tied c.args.states.now c.args.votes.now c.args.surplus) c.loop-p.marks c.loop-p.p false
          inside c.loop-p.invariant.marked);
    }
