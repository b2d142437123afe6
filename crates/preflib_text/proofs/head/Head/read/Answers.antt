use Rattle.std.proofs.Common.{arith}
use Rattle.std.proofs.lemmas.Grind.{common_steps}
use Rattle.preflib_text.proofs.HeadLemmas.{went_on, went_wrong, all_sound, all_known, all_behind}
use Rattle.preflib_text.proofs.head.Head.read.Goals as goal

pub loop-line-preserved : goal.loop-line-preserved
loop-line-preserved c = record {
  so_far = went_on c.args.asked.now c.args.lines.now c.loop-line.head c.loop-line.lines c.loop-line.invariant.so_far
      c.in-Some.line c.next_metadata.new.self c.take.new.self c.in-Some.ensures c.in_ok-take.ensures.sound
      c.in_ok-take.ensures.ok;
}

pub returns-in_err-take-clause-stop : goal.returns-in_err-take-clause-stop
returns-in_err-take-clause-stop c =
    let wrong = went_wrong c.args.asked.now c.args.lines.now c.loop-line.head c.loop-line.lines
    c.loop-line.invariant.so_far c.in-Some.line c.next_metadata.new.self c.in_err-take.field-0.0 c.in-Some.ensures
    c.in_err-take.ensures.stop in
    grind (arith, common_steps)

pub returns-clause-sound : goal.returns-clause-sound
returns-clause-sound c =
    all_sound c.args.asked.now c.args.lines.now c.loop-line.head c.loop-line.lines c.loop-line.invariant.so_far
    c.next_metadata.new.self c.in_default.ensures

pub returns-clause-known : goal.returns-clause-known
returns-clause-known c =
    all_known c.args.asked.now c.args.lines.now c.loop-line.head c.loop-line.lines c.loop-line.invariant.so_far
    c.next_metadata.new.self c.in_default.ensures

pub returns-clause-behind : goal.returns-clause-behind
returns-clause-behind c =
    all_behind c.args.asked.now c.args.lines.now c.loop-line.head c.loop-line.lines c.loop-line.invariant.so_far
    c.next_metadata.new.self c.in_default.ensures
