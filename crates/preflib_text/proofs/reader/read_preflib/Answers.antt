use Rattle.std.proofs.Common.{sym, arith}
use Rattle.std.proofs.lemmas.Grind.{common_steps}
use Rattle.plain_ballots.specs.Ballots.{ballot_count}
use Rattle.preflib_text.proofs.TextLemmas.{IsHeadRead, in_heading, in_order, in_total, in_nothing, text_read}
use Rattle.preflib_text.proofs.reader.read_preflib.Goals.{In_ok-head}
use Rattle.preflib_text.proofs.reader.read_preflib.Goals as goal

-- the metadata were read
head_read : (c : In_ok-head) → IsHeadRead c.args.asked.now c.new-lines.result c.in_ok-head.head c.read.new.lines
head_read c = record {
  sound = c.in_ok-head.ensures.sound;
  known_of = c.in_ok-head.ensures.known;
  behind = c.in_ok-head.ensures.behind;
}

pub returns-in_err-candidates-clause-stop : goal.returns-in_err-candidates-clause-stop
returns-in_err-candidates-clause-stop c =
    let wrong = in_heading c.args.asked.now c.args.bytes.now c.new-lines.result c.read.new.lines c.in_ok-head.head
    c.new-lines.ensures (head_read ((goal.at.returns-in_err-candidates-clause-stop c).In_ok-head))
    c.in_err-candidates.field-0.0 c.in_err-candidates.ensures.stop in
    grind (arith, common_steps)

pub returns-in_err-counted-clause-stop : goal.returns-in_err-counted-clause-stop
returns-in_err-counted-clause-stop c =
    let wrong = in_order c.args.asked.now c.args.bytes.now c.new-lines.result c.read.new.lines c.in_ok-head.head
    c.new-lines.ensures (head_read ((goal.at.returns-in_err-counted-clause-stop c).In_ok-head))
    c.in_ok-candidates.candidates c.in_ok-candidates.ensures.sound c.in_ok-candidates.ensures.candidates
    c.equal.result c.equal.ensures
    c.in_err-counted.field-0.0 c.in_err-counted.ensures.stop in
    grind (arith, common_steps)

pub returns-in-Some-clause-stop : goal.returns-in-Some-clause-stop
returns-in-Some-clause-stop c =
    in_total c.args.asked.now c.args.bytes.now c.new-lines.result c.read.new.lines c.in_ok-head.head
    c.new-lines.ensures (head_read ((goal.at.returns-in-Some-clause-stop c).In_ok-head))
    c.in_ok-candidates.candidates c.in_ok-candidates.ensures.sound c.in_ok-candidates.ensures.candidates
    c.equal.result c.equal.ensures
    c.read_orders.new.lines (ballot_count c.in_ok-counted.counted.ballots.lines) c.in_ok-counted.ensures.sound
    c.in_ok-counted.ensures.end c.in_ok-counted.ensures.counted.bounded c.in_ok-counted.ensures.total
    c.in-Some.fault (sym c.in-Some.ensures)

pub returns-clause-imported : goal.returns-clause-imported
returns-clause-imported c =
    text_read c.args.asked.now c.args.bytes.now c.new-lines.result c.read.new.lines c.in_ok-head.head
    c.new-lines.ensures (head_read ((goal.at.returns-clause-imported c).In_ok-head))
    c.in_ok-candidates.candidates c.in_ok-candidates.ensures.sound c.in_ok-candidates.ensures.candidates
    c.equal.result c.equal.ensures
    (record {
      names = c.in_ok-names.field-0;
      title = c.in_ok-title.field-0;
      ballots = c.in_ok-counted.counted.ballots;
      tally = c.in_ok-counted.counted.tally;
    }) c.in_ok-names.ensures c.in_ok-title.ensures c.in_ok-counted.ensures.candidates
    c.in_ok-counted.ensures.ballots c.in_ok-counted.ensures.tally

pub returns-clause-sound : goal.returns-clause-sound
returns-clause-sound c =
    in_nothing c.args.asked.now c.args.bytes.now c.new-lines.result c.read.new.lines c.in_ok-head.head
    c.new-lines.ensures (head_read ((goal.at.returns-clause-sound c).In_ok-head))
    c.in_ok-candidates.candidates c.in_ok-candidates.ensures.sound c.in_ok-candidates.ensures.candidates
    c.equal.result c.equal.ensures
    c.read_orders.new.lines (ballot_count c.in_ok-counted.counted.ballots.lines) c.in_ok-counted.ensures.sound
    c.in_ok-counted.ensures.end c.in_ok-counted.ensures.counted.bounded c.in_ok-counted.ensures.total
    (sym c.in_default.ensures)
