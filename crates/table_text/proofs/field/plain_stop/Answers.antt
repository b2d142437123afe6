use Rattle.std.proofs.Common.{sym, ap, subst, arith}
use Rattle.table_text.specs.declared.text_kind.TextKind.TheVariants.{BadByte, BadQuote}
use Rattle.table_text.specs.Reading.{Plain, by_mark}
use Rattle.table_text.specs.Reader.{HasFlaw}
use Rattle.table_text.proofs.Over.{over_more, over_wrong}
use Rattle.table_text.proofs.field.plain_stop.Goals as goal

pub loop-stop-preserved : goal.loop-stop-preserved
loop-stop-preserved c =
    let l = c.loop-stop in
    record {
      after = omega arith;
      inside = omega arith;
      over =
          over_more c.args.separator c.args.bytes.now c.args.at Plain Plain l.stop c.loop-stop-test.true Plain
          l.invariant.after (ap (by_mark Plain) (sym c.in-Inner.ensures)) l.invariant.over;
    }

pub returns-in-Wrong-clause-flaw : goal.returns-in-Wrong-clause-flaw
returns-in-Wrong-clause-flaw c =
    let l = c.loop-stop in
    subst (HasFlaw c.args.separator c.args.bytes.now Plain c.args.at) (sym c.flawed.ensures)
    (over_wrong c.args.separator c.args.bytes.now c.args.at Plain Plain l.stop c.loop-stop-test.true BadByte
    (ap (by_mark Plain) (sym c.in-Wrong.ensures)) l.invariant.over)

pub returns-in-Quote-clause-flaw : goal.returns-in-Quote-clause-flaw
returns-in-Quote-clause-flaw c =
    let l = c.loop-stop in
    subst (HasFlaw c.args.separator c.args.bytes.now Plain c.args.at) (sym c.flawed-in-Quote.ensures)
    (over_wrong c.args.separator c.args.bytes.now c.args.at Plain Plain l.stop c.loop-stop-test.true BadQuote
    (ap (by_mark Plain) (sym c.in-Quote.ensures)) l.invariant.over)
