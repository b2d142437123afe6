use Rattle.std.proofs.Common.{◌+◌, Bool, if◌then◌else◌, get_or, drop, sym, ◌∙◌, ap, subst, arith}
use Rattle.table_text.specs.declared.text_kind.TextKind.TheVariants.{BadByte, BadQuote}
use Rattle.table_text.specs.Reading.{Front, Within, BehindQuote, by_mark, move}
use Rattle.table_text.specs.Reader.{closes, GoesOver, HasFlaw}
use Rattle.table_text.proofs.Over.{over_none, over_more, over_wrong, over_closed, over_closed_end}
use Rattle.table_text.proofs.Over.{over_open_end, closes_other, within_quote, within_text, within_wrong}
use Rattle.table_text.proofs.field.quoted_stop.Goals as goal
use Rattle.table_text.proofs.field.quoted_stop.Goals.{then-is_behind_quote+in-Quote}
use Rattle.table_text.proofs.field.quoted_stop.Goals.{else-is_behind_quote+then-bytes-stop-eq-QUOTE}
use Rattle.table_text.proofs.field.quoted_stop.Goals.{else-is_behind_quote+else-bytes-stop-eq-QUOTE+else-not-is_text}

pub loop-stop-init : goal.loop-stop-init
loop-stop-init c =
    let bytes = c.args.bytes.now in
    let at = c.args.at in
    record {
      after = omega arith;
      inside = omega arith;
      over =
          over_more c.args.separator bytes at Front Front at c.requires.inside Within (omega arith)
          (ap (λ (n : _). move c.args.separator Front n (drop (at + 1) bytes)) c.requires.quote)
          (over_none c.args.separator bytes at Front);
    }

pub returns-in-Inner-clause-flaw : goal.returns-in-Inner-clause-flaw
returns-in-Inner-clause-flaw c =
    let l = c.loop-stop in
    let bytes = c.args.bytes.now in
    let over : GoesOver c.args.separator bytes Front c.args.at l.stop BehindQuote =
    subst (λ (q : Bool). GoesOver c.args.separator bytes Front c.args.at l.stop
    (if q then BehindQuote else Within))
    c.if-is_behind_quote.true l.invariant.over in
    subst (HasFlaw c.args.separator bytes Front c.args.at) (sym c.flawed.ensures)
    (over_wrong c.args.separator bytes c.args.at Front BehindQuote l.stop c.loop-stop-test.true BadQuote
    (ap (by_mark BehindQuote) (sym c.in-Inner.ensures)) over)

pub returns-in-Wrong-clause-flaw : goal.returns-in-Wrong-clause-flaw
returns-in-Wrong-clause-flaw c =
    let l = c.loop-stop in
    let bytes = c.args.bytes.now in
    let over : GoesOver c.args.separator bytes Front c.args.at l.stop BehindQuote =
    subst (λ (q : Bool). GoesOver c.args.separator bytes Front c.args.at l.stop
    (if q then BehindQuote else Within))
    c.if-is_behind_quote.true l.invariant.over in
    subst (HasFlaw c.args.separator bytes Front c.args.at) (sym c.flawed-in-Wrong.ensures)
    (over_wrong c.args.separator bytes c.args.at Front BehindQuote l.stop c.loop-stop-test.true BadByte
    (ap (by_mark BehindQuote) (sym c.in-Wrong.ensures)) over)

pub returns-in_default-clause-over : goal.returns-in_default-clause-over
returns-in_default-clause-over c =
    let l = c.loop-stop in
    let bytes = c.args.bytes.now in
    let over : GoesOver c.args.separator bytes Front c.args.at l.stop BehindQuote =
    subst (λ (q : Bool). GoesOver c.args.separator bytes Front c.args.at l.stop
    (if q then BehindQuote else Within))
    c.if-is_behind_quote.true l.invariant.over in
    let d = c.in_default in
    over_closed c.args.separator bytes c.args.at Front BehindQuote l.stop c.loop-stop-test.true
    (ap closes (sym c.mark_at.ensures) ∙ closes_other c.mark_at.result d.not-Quote d.not-Wrong d.not-Inner)
    over

pub returns-then-not-is_text-clause-flaw : goal.returns-then-not-is_text-clause-flaw
returns-then-not-is_text-clause-flaw c =
    let l = c.loop-stop in
    let bytes = c.args.bytes.now in
    let over : GoesOver c.args.separator bytes Front c.args.at l.stop Within =
    subst (λ (q : Bool). GoesOver c.args.separator bytes Front c.args.at l.stop
    (if q then BehindQuote else Within))
    c.if-is_behind_quote.false l.invariant.over in
    subst (HasFlaw c.args.separator bytes Front c.args.at) (sym c.flawed-then-not-is_text.ensures)
    (over_wrong c.args.separator bytes c.args.at Front Within l.stop c.loop-stop-test.true BadByte
    (within_wrong (get_or bytes l.stop 0) c.if-bytes-stop-eq-QUOTE.false
    (sym c.is_text.ensures ∙ c.if-not-is_text.true))
    over)

pub loop-stop-preserved : goal.loop-stop-preserved
loop-stop-preserved c =
    let l = c.loop-stop in
    let bytes = c.args.bytes.now in
    let s = c.args.separator in
    let at = c.args.at in
    elim c.if-is_behind_quote.branch [
      | then-is_behind_quote+in-Quote w ↦ record {
        after = omega arith;
        inside = omega arith;
        over = rw w.is_behind_quote-is
            (over_more s bytes at Front BehindQuote l.stop c.loop-stop-test.true Within l.invariant.after
            (ap (by_mark BehindQuote) (sym w.in-Quote.ensures))
            (subst (λ (q : Bool). GoesOver s bytes Front at l.stop (if q then BehindQuote else Within))
            w.if-is_behind_quote.true l.invariant.over));
      }
      | else-is_behind_quote+then-bytes-stop-eq-QUOTE w ↦ record {
        after = omega arith;
        inside = omega arith;
        over = rw w.is_behind_quote-is
            (over_more s bytes at Front Within l.stop c.loop-stop-test.true BehindQuote l.invariant.after
            (within_quote (get_or bytes l.stop 0) w.if-bytes-stop-eq-QUOTE.true)
            (subst (λ (q : Bool). GoesOver s bytes Front at l.stop (if q then BehindQuote else Within))
            w.if-is_behind_quote.false l.invariant.over));
      }
      | else-is_behind_quote+else-bytes-stop-eq-QUOTE+else-not-is_text w ↦ record {
        after = omega arith;
        inside = omega arith;
        over = rw (w.is_behind_quote-is, w.if-is_behind_quote.false)
            (over_more s bytes at Front Within l.stop c.loop-stop-test.true Within l.invariant.after
            (within_text (get_or bytes l.stop 0) w.if-bytes-stop-eq-QUOTE.false
            (sym w.is_text.ensures ∙ w.if-not-is_text.false))
            (subst (λ (q : Bool). GoesOver s bytes Front at l.stop (if q then BehindQuote else Within))
            w.if-is_behind_quote.false l.invariant.over));
      }
    ]

pub returns-then-is_behind_quote-2-clause-over : goal.returns-then-is_behind_quote-2-clause-over
returns-then-is_behind_quote-2-clause-over c =
    let l = c.loop-stop in
    let bytes = c.args.bytes.now in
    let over : GoesOver c.args.separator bytes Front c.args.at l.stop BehindQuote =
    subst (λ (q : Bool). GoesOver c.args.separator bytes Front c.args.at l.stop
    (if q then BehindQuote else Within))
    c.if-is_behind_quote-2.true l.invariant.over in
    over_closed_end c.args.separator bytes c.args.at Front l.stop c.loop-stop-test.false over

pub returns-else-is_behind_quote-2-clause-flaw : goal.returns-else-is_behind_quote-2-clause-flaw
returns-else-is_behind_quote-2-clause-flaw c =
    let l = c.loop-stop in
    let bytes = c.args.bytes.now in
    let over : GoesOver c.args.separator bytes Front c.args.at l.stop Within =
    subst (λ (q : Bool). GoesOver c.args.separator bytes Front c.args.at l.stop
    (if q then BehindQuote else Within))
    c.if-is_behind_quote-2.false l.invariant.over in
    subst (HasFlaw c.args.separator bytes Front c.args.at) (sym c.flawed-else-is_behind_quote-2.ensures)
    (over_open_end c.args.separator bytes c.args.at Front l.stop c.loop-stop-test.false over)
