use Rattle.std.proofs.Common.{sym, ◌∙◌, ap, Ok, Err}
use Rattle.table_text.proofs.Heads.{parting_all, over_quote, over_other, at_line_end, over_same, at_unlike}
use Rattle.table_text.specs.Separator.{one_kind}
use Rattle.table_text.proofs.separator.find_separator.Goals as goal
use Rattle.table_text.proofs.separator.find_separator.Goals.{in-Quote, in-MayPart+else-is_unlike, in-Other}

pub returns-in-Ends : goal.returns-in-Ends
returns-in-Ends c =
    let l = c.loop-at in
    ap Ok c.kind_or_comma.ensures
    ∙ (sym (at_line_end c.args.bytes.now l.is_quoted l.kind l.count l.at c.loop-at-test.true
    c.in-Ends.ensures) ∙ l.invariant)

pub returns-then-is_unlike : goal.returns-then-is_unlike
returns-then-is_unlike c =
    let l = c.loop-at in
    ap Err c.unclear.ensures
    ∙ (sym
    (at_unlike c.args.bytes.now l.is_quoted l.kind l.count l.at c.loop-at-test.true c.in-MayPart.ensures
    (sym c.is_unlike.ensures ∙ c.if-is_unlike.true)) ∙ l.invariant)

pub loop-at-preserved : goal.loop-at-preserved
loop-at-preserved c =
    let l = c.loop-at in
    let bytes = c.args.bytes.now in
    elim c.match-head_byte_of.branch [
      | in-Quote w ↦ rw (w.is_quoted-is, w.kind-is, w.count-is)
          (sym (over_quote bytes l.is_quoted l.kind l.count l.at c.loop-at-test.true w.in-Quote.ensures)
          ∙ l.invariant)
      | in-MayPart+else-is_unlike w ↦ rw (w.is_quoted-is, w.kind-is, w.count-is, w.next_count-count.ensures)
          (sym (over_same bytes l.is_quoted l.kind l.count l.at c.loop-at-test.true w.in-MayPart.ensures
          (sym w.is_unlike.ensures ∙ w.if-is_unlike.false)) ∙ l.invariant)
      | in-Other w ↦ rw (w.is_quoted-is, w.kind-is, w.count-is)
          (sym (over_other bytes l.is_quoted l.kind l.count l.at c.loop-at-test.true w.in-Other.ensures)
          ∙ l.invariant)
    ]

pub returns : goal.returns
returns c =
    let l = c.loop-at in
    ap Ok c.kind_or_comma-2.ensures
    ∙ (sym (ap (one_kind l.kind l.count) (parting_all l.is_quoted c.args.bytes.now l.at c.loop-at-test.false))
    ∙ l.invariant)
