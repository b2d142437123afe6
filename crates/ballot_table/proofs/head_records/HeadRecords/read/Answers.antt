use Rattle.std.proofs.Common.{◌≡◌, ◌∙◌, ◌+◌, refl, sym, ap, subst, ℕ, List, length, map, take, Some, arith}
use Rattle.table_text.specs.Reading as text
use Rattle.ballot_table.specs.declared.fault.Fault.{Fault}
use Rattle.ballot_table.specs.declared.table_kind.TableKind.TheVariants.{HeadExpected}
use Rattle.ballot_table.specs.declared.table_stop.TableStop.{TableStop}
use Rattle.ballot_table.specs.Imported.{head_ended, stop_at, texts_in}
use Rattle.ballot_table.specs.Sheets.{AreHeadRecords, left_after, row_at}
use Rattle.ballot_table.proofs.HeadRecordLemmas.{breaks_off, ended_is, ends_early, last_is, rest_more, texts_more}
use Rattle.ballot_table.proofs.LeftLemmas.{is_stop}
use Rattle.ballot_table.proofs.head_records.HeadRecords.read.Goals as goal

pub loop-read-init : goal.loop-read-init
loop-read-init c = record {
  few = omega arith;
  rest = refl;
  texts = c.new-texts.ensures.items;
  last = λ some. absurd (omega (arith, some));
  ended = tt;
}

pub loop-read-preserved : goal.loop-read-preserved
loop-read-preserved c =
    let reading = c.args.sheet.now.records.rest in
    let l = c.loop-read in
    let new = c.next.new.self in
    let turned = rw c.in-Ok-Some.field-0-is at c.in-Ok-Some.ensures in
    let row = row_at new c.in-Ok-Some.place in
    let left : left_after l.read reading ≡ text.with_row row new.records.rest = sym l.invariant.rest ∙ turned.rest in
    let fields = c.in-Ok.ensures ∙ turned.texts in
    let stop = c.stop_at-ended.ensures ∙ ap (stop_at row) c.expected_after.ensures in
    record {
      few = omega (arith, c.loop-read-test.true);
      rest = rest_more reading l.read row new.records.rest left;
      texts = c.in-Ok-push.ensures ∙ texts_more reading l.read row new.records.rest left l.texts.items _ l.invariant.texts fields;
      last = λ some. record { last = last_is reading l.read row new.records.rest left; texts = turned.texts };
      ended =
          is_stop (head_ended (take (l.read + 1) reading.rows)) c.stop_at-ended.result
          (ended_is reading l.read row new.records.rest left
          ∙ ap (λ (n : ℕ). Some (stop_at row (record { kind = HeadExpected; place = n + 1 })))
          (sym (ap (λ (ts : List (List ℕ)). length ts) (c.items.ensures ∙ fields)))
          ∙ ap Some (sym stop));
    }

pub overflow_add-read : goal.overflow_add-read
overflow_add-read c = omega (arith, c.loop-read-test.true)

pub returns-in-Ok-None : goal.returns-in-Ok-None
returns-in-Ok-None c =
    let reading = c.args.sheet.now.records.rest in
    let l = c.loop-read in
    let end = rw c.in-Ok-None.field-0-is at c.in-Ok-None.ensures in
    ends_early c.args.asked.now reading l.read c.loop-read-test.true l.ended (sym l.invariant.rest ∙ end)
    l.invariant.ended

pub returns-in-Err : goal.returns-in-Err
returns-in-Err c =
    let l = c.loop-read in
    breaks_off c.args.asked.now c.args.sheet.now.records.rest l.read c.loop-read-test.true l.sheet c.next.new.self
    c.in-Err.stop l.invariant.rest c.in-Err.ensures

pub returns : goal.returns
returns c =
    let l = c.loop-read in
    let some = c.requires in
    let same : l.read ≡ c.args.asked.now.heads =
    let few = l.invariant.few in let end = c.loop-read-test.false in omega (arith, few, end) in
    let reading = c.args.sheet.now.records.rest in
    subst (λ (n : ℕ). AreHeadRecords n reading (record { texts = l.texts; place = l.place }) l.sheet) same (record {
      rest = l.invariant.rest;
      texts = l.invariant.texts;
      last = l.invariant.last (omega (arith, same, some));
    })
