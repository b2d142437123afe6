use Rattle.std.proofs.Common.{subst, arith, List, Result, Ok, Err}
use Rattle.std.specs.Prelude.{IfOk}
use Rattle.std.proofs.lemmas.List.{take_all}
use Rattle.batch_core.specs.declared.entry.Entry.{Entry}
use Rattle.batch_core.specs.Book.{empty}
use Rattle.batch_core.specs.Histories.{after_all}
use Rattle.day_text.specs.End.{Follows}
use Rattle.day_text.proofs.Endings.{follows_next}
use Rattle.day_text.proofs.ending.end_of_day.Goals as goal

ok_then : {T E : Type 0} {P Q : T → Type 0} (r : Result T E) → ((x : T) → P x → Q x) → IfOk r P → IfOk r Q
ok_then (Ok x) then is = then x is
ok_then (Err e) then is = tt

pub loop-at-preserved : goal.loop-at-preserved
loop-at-preserved c = record {
  table = c.in_ok-call.ensures.table;
  follows =
      follows_next c.args.history.now.items c.loop-at.at c.get.result.now _ _ c.a_book_answers_a_history.ensures.book
      (omega (arith, c.loop-at-test.true, c.len-at-end.ensures)) c.get.ensures
      (c.in_ok-call.ensures.after _ c.loop-at.invariant.follows);
}

pub returns : goal.returns
returns c =
    let items = c.args.history.now.items in
    let all = take_all c.loop-at.at items (omega (arith, c.loop-at-test.false, c.len-at-end.ensures)) in
    let follows =
    subst (λ (l : List Entry). Follows c.loop-at.ending.table.items c.loop-at.ending.struck.items (after_all empty l)) all
    c.loop-at.invariant.follows in
    ok_then c.finish.result (λ end is. is (after_all empty items) follows) c.finish.ensures

pub loop-at-init : goal.loop-at-init
loop-at-init c = record { table = c.in_ok-ending.ensures.table; follows = c.in_ok-ending.ensures.empty }

pub call-requires : goal.call-requires
call-requires c = c.loop-at.invariant.table

pub finish-requires : goal.finish-requires
finish-requires c = c.loop-at.invariant.table
