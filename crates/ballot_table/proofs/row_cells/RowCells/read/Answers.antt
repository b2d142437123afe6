use Rattle.std.proofs.Common.{◌≡◌, ◌<◌, ◌+◌, List, [], ℕ, Some, length, get_or, drop, ap, sym, ◌∙◌, subst, arith, sum_by}
use Rattle.std.specs.List.{zip}
use Rattle.std.proofs.lemmas.List.{drop_all, get_or_default}
use Rattle.std.proofs.lemmas.List.Sums.{sum_by-drop_more}
use Rattle.ballot_table.specs.declared.column.Column.TheVariants.{Weight}
use Rattle.ballot_table.specs.declared.table_kind.TableKind.{TableKind}
use Rattle.ballot_table.specs.Cells.{cell_of}
use Rattle.ballot_table.specs.Faults.{sound_one}
use Rattle.ballot_table.specs.Asked.{asked_of}
use Rattle.ballot_table.specs.Finding.{IsTaken, candidates_at}
use Rattle.ballot_table.proofs.RowLemmas.{turned, is_sound, is_faulty, reading_fault, reading_more, no_fault, all_read}
use Rattle.ballot_table.proofs.row_cells.RowCells.read.Goals as goal

-- the text of the field at a place
text_here : (texts : List (List ℕ)) (at : ℕ) (text : List ℕ) → at < length texts → text ≡ get_or texts at []
    → text ≡ get_or texts at text
text_here texts at text inside is = is ∙ get_or_default texts at [] text inside

pub returns-in-Err-Fault-clause-stop : goal.returns-in-Err-Fault-clause-stop
returns-in-Err-Fault-clause-stop c =
    let asked = asked_of c.args.asked.now in
    let columns = c.args.columns.now in
    let texts = c.args.sheet.now.texts in
    let at = c.loop-at.at in
    let column = get_or columns at Weight in
    let text = c.text.result.now in
    let kind = c.in-Err-Fault.kind in
    let stop = rw c.in-Err-Fault.field-0-is at c.in-Err-Fault.ensures in
    let is = is_faulty (cell_of asked c.args.room column text) kind
    (sym stop) in
    let here = text_here texts at text (omega arith) (c.text.ensures ∙ c.in_ok-field.ensures) in
    reading_fault asked c.args.room (zip columns texts) column text (drop (at + 1) (zip columns texts)) at
    c.loop-at.self kind
    (turned asked c.args.room columns texts at text c.loop-at.self c.loop-at-test.true c.requires.texts
    here c.loop-at.invariant.reading)
    is
    ∙ ap (λ (k : TableKind). Some (record { kind = k; place = at + 1 })) (sym c.in-Err-Fault.kind-is)

pub loop-at-preserved : goal.loop-at-preserved
loop-at-preserved c =
    let asked = asked_of c.args.asked.now in
    let columns = c.args.columns.now in
    let texts = c.args.sheet.now.texts in
    let at = c.loop-at.at in
    let column = get_or columns at Weight in
    let text = c.text.result.now in
    let is = is_sound (cell_of asked c.args.room column text)
    (sym c.in-Ok.ensures.sound) in
    let here = text_here texts at text (omega arith) (c.text.ensures ∙ c.in_ok-field.ensures) in
    let counted = c.in-Ok.ensures.candidates in
    let more = sum_by-drop_more candidates_at columns at Weight c.loop-at-test.true in
    record {
      reading =
          reading_more asked c.args.room (zip columns texts) column text (drop (at + 1) (zip columns texts)) at
          is.0 c.loop-at.self c.take.new.self
          (turned asked c.args.room columns texts at text c.loop-at.self c.loop-at-test.true c.requires.texts
          here c.loop-at.invariant.reading)
          is.1
          (subst (λ o. IsTaken o c.loop-at.self c.take.new.self)
          (ap sound_one is.1)
          c.in-Ok.ensures.taken);
      candidates = omega (arith, counted, more, c.loop-at.invariant.candidates);
    }

pub returns-clause-sound : goal.returns-clause-sound
returns-clause-sound c =
    no_fault (asked_of c.args.asked.now) c.args.room c.args.columns.now c.args.sheet.now.texts c.loop-at.at c.loop-at.self
    c.loop-at-test.false c.loop-at.invariant.reading

pub returns-clause-taken : goal.returns-clause-taken
returns-clause-taken c =
    let columns = c.args.columns.now in
    let none = ap (sum_by candidates_at) (drop_all c.loop-at.at columns c.loop-at-test.false) in
    all_read (asked_of c.args.asked.now) c.args.room columns c.args.sheet.now.texts c.loop-at.at c.loop-at.self
    c.loop-at-test.false c.loop-at.invariant.reading (omega (arith, none, c.loop-at.invariant.candidates))
