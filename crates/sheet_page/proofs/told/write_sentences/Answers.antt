use Rattle.std.proofs.Common.{◌∙◌, ap, sym, Bool, List, arith}
use Rattle.std.specs.Prelude.{if◌then◌else◌}
use Rattle.meek_rule.specs.Row.{Row}
use Rattle.page_tree.specs.Print.{printed}
use Rattle.page_tree.specs.Trees.{Nothing}
use Rattle.sheet_reader.specs.Values.{SheetList}
use Rattle.sheet_minutes.specs.Rounds.{row_at}
use Rattle.sheet_page.specs.Stretches.{is_of_round}
use Rattle.sheet_words.specs.Lines.{sentences_of}
use Rattle.sheet_page.specs.Told.{item, sentences_at}
use Rattle.sheet_page.specs.Trees.{each}
use Rattle.sheet_page.proofs.Pens.{nothing, place_more, renamed}
use Rattle.sheet_page.proofs.RoundPlaces.{nothing_before}
use Rattle.sheet_page.proofs.told.write_sentences.Goals as goal

pub loop-i-init : goal.loop-i-init
loop-i-init g c =
    let v = c.args.values.now in
    let last = c.args.last in
    let rows = c.items.ensures ∙ ap (λ (w : SheetList). w.rows) c.values.view_is in
    renamed (sym (nothing_before (λ i. printed (sentences_at g.row.P v last i)) c.first_of-first.result (λ i below.
    let other = ap (λ (l : List Row). is_of_round l last i) (sym rows) ∙ c.first_of-first.ensures.before i below in
    ap (λ (b : Bool). printed (if b then each item (sentences_of g.row.P v (row_at v.rows i)) else Nothing)) other))) (nothing _ _)

pub loop-i-preserved : goal.loop-i-preserved
loop-i-preserved g c =
    let v = c.args.values.now in
    let last = c.args.last in
    let i = c.loop-i.i in
    let rows = c.items.ensures ∙ ap (λ (w : SheetList). w.rows) c.values.view_is in
    let of = ap (λ (l : List Row). is_of_round l last i) (sym rows)
    ∙ c.first_of-first.ensures.of_it i (omega arith) (omega arith) in
    place_more (λ i. printed (sentences_at g.row.P v last i)) i c.loop-i.invariant (renamed
    (sym (ap (λ (b : Bool). printed (if b then each item (sentences_of g.row.P v (row_at v.rows i)) else Nothing)) of))
    c.write_sentences_at.ensures)
