use Rattle.std.proofs.Common.{◌≡◌, ◌∙◌, ap, subst, ◌<◌, ◌≤◌, ℕ, List, length, get_or}
use Rattle.std.specs.List.{flat_map}
use Rattle.std.proofs.lemmas.List.{take_all}
use Rattle.meek_rule.specs.Row.{Row}
use Rattle.piece_text.specs.Writing.{Wrote, Writes}
use Rattle.piece_text.proofs.Written.{wrote_nothing}
use Rattle.sheet_reader.specs.Values.{SheetList}
use Rattle.sheet_words.specs.Lines.{sentences_of}
use Rattle.sheet_words.specs.Manner.{told}
use Rattle.sheet_words.proofs.Written.{item_wrote, item_stopped, nested}
use Rattle.sheet_words.proofs.story.write_iterations.Goals as goal

pub loop-row-init : goal.loop-row-init
loop-row-init g c = wrote_nothing _ _ _

pub loop-row-preserved : goal.loop-row-preserved
loop-row-preserved g c =
    let rows = c.items-row-items.ensures ∙ ap (λ (v : SheetList). v.rows) c.values.view_is in
    item_wrote (λ row. flat_map (told g.V.Voice.manner) (sentences_of g.row.P c.args.values.now row)) c.args.values.now.rows
    c.loop-row.row-index c.row-item.result
    (subst (λ (l : List Row). c.row-item.result ≡ get_or l c.loop-row.row-index c.row-item.result) rows c.row-item.is)
    (subst (λ (l : List Row). c.loop-row.row-index < length l) rows c.loop-row-test.true)
    c.loop-row.invariant c.in_ok-write_sentences_of.ensures

pub returns-in_err-write_sentences_of : goal.returns-in_err-write_sentences_of
returns-in_err-write_sentences_of g c =
    let rows = c.items-row-items.ensures ∙ ap (λ (v : SheetList). v.rows) c.values.view_is in
    subst (λ (l : List ℕ). Writes g.K.Sink.written g.K.Sink.faults c.args.sink.now
    c.write_sentences_of.new.sink l c.from_residual.result)
    (nested (told g.V.Voice.manner) (sentences_of g.row.P c.args.values.now) c.args.values.now.rows)
    (item_stopped (λ row. flat_map (told g.V.Voice.manner) (sentences_of g.row.P c.args.values.now row)) c.args.values.now.rows
    c.loop-row.row-index c.row-item.result c.from_residual.result
    (subst (λ (l : List Row). c.row-item.result ≡ get_or l c.loop-row.row-index c.row-item.result) rows c.row-item.is)
    c.from_residual.ensures.0 (subst (λ (l : List Row). c.loop-row.row-index < length l) rows c.loop-row-test.true)
    c.loop-row.invariant c.in_err-write_sentences_of.ensures)

pub returns : goal.returns
returns g c =
    let rows = c.items-row-items.ensures ∙ ap (λ (v : SheetList). v.rows) c.values.view_is in
    let past =
    take_all c.loop-row.row-index c.args.values.now.rows
    (subst (λ (l : List Row). length l ≤ c.loop-row.row-index) rows c.loop-row-test.false) in
    subst (λ (l : List ℕ). Wrote g.K.Sink.written g.K.Sink.faults c.args.sink.now c.loop-row.sink l)
    (ap (flat_map (λ (row : Row). flat_map (told g.V.Voice.manner) (sentences_of g.row.P c.args.values.now row))) past
    ∙ nested (told g.V.Voice.manner) (sentences_of g.row.P c.args.values.now) c.args.values.now.rows)
    c.loop-row.invariant
