use Rattle.std.proofs.Common.{◌≡◌, ◌∙◌, ap, refl, subst, sym, ◌<◌, ◌≤◌, ℕ, List, [], ◌∷◌, ◌++◌, length, get_or}
use Rattle.std.specs.List.{flat_map}
use Rattle.std.proofs.lemmas.List.{take_all}
use Rattle.std.proofs.lemmas.List.Concat.{flat_map-append}
use Rattle.meek_rule.specs.Row.{Row}
use Rattle.piece_text.specs.Writing.{Wrote, Stopped, Writes}
use Rattle.piece_text.proofs.Written.{wrote_nothing, wrote_more, stopped_at}
use Rattle.sheet_reader.specs.Values.{SheetList}
use Rattle.sheet_words.specs.Lines.{sentences_of}
use Rattle.sheet_words.specs.Manner.{told}
use Rattle.sheet_minutes.specs.Minutes.{spoken}
use Rattle.sheet_minutes.proofs.decisions.write_iterations.Goals as goal

-- what is written of an iteration
abbrev decided : (places : ℕ) → SheetList → Row → List ℕ
decided places v row = flat_map (told spoken) (sentences_of places v row)

nested : (places : ℕ) (v : SheetList) (rows : List Row) → flat_map (decided places v) rows ≡ flat_map (told spoken) (flat_map (sentences_of places v) rows)
nested places v [] = refl
nested places v (row ∷ rows) =
    ap (λ (l : List ℕ). decided places v row ++ l) (nested places v rows)
    ∙ sym (flat_map-append (told spoken) (sentences_of places v row) (flat_map (sentences_of places v) rows))

pub loop-row-init : goal.loop-row-init
loop-row-init g c = wrote_nothing _ _ _

pub loop-row-preserved : goal.loop-row-preserved
loop-row-preserved g c =
    let v = c.args.values.now in
    let i = c.loop-row.row-index in
    let row = c.row-item.result in
    let rows = c.items-row-items.ensures ∙ ap (λ (v : SheetList). v.rows) c.values.view_is in
    let is = subst (λ (l : List Row). row ≡ get_or l i row) rows c.row-item.is in
    wrote_more (decided g.row.P v) v.rows i row (subst (λ (l : List Row). i < length l) rows c.loop-row-test.true)
    c.loop-row.invariant
    (subst (λ (r : Row). Wrote g.K.Sink.written g.K.Sink.faults c.loop-row.sink c.write_sentences_of.new.sink (decided g.row.P v r))
    is c.in_ok-write_sentences_of.ensures)

pub returns-in_err-write_sentences_of : goal.returns-in_err-write_sentences_of
returns-in_err-write_sentences_of g c =
    let v = c.args.values.now in
    let i = c.loop-row.row-index in
    let row = c.row-item.result in
    let rows = c.items-row-items.ensures ∙ ap (λ (v : SheetList). v.rows) c.values.view_is in
    let is = subst (λ (l : List Row). row ≡ get_or l i row) rows c.row-item.is in
    subst (λ (l : List ℕ). Writes g.K.Sink.written g.K.Sink.faults c.args.sink.now c.write_sentences_of.new.sink l
    c.from_residual.result) (nested g.row.P v v.rows)
    (stopped_at (decided g.row.P v) v.rows i row c.from_residual.result c.from_residual.ensures.0
    (subst (λ (l : List Row). i < length l) rows c.loop-row-test.true) c.loop-row.invariant
    (subst (λ (r : Row). Stopped g.K.Sink.written g.K.Sink.faults c.loop-row.sink c.write_sentences_of.new.sink
    (decided g.row.P v r)) is c.in_err-write_sentences_of.ensures))

pub returns : goal.returns
returns g c =
    let v = c.args.values.now in
    let rows = c.items-row-items.ensures ∙ ap (λ (v : SheetList). v.rows) c.values.view_is in
    let past =
    take_all c.loop-row.row-index v.rows
    (subst (λ (l : List Row). length l ≤ c.loop-row.row-index) rows c.loop-row-test.false) in
    subst (λ (l : List ℕ). Wrote g.K.Sink.written g.K.Sink.faults c.args.sink.now c.loop-row.sink l)
    (ap (flat_map (decided g.row.P v)) past ∙ nested g.row.P v v.rows) c.loop-row.invariant
