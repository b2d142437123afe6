use Rattle.std.proofs.Common.{◌≡◌, ◌∙◌, ap, sym, subst, arith, ℕ, ◌+◌, ◌-◌, ◌++◌, List, append-nil}
use Rattle.std.specs.List.{flat_map}
use Rattle.meek_rule.specs.Row.{Row}
use Rattle.piece_text.specs.Writing.{Wrote, Stopped}
use Rattle.sheet_reader.specs.Values.{SheetList}
use Rattle.sheet_minutes.specs.Rounds.{ends_round, rounds_in}
use Rattle.sheet_minutes.specs.Table.{cell}
use Rattle.sheet_minutes.proofs.Growing.{grew, stopped}
use Rattle.sheet_minutes.proofs.Ranges.{round_at, text_of_end, text_of_none, texts-more}
use Rattle.sheet_minutes.proofs.line.write_cells.Goals.{then-ends_round+in_ok-write_cell, else-ends_round}
use Rattle.sheet_minutes.proofs.line.write_cells.Goals as goal

pub returns-in_err-write_cell : goal.returns-in_err-write_cell
returns-in_err-write_cell g c =
    let v = c.args.values.now in
    let i = c.loop-i.i in
    let first = c.args.first in
    let h = cell g.row.P v c.args.width c.args.entry in
    let rows = c.items.ensures ∙ ap (λ (w : SheetList). w.rows) c.values.view_is in
    let ends = ap (λ (l : List Row). ends_round l i) (sym rows) ∙ sym c.ends_round.ensures ∙ c.if-ends_round.true in
    let here : first + (i - first) ≡ i = omega arith in
    let piece = ap (λ (k : ℕ). flat_map h (round_at v.rows k)) here ∙ text_of_end h v.rows i ends in
    stopped (λ n. flat_map h (rounds_in v.rows first n)) (λ n. flat_map h (round_at v.rows (first + n)))
    (texts-more h v.rows first) (i - first) (c.args.end - first) c.from_residual.result (omega arith)
    c.from_residual.ensures.0 c.loop-i.invariant
    (subst (λ (l : List ℕ). Stopped g.K.Sink.written g.K.Sink.faults c.loop-i.sink c.write_cell.new.sink l) (sym piece)
    c.in_err-write_cell.ensures)

pub loop-i-preserved : goal.loop-i-preserved
loop-i-preserved g c =
    let v = c.args.values.now in
    let i = c.loop-i.i in
    let first = c.args.first in
    let h = cell g.row.P v c.args.width c.args.entry in
    let rows = c.items.ensures ∙ ap (λ (w : SheetList). w.rows) c.values.view_is in
    let next : i - first + 1 ≡ i + 1 - first = omega arith in
    let here : first + (i - first) ≡ i = omega arith in
    elim c.if-ends_round.branch [
      | then-ends_round+in_ok-write_cell w ↦
          let ends = ap (λ (l : List Row). ends_round l i) (sym rows) ∙ sym c.ends_round.ensures ∙ w.if-ends_round.true in
          let piece = ap (λ (k : ℕ). flat_map h (round_at v.rows k)) here ∙ text_of_end h v.rows i ends in
          subst (λ s. Wrote g.K.Sink.written g.K.Sink.faults c.args.sink.now s (flat_map h (rounds_in v.rows first (i + 1 - first))))
          (sym w.sink-is)
          (subst (λ (k : ℕ). Wrote g.K.Sink.written g.K.Sink.faults c.args.sink.now w.write_cell.new.sink
          (flat_map h (rounds_in v.rows first k))) next
          (grew (λ n. flat_map h (rounds_in v.rows first n)) (λ n. flat_map h (round_at v.rows (first + n)))
          (texts-more h v.rows first) (i - first) c.loop-i.invariant
          (subst (λ (l : List ℕ). Wrote g.K.Sink.written g.K.Sink.faults c.loop-i.sink w.write_cell.new.sink l) (sym piece)
          w.in_ok-write_cell.ensures)))
      | else-ends_round w ↦
          let ends = ap (λ (l : List Row). ends_round l i) (sym rows) ∙ sym c.ends_round.ensures ∙ w.if-ends_round.false in
          let piece = ap (λ (k : ℕ). flat_map h (round_at v.rows k)) here ∙ text_of_none h v.rows i ends in
          let front = flat_map h (rounds_in v.rows first (i - first)) in
          let same : flat_map h (rounds_in v.rows first (i + 1 - first)) ≡ front =
          ap (λ (k : ℕ). flat_map h (rounds_in v.rows first k)) (sym next) ∙ texts-more h v.rows first (i - first)
          ∙ ap (λ (l : List ℕ). front ++ l) piece ∙ append-nil front in
          subst (λ s. Wrote g.K.Sink.written g.K.Sink.faults c.args.sink.now s (flat_map h (rounds_in v.rows first (i + 1 - first))))
          (sym w.sink-is)
          (subst (λ (l : List ℕ). Wrote g.K.Sink.written g.K.Sink.faults c.args.sink.now c.loop-i.sink l) (sym same)
          c.loop-i.invariant)
    ]
