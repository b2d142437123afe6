use Rattle.std.proofs.Common.{subst, sym, ℕ, ◌-◌, List, [], ◌∷◌, append_assoc}
use Rattle.std.specs.List.{flat_map}
use Rattle.piece_text.specs.Writing.{Writes}
use Rattle.piece_text.proofs.Written.{later, stops}
use Rattle.sheet_minutes.specs.Rounds.{rounds_in}
use Rattle.sheet_minutes.specs.Table.{cell, label}
use Rattle.sheet_minutes.proofs.line.write_line.Goals as goal

pub returns-in_err-write_label : goal.returns-in_err-write_label
returns-in_err-write_label g c =
    let v = c.args.values.now in
    let cells = flat_map (cell g.row.P v c.args.width c.args.entry) (rounds_in v.rows c.args.first (c.args.end - c.args.first)) in
    subst (λ (l : List ℕ). Writes g.K.Sink.written g.K.Sink.faults c.args.sink.now c.write_label.new.sink l
    c.from_residual.result) (sym (append_assoc (label v c.args.entry) cells (10 ∷ [])))
    (stops _ _ c.from_residual.ensures.0 c.in_err-write_label.ensures)

pub returns-in_err-write_cells : goal.returns-in_err-write_cells
returns-in_err-write_cells g c =
    let v = c.args.values.now in
    let cells = flat_map (cell g.row.P v c.args.width c.args.entry) (rounds_in v.rows c.args.first (c.args.end - c.args.first)) in
    subst (λ (l : List ℕ). Writes g.K.Sink.written g.K.Sink.faults c.args.sink.now c.write_cells.new.sink l
    c.from_residual-in_err-write_cells.result) (sym (append_assoc (label v c.args.entry) cells (10 ∷ [])))
    (later _ _ _ c.in_ok-write_label.ensures
    (stops _ _ c.from_residual-in_err-write_cells.ensures.0 c.in_err-write_cells.ensures))

pub returns : goal.returns
returns g c =
    let v = c.args.values.now in
    let cells = flat_map (cell g.row.P v c.args.width c.args.entry) (rounds_in v.rows c.args.first (c.args.end - c.args.first)) in
    subst (λ (l : List ℕ). Writes g.K.Sink.written g.K.Sink.faults c.args.sink.now c.write_bytes.new.sink l
    c.write_bytes.result) (sym (append_assoc (label v c.args.entry) cells (10 ∷ [])))
    (later _ _ _ c.in_ok-write_label.ensures (later _ _ _ c.in_ok-write_cells.ensures c.write_bytes.ensures))
