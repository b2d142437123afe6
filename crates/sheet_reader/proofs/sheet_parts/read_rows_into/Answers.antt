use Rattle.std.proofs.Common.{ℕ, sym, subst, ◌∙◌}
use Rattle.meek_rule.specs.Row.{HasRoomFor}
use Rattle.sheet_reader.specs.Form.{IsPrintableRow}
use Rattle.sheet_reader.proofs.ReadRows.{no_rows, no_row_of, one_more}
use Rattle.sheet_reader.proofs.sheet_parts.read_rows_into.Goals as goal

pub returns-then-not-read_row : goal.returns-then-not-read_row
returns-then-not-read_row g c =
    let before = c.loop-alloc.invariant in
    no_rows before.so_far c.loop-alloc-test.ensures.1
    (no_row_of before.room.states c.loop-alloc-test.ensures.0 c.if-not-read_row.ensures)

pub loop-alloc-preserved : goal.loop-alloc-preserved
loop-alloc-preserved g c =
    let before = c.loop-alloc.invariant in
    let read = c.if-not-read_row.ensures in
    record {
      room =
          subst (λ (k : ℕ). HasRoomFor k c.take.new.row) (read.0.of_all.states ∙ before.room.states)
          c.in-Ok.ensures.room;
      so_far =
          one_more before.so_far (subst (λ (k : ℕ). IsPrintableRow g.row.P k c.read_row.new.row) before.room.states read.0)
          (sym c.loop-alloc-test.ensures.0 ∙ read.1) c.in-Ok.ensures.taken;
    }
