use Rattle.std.proofs.Common.{arith, ◌<◌, length, ◌≡◌, ◌∙◌, ℕ, sym, ap, subst}
use Rattle.std.specs.Prelude.{Some, slice_get}
use Rattle.std.proofs.lemmas.Option.{get_or_from_slice_get}
use Rattle.meek_rule.specs.Row.{HasRoomFor, blank}
use Rattle.sheet_reader.specs.Values.{SheetList}
use Rattle.sheet_page.specs.Json.{iteration_at, iteration_json}
use Rattle.sheet_page.proofs.Pens.{nothing, place_more, renamed}
use Rattle.sheet_page.proofs.RowsAt.{printable_at}
use Rattle.sheet_page.proofs.json.write_iterations.Goals as goal

pub loop-i-init : goal.loop-i-init
loop-i-init g c = nothing _ _

pub loop-i-preserved : goal.loop-i-preserved
loop-i-preserved g c =
    let at = subst (λ (v : SheetList). slice_get v.rows c.loop-i.i ≡ Some c.get.result.now) c.values.view_is c.get.ensures in
    let row = get_or_from_slice_get c.args.values.now.rows c.loop-i.i c.get.result.now (blank 0) at in
    let seats : c.values.inside.seats ≡ c.args.values.now.seats = ap (λ (v : SheetList). v.seats) c.values.view_is in
    let whole = ap (λ (n : ℕ). iteration_json g.row.P n c.loop-i.i c.get.result.now) seats in
    place_more (iteration_at g.row.P c.args.values.now) c.loop-i.i c.loop-i.invariant
    (renamed (whole ∙ ap (iteration_json g.row.P c.args.values.now.seats c.loop-i.i) (sym row)) c.write_iteration.ensures)

pub write_iteration-requires : goal.write_iteration-requires
write_iteration-requires g c =
    let v = c.args.values.now in
    let i = c.loop-i.i in
    let rows : length c.values.inside.rows ≡ length v.rows = ap (λ (w : SheetList). length w.rows) c.values.view_is in
    let at = subst (λ (w : SheetList). slice_get w.rows i ≡ Some c.get.result.now) c.values.view_is c.get.ensures in
    let row = get_or_from_slice_get v.rows i c.get.result.now (blank 0) at in
    let below : i < length v.rows = omega (arith, c.loop-i-test.true, c.len-i-end.ensures, rows) in
    let room = (printable_at g.row.P v i _ c.requires below row).of_all in (
      omega arith,
      (
        omega arith,
        (
          subst (λ (n : ℕ). HasRoomFor n c.get.result.now) (sym room.states) room,
          omega (arith, room.states, c.requires.candidates.1),
        ),
      ),
    )
