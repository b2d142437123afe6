use Rattle.std.proofs.Common.{◌≡◌, ◌<◌, ◌≤◌, length, ◌+◌, ◌++◌, ◌∷◌, [], List, All, sym, subst, arith}
use Rattle.std.proofs.lemmas.List.Elements.{All-push}
use Rattle.table_text.specs.declared.cell.Cell.{Cell}
use Rattle.table_text.specs.Reader.{IsBegun, IsCellOf}
use Rattle.table_text.proofs.CellFields.{begun_more}
use Rattle.table_text.proofs.record.record_end.Goals as goal

pub loop-at-preserved : goal.loop-at-preserved
loop-at-preserved c =
    let l = c.loop-at in
    let bytes = c.args.bytes.now in
    let cell = c.in-Ok.cell in
    let found = c.in-Ok.ensures.field in
    let pushed : c.push.new.self ≡ c.short_cells.new.cells ++ cell ∷ [] = c.in_ok-push.ensures.ok in
    let after : cell.at ≤ cell.stop = found.stands.ordered in
    let begins : cell.at ≡ c.in_ok-at.at = found.begins in
    let on : l.at ≤ c.in_ok-at.at = c.in_ok-at.ensures.after in
    let within : cell.stop ≤ length bytes = found.stands.inside in
    let inside : cell.stop < length bytes = omega arith in
    record {
      after = omega arith;
      inside = omega arith;
      fronts = c.in_ok-at.ensures.fronts;
      cells =
          subst (λ (cells : List Cell). All (IsCellOf bytes) cells) (sym pushed)
          (All-push (IsCellOf bytes) c.short_cells.new.cells _ c.in_ok-at.ensures.cells found.stands);
      begun =
          subst
          (λ (cells : List Cell). IsBegun c.args.separator bytes c.args.row c.args.start cells (cell.stop + 1))
          (sym pushed)
          (begun_more c.args.separator bytes c.args.row c.args.start c.short_cells.new.cells cell c.in_ok-at.at found
          (c.in_ok-at.ensures.on c.args.row c.args.start l.invariant.begun) inside c.if-bytes-cell.false);
    }
