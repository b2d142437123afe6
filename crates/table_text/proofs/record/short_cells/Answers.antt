use Rattle.std.proofs.Common.{◌≡◌, ◌<◌, ◌≤◌, length, ◌+◌, ◌++◌, ◌∷◌, [], List, All, sym, subst, arith}
use Rattle.std.proofs.lemmas.List.Elements.{All-push}
use Rattle.table_text.specs.declared.cell.Cell.{Cell}
use Rattle.table_text.specs.Reader.{GoesOn, IsCellOf}
use Rattle.table_text.proofs.CellFields.{begun_more}
use Rattle.table_text.proofs.record.short_cells.Goals as goal

pub loop-fronts-preserved : goal.loop-fronts-preserved
loop-fronts-preserved c =
    let l = c.loop-fronts in
    let bytes = c.args.bytes.now in
    let cell = c.in-Some.cell in
    let found = c.in-Some.ensures.field in
    let pushed : c.push.new.self ≡ l.cells ++ cell ∷ [] = c.in_ok-push.ensures.ok in
    let after : cell.at ≤ cell.stop = found.stands.ordered in
    let begins : cell.at ≡ l.at = found.begins in
    let inside : cell.stop < length bytes = c.in-Some.ensures.inside in
    record {
      after = omega arith;
      inside = omega arith;
      fronts = c.reach.ensures.fronts;
      cells =
          subst (λ (cells : List Cell). All (IsCellOf bytes) cells) (sym pushed)
          (All-push (IsCellOf bytes) l.cells _ l.invariant.cells found.stands);
      on =
          subst
          (λ (cells : List Cell). GoesOn c.args.separator bytes c.args.cells.now cells c.args.start (cell.stop + 1))
          (sym pushed)
          (λ row start begun.
          begun_more c.args.separator bytes row start l.cells cell l.at found (l.invariant.on row start begun) inside
          c.in-Some.ensures.parts);
    }
