use Rattle.std.proofs.Common.{arith, ◌≡◌, ap, sym, subst}
use Rattle.std.specs.Prelude.{Some, slice_get}
use Rattle.std.proofs.lemmas.Option.{get_or_from_slice_get}
use Rattle.meek_rule.specs.Row.{Row, blank}
use Rattle.page_tree.specs.Print.{printed}
use Rattle.sheet_reader.specs.Values.{SheetList}
use Rattle.sheet_page.specs.Iterations.{iteration}
use Rattle.sheet_page.proofs.Pens.{renamed}
use Rattle.sheet_page.proofs.RowsAt.{printable_at}
use Rattle.sheet_page.proofs.iterations.write_iteration_at.Goals as goal

pub returns : goal.returns
returns g c =
    let v = c.args.values.now in
    let i = c.args.i in
    let at = subst (λ (w : SheetList). slice_get w.rows i ≡ Some c.get.result.now) c.values.view_is c.get.ensures in
    let row = get_or_from_slice_get v.rows i c.get.result.now (blank 0) at in
    renamed (ap (λ (r : Row). printed (iteration g.row.P v r)) (sym row)) c.write_iteration.ensures

pub write_iteration-requires : goal.write_iteration-requires
write_iteration-requires g c =
    let v = c.args.values.now in
    let at = subst (λ (w : SheetList). slice_get w.rows c.args.i ≡ Some c.get.result.now) c.values.view_is c.get.ensures in
    let row = get_or_from_slice_get v.rows c.args.i c.get.result.now (blank 0) at in (
      omega arith,
      (
        omega arith,
        (
          omega arith,
          (
            c.requires.printable,
            (printable_at g.row.P v c.args.i _ c.requires.printable c.requires.place row).of_all,
          ),
        ),
      ),
    )
