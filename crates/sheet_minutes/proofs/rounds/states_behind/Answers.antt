use Rattle.std.proofs.Common.{◌≡◌, ◌∙◌, ap, sym, arith, ◌+◌, ◌<◌, Bool, false, length}
use Rattle.std.specs.Prelude.{if◌then◌else◌, nat_eq}
use Rattle.std.proofs.lemmas.Bool.{ne_eqb}
use Rattle.std.proofs.lemmas.List.Elements.{All-get_or}
use Rattle.meek_rule.specs.Row.{Row, blank}
use Rattle.sheet_reader.specs.Form.{IsPrintableRow}
use Rattle.sheet_reader.specs.Values.{SheetList}
use Rattle.sheet_minutes.specs.Rounds.{row_at}
use Rattle.sheet_minutes.proofs.Rows.{row_is}
use Rattle.sheet_minutes.proofs.rounds.states_behind.Goals as goal

pub returns-clause-states : goal.returns-clause-states
returns-clause-states g c =
    let v = c.args.values.now in
    let next = c.args.i + 1 in
    let count = c.len-count.ensures ∙ ap (λ (w : SheetList). length w.rows) c.values.view_is in
    let others : nat_eq next (length v.rows) ≡ false = ne_eqb next (length v.rows) (λ same. c.if-count-i.false (count ∙ sym same)) in
    ap (λ (r : Row). r.states) (c.next.view_is ∙ row_is v _ next _ c.values.view_is c.get-next.ensures)
    ∙ ap (λ (b : Bool). if b then v.last else (row_at v.rows next).states) (sym others)

pub returns-clause-all : goal.returns-clause-all
returns-clause-all g c =
    let v = c.args.values.now in
    let next = c.args.i + 1 in
    let count = c.len-count.ensures ∙ ap (λ (w : SheetList). length w.rows) c.values.view_is in
    let inside : next < length v.rows = omega (arith, c.requires.place, c.if-count-i.false, count) in
    ap (λ (r : Row). length r.states) (c.next.view_is ∙ row_is v _ next _ c.values.view_is c.get-next.ensures)
    ∙ (All-get_or (IsPrintableRow g.row.P (length v.names)) v.rows next (blank 0) inside c.requires.printable.rows).of_all.states
