use Rattle.std.proofs.Common.{◌≡◌, ◌∙◌, ap, sym, subst, ℕ, List}
use Rattle.std.specs.Prelude.{Some, slice_get}
use Rattle.std.proofs.lemmas.Option.{get_or_from_slice_get}
use Rattle.candidate_roll.specs.declared.state.State.{State}
use Rattle.meek_rule.specs.Row.{Row, blank}
use Rattle.page_tree.specs.Print.{printed}
use Rattle.sheet_reader.specs.Values.{SheetList}
use Rattle.sheet_minutes.specs.declared.entry.Entry.{Entry}
use Rattle.sheet_minutes.specs.Rounds.{left_over, row_at}
use Rattle.sheet_page.specs.declared.part_names.PartNames.{PartNames}
use Rattle.sheet_page.specs.RoundEnds.{settled}
use Rattle.sheet_page.specs.RoundTable.{amount_cell, round_cell, vote_cell}
use Rattle.sheet_page.proofs.Pens.{renamed}
use Rattle.sheet_page.proofs.table.write_round_cell.Goals as goal

-- a cell by the name of its line
of_entry : (names : PartNames) (places : ℕ) (v : SheetList) (i : ℕ) {entry other : Entry} → entry ≡ other
    → printed (round_cell names places v other i) ≡ printed (round_cell names places v entry i)
of_entry names places v i is = ap (λ (e : Entry). printed (round_cell names places v e i)) (sym is)

-- the iteration at a place that was got
row_got : (rows : List Row) (i : ℕ) (got : Row) → slice_get rows i ≡ Some got → got ≡ row_at rows i
row_got rows i got is = sym (get_or_from_slice_get rows i got (blank 0) is)

pub returns-in-Round : goal.returns-in-Round
returns-in-Round g c =
    renamed (of_entry c.args.names g.row.P c.args.values.now c.args.i c.in-Round.is)
    c.write_round_head.ensures

pub returns-in-Quota : goal.returns-in-Quota
returns-in-Quota g c =
    let v = c.args.values.now in
    let i = c.args.i in
    let at =
    subst (λ (w : SheetList). slice_get w.rows i ≡ Some c.get-row.result.now) c.values.view_is
    c.get-row.ensures in
    renamed (ap (λ (r : Row). printed (amount_cell g.row.P r.quota))
    (c.row.view_is ∙ row_got v.rows i c.get-row.result.now at)
    ∙ of_entry c.args.names g.row.P v i c.in-Quota.is) c.write_amount.ensures

pub returns-in-LeftOver : goal.returns-in-LeftOver
returns-in-LeftOver g c =
    let v = c.args.values.now in
    let i = c.args.i in
    let at =
    subst (λ (w : SheetList). slice_get w.rows i ≡ Some c.get-row.result.now) c.values.view_is
    c.get-row.ensures in
    renamed (ap (λ (r : Row). printed (amount_cell g.row.P (left_over g.row.P v.ballots r)))
    (row_got v.rows i c.get-row.result.now at)
    ∙ of_entry c.args.names g.row.P v i c.in-LeftOver.is) c.write_left.ensures

pub returns-in-Candidate : goal.returns-in-Candidate
returns-in-Candidate g c =
    let v = c.args.values.now in
    let i = c.args.i in
    let p = c.in-Candidate.p in
    let at =
    subst (λ (w : SheetList). slice_get w.rows i ≡ Some c.get-row.result.now) c.values.view_is
    c.get-row.ensures in
    renamed (ap (λ (r : Row). printed (vote_cell g.row.P (settled r c.states_behind.result.now) p))
    (row_got v.rows i c.get-row.result.now at)
    ∙ ap (λ (s : List State). printed (vote_cell g.row.P (settled (row_at v.rows i) s) p))
    c.states_behind.ensures.states
    ∙ of_entry c.args.names g.row.P v i c.in-Candidate.is) c.write_vote.ensures
