use Rattle.std.proofs.Common.{◌∙◌, ap, sym, ◌+◌, List, ◌∷◌, decimal}
use Rattle.std.specs.Prelude.{slice_index}
use Rattle.candidate_roll.specs.State.{state_at}
use Rattle.candidate_roll.specs.declared.state.State.{State}
use Rattle.fixed_place.specs.Text.{text_of}
use Rattle.meek_rule.specs.Row.{Row}
use Rattle.sheet_reader.specs.Values.{SheetList}
use Rattle.sheet_minutes.specs.declared.columns.TheConstants.{MARK_COLUMNS}
use Rattle.sheet_minutes.specs.declared.entry.Entry.{Entry}
use Rattle.sheet_minutes.specs.Columns.{at_right}
use Rattle.sheet_minutes.specs.Rounds.{left_over, row_at}
use Rattle.sheet_minutes.specs.Table.{cell, mark}
use Rattle.sheet_minutes.proofs.Growing.{renamed}
use Rattle.sheet_minutes.proofs.Rows.{row_is}
use Rattle.sheet_minutes.proofs.cell.write_cell.Goals as goal

pub returns-in-Round : goal.returns-in-Round
returns-in-Round g c =
    let v = c.args.values.now in
    let width = c.args.width in
    let row = row_is v _ c.args.i c.get-row.result.now c.values.view_is c.get-row.ensures in
    renamed _ _ _ _ _ _ _ (ap (λ (r : Row). at_right (width + MARK_COLUMNS) (decimal r.round)) row
    ∙ ap (λ (e : Entry). cell g.row.P v width e c.args.i) (sym c.in-Round.is)) c.write_number.ensures

pub returns-in-Quota : goal.returns-in-Quota
returns-in-Quota g c =
    let v = c.args.values.now in
    let width = c.args.width in
    let row = row_is v _ c.args.i c.get-row.result.now c.values.view_is c.get-row.ensures in
    renamed _ _ _ _ _ _ _ (ap (λ (r : Row). at_right (width + MARK_COLUMNS) (text_of g.row.P r.quota)) row
    ∙ ap (λ (e : Entry). cell g.row.P v width e c.args.i) (sym c.in-Quota.is)) c.write_quota.ensures

pub returns-in-LeftOver : goal.returns-in-LeftOver
returns-in-LeftOver g c =
    let v = c.args.values.now in
    let width = c.args.width in
    let got = c.get-row.result.now in
    let row = row_is v _ c.args.i got c.values.view_is c.get-row.ensures in
    renamed _ _ _ _ _ _ _
    (ap (λ (w : SheetList). at_right (width + MARK_COLUMNS) (text_of g.row.P (left_over g.row.P w.ballots got))) c.values.view_is
    ∙ ap (λ (r : Row). at_right (width + MARK_COLUMNS) (text_of g.row.P (left_over g.row.P v.ballots r))) row
    ∙ ap (λ (e : Entry). cell g.row.P v width e c.args.i) (sym c.in-LeftOver.is)) c.write_left_over.ensures

pub returns-in-Candidate : goal.returns-in-Candidate
returns-in-Candidate g c =
    let v = c.args.values.now in
    let width = c.args.width in
    let p = c.in-Candidate.p in
    let row = row_is v _ c.args.i c.get-row.result.now c.values.view_is c.get-row.ensures in
    let behind = c.states_behind.result.now in
    renamed _ _ _ _ _ _ _
    (ap (λ (r : Row). 32 ∷ mark (state_at behind p) ∷ 32 ∷ at_right width (text_of g.row.P (slice_index r.votes p))) row
    ∙ ap (λ (s : List State). 32 ∷ mark (state_at s p) ∷ 32 ∷ at_right width (text_of g.row.P (slice_index (row_at v.rows c.args.i).votes p)))
    c.states_behind.ensures.states
    ∙ ap (λ (e : Entry). cell g.row.P v width e c.args.i) (sym c.in-Candidate.is)) c.write_standing.ensures
