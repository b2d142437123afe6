use Rattle.std.proofs.Common.{◌≡◌, ◌∙◌, ◌+◌, ℕ, List, [], ◌∷◌, refl, sym, ap}
use Rattle.std.specs.Prelude.{decimal, slice_index}
use Rattle.std.proofs.lemmas.Option.{get_or_from_slice_get}
use Rattle.candidate_roll.specs.State.{state_at}
use Rattle.fixed_place.specs.Text.{text_of}
use Rattle.lot_order.specs.Flags.{mark_at}
use Rattle.meek_rule.specs.Row.{Row}
use Rattle.csv_text.specs.Csv.{record_text}
use Rattle.sheet_reader.specs.Values.{SheetList}
use Rattle.sheet_text.specs.Lines.{state_word}
use Rattle.sheet_page.specs.Csv.{csv_record, yes_or_no}
use Rattle.sheet_page.specs.Values.{name_at, step_word, defeats}
use Rattle.sheet_page.proofs.Pens.{renamed}
use Rattle.sheet_page.proofs.csv.write_line.Goals as goal

-- the record, field by field
record_is :
    (places : ℕ) (v : SheetList) (row : Row) (p : ℕ) (name outcome state elected capped tied defeated step : List ℕ) (keep vote : ℕ)
    → name ≡ name_at v p → outcome ≡ state_word (state_at v.last p) → state ≡ state_word (state_at row.states p)
    → keep ≡ slice_index row.keeps p → vote ≡ slice_index row.votes p
    → elected ≡ yes_or_no (mark_at row.elected p) → capped ≡ yes_or_no (mark_at row.capped p)
    → tied ≡ yes_or_no (mark_at row.tied p)
    → defeated ≡ yes_or_no (defeats row.step (p + 1)) → step ≡ step_word row.step
    → decimal row.round ∷ decimal row.iteration ∷ decimal (p + 1) ∷ name ∷ outcome ∷ state ∷ text_of places keep
    ∷ text_of places vote ∷ elected ∷ capped ∷ tied ∷ defeated
    ∷ text_of places row.total ∷ text_of places row.quota ∷ text_of places row.surplus ∷ step ∷ [] ≡ csv_record places v row p
record_is places v row p name outcome state elected capped tied defeated step keep vote is_name is_outcome is_state
    is_keep is_vote is_elected is_capped is_tied is_defeated is_step =
    rw (is_name, is_outcome, is_state, is_keep, is_vote, is_elected, is_capped, is_tied, is_defeated, is_step) refl

pub returns : goal.returns
returns g c =
    let u = c.values.inside in
    let v : SheetList =
    record {
      title = u.title;
      seats = u.seats;
      ballots = u.ballots;
      names = u.names;
      rows = u.rows;
      last = u.last;
    } in
    let r = c.row.inside in
    let row : Row =
    record {
      round = r.round;
      iteration = r.iteration;
      states = r.states;
      keeps = r.keeps;
      votes = r.votes;
      total = r.total;
      quota = r.quota;
      surplus = r.surplus;
      elected = r.elected;
      capped = r.capped;
      tied = r.tied;
      step = r.step;
    } in
    let p = c.args.p in
    let same = record_is g.row.P v row p _ _ _ _ _ _ _ _ _ _
    (c.bytes-name.ensures.value ∙ sym (get_or_from_slice_get v.names p c.get.result.now [] c.get.ensures))
    (c.state_word-outcome.ensures ∙ ap state_word c.get-2.ensures.state)
    (c.state_word-state.ensures ∙ ap state_word c.get-3.ensures.state)
    (c.kept_of_one-keep.ensures ∙ c.get-4.ensures)
    c.get-8.ensures
    (c.yes_or_no-elected.ensures ∙ ap yes_or_no c.get-5.ensures.mark)
    (c.yes_or_no-capped.ensures ∙ ap yes_or_no c.get-6.ensures.mark)
    (c.yes_or_no-tied.ensures ∙ ap yes_or_no c.get-7.ensures.mark)
    (c.yes_or_no-defeated.ensures ∙ ap yes_or_no c.defeats.ensures)
    c.step_word.ensures in
    renamed (ap record_text (same ∙ ap (λ (w : SheetList). csv_record g.row.P w row p) c.values.view_is
    ∙ ap (λ (r : Row). csv_record g.row.P c.args.values.now r p) c.row.view_is)) c.record.ensures
