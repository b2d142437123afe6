use Rattle.std.proofs.Common.{◌∙◌, ap, subst, ℕ, ◌∷◌}
use Rattle.std.specs.Prelude.{slice_index}
use Rattle.candidate_roll.specs.declared.state.State.{State}
use Rattle.fixed_place.specs.Text.{text_of}
use Rattle.meek_rule.specs.Row.{Row}
use Rattle.piece_text.specs.Writing.{Writes}
use Rattle.piece_text.proofs.Written.{later, stops}
use Rattle.sheet_minutes.specs.Columns.{at_right}
use Rattle.sheet_minutes.specs.Table.{mark}
use Rattle.sheet_minutes.proofs.cell.write_standing.Goals as goal

pub returns-in_err-write_mark : goal.returns-in_err-write_mark
returns-in_err-write_mark g c =
    let vote = at_right c.args.width (text_of g.row.P (slice_index c.args.row.now.votes c.args.p)) in
    subst (λ (s : State). Writes g.K.Sink.written g.K.Sink.faults c.args.sink.now c.write_mark.new.sink
    (32 ∷ mark s ∷ 32 ∷ vote) c.from_residual.result) c.get.ensures.state
    (stops vote c.from_residual.result c.from_residual.ensures.0 c.in_err-write_mark.ensures)

pub returns : goal.returns
returns g c =
    let p = c.args.p in
    let state = c.get.result.now in
    let votes = c.get-vote.ensures ∙ ap (λ (r : Row). slice_index r.votes p) c.row.view_is in
    let written = later c.write_right_votes.new.sink (at_right c.args.width (text_of g.row.P c.get-vote.result.now)) c.write_right_votes.result
    c.in_ok-write_mark.ensures c.write_right_votes.ensures in
    subst (λ (s : State). Writes g.K.Sink.written g.K.Sink.faults c.args.sink.now c.write_right_votes.new.sink
    (32 ∷ mark s ∷ 32 ∷ at_right c.args.width (text_of g.row.P (slice_index c.args.row.now.votes p))) c.write_right_votes.result)
    c.get.ensures.state
    (subst (λ (a : ℕ). Writes g.K.Sink.written g.K.Sink.faults c.args.sink.now c.write_right_votes.new.sink
    (32 ∷ mark state ∷ 32 ∷ at_right c.args.width (text_of g.row.P a)) c.write_right_votes.result) votes written)
