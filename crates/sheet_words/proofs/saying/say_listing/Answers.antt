use Rattle.std.proofs.Common.{◌∙◌, ap, subst, arith, ℕ, List, length}
use Rattle.std.specs.List.{flat_map}
use Rattle.std.proofs.lemmas.List.{take_all}
use Rattle.std.proofs.lemmas.List.FromFn.{length-range_with_len}
use Rattle.meek_rule.specs.Row.{Row}
use Rattle.piece_text.specs.Writing.{Wrote, Writes}
use Rattle.piece_text.proofs.Written.{wrote_nothing}
use Rattle.sheet_words.specs.Groups.{all_places}
use Rattle.sheet_words.specs.Manner.{said}
use Rattle.sheet_words.specs.Phrases.{member}
use Rattle.sheet_words.proofs.Written.{said-flat_map, place_wrote, place_stopped}
use Rattle.sheet_words.proofs.saying.say_listing.Goals as goal

pub loop-p-init : goal.loop-p-init
loop-p-init g c = wrote_nothing _ _ _

pub loop-p-preserved : goal.loop-p-preserved
loop-p-preserved g c =
    let size = ap (λ (row : Row). length row.states) c.row.view_is in
    place_wrote (λ p. said g.V.Voice.manner (member g.row.P c.args.values.now c.args.row.now c.args.group p))
    (length c.args.row.now.states) c.loop-p.p (omega (arith, size)) c.loop-p.invariant c.in_ok-say_member.ensures

pub returns-in_err-say_member : goal.returns-in_err-say_member
returns-in_err-say_member g c =
    let size = ap (λ (row : Row). length row.states) c.row.view_is in
    let m = member g.row.P c.args.values.now c.args.row.now c.args.group in
    let all = all_places (length c.args.row.now.states) in
    subst (λ (l : List ℕ). Writes g.K.Sink.written g.K.Sink.faults c.args.sink.now c.say_member.new.sink l
    c.from_residual.result)
    (said-flat_map g.V.Voice.manner m all)
    (place_stopped (λ p. said g.V.Voice.manner (m p)) (length c.args.row.now.states) c.loop-p.p
    c.from_residual.result c.from_residual.ensures.0 (omega (arith, size)) c.loop-p.invariant c.in_err-say_member.ensures)

pub returns : goal.returns
returns g c =
    let size = ap (λ (row : Row). length row.states) c.row.view_is in
    let m = member g.row.P c.args.values.now c.args.row.now c.args.group in
    let all = all_places (length c.args.row.now.states) in
    let past = take_all c.loop-p.p all (omega (arith, size, length-range_with_len 0 (length c.args.row.now.states))) in
    subst (λ (l : List ℕ). Wrote g.K.Sink.written g.K.Sink.faults c.args.sink.now c.loop-p.sink l)
    (ap (flat_map (λ p. said g.V.Voice.manner (m p))) past ∙ said-flat_map g.V.Voice.manner m all)
    c.loop-p.invariant
