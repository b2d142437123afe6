use Rattle.std.proofs.Common.{◌∙◌, ap, subst, arith, ℕ, List, length, map}
use Rattle.std.specs.List.{flat_map}
use Rattle.std.proofs.lemmas.List.{take_all}
use Rattle.std.proofs.lemmas.List.FromFn.{length-range_with_len}
use Rattle.piece_text.specs.Writing.{Wrote, Writes}
use Rattle.piece_text.proofs.Written.{wrote_nothing}
use Rattle.sheet_reader.specs.Values.{SheetList}
use Rattle.sheet_words.specs.Groups.{all_places}
use Rattle.sheet_words.specs.Lines.{at_end}
use Rattle.sheet_words.specs.Manner.{told}
use Rattle.sheet_words.specs.Sentences.{late_at}
use Rattle.sheet_words.proofs.Written.{mapped-nested, place_wrote, place_stopped}
use Rattle.sheet_words.proofs.end.write_all_late.Goals as goal

pub loop-p-init : goal.loop-p-init
loop-p-init g c = wrote_nothing _ _ _

pub loop-p-preserved : goal.loop-p-preserved
loop-p-preserved g c =
    let size = ap (λ (v : SheetList). length v.names) c.values.view_is in
    place_wrote (λ p. flat_map (told g.V.Voice.manner) (map at_end (late_at c.args.values.now p)))
    (length c.args.values.now.names) c.loop-p.p
    (omega (arith, size)) c.loop-p.invariant c.in_ok-write_late_at.ensures

pub returns-in_err-write_late_at : goal.returns-in_err-write_late_at
returns-in_err-write_late_at g c =
    let size = ap (λ (v : SheetList). length v.names) c.values.view_is in
    subst (λ (l : List ℕ). Writes g.K.Sink.written g.K.Sink.faults c.args.sink.now c.write_late_at.new.sink l
    c.from_residual.result)
    (mapped-nested (told g.V.Voice.manner) at_end (late_at c.args.values.now) (all_places (length c.args.values.now.names)))
    (place_stopped (λ p. flat_map (told g.V.Voice.manner) (map at_end (late_at c.args.values.now p)))
    (length c.args.values.now.names) c.loop-p.p
    c.from_residual.result c.from_residual.ensures.0 (omega (arith, size)) c.loop-p.invariant c.in_err-write_late_at.ensures)

pub returns : goal.returns
returns g c =
    let size = ap (λ (v : SheetList). length v.names) c.values.view_is in
    let n = length c.args.values.now.names in
    let past = take_all c.loop-p.p (all_places n) (omega (arith, size, length-range_with_len 0 n)) in
    subst (λ (l : List ℕ). Wrote g.K.Sink.written g.K.Sink.faults c.args.sink.now c.loop-p.sink l)
    (ap (flat_map (λ (p : ℕ). flat_map (told g.V.Voice.manner) (map at_end (late_at c.args.values.now p))))
    past
    ∙ mapped-nested (told g.V.Voice.manner) at_end (late_at c.args.values.now)
    (all_places (length c.args.values.now.names)))
    c.loop-p.invariant
