use Rattle.std.proofs.Common.{subst, ℕ, List}
use Rattle.std.specs.List.{flat_map}
use Rattle.std.specs.Borrow.{Bor}
use Rattle.std.proofs.lemmas.List.{take_all}
use Rattle.csv_text.specs.Csv.{behind_comma}
use Rattle.piece_text.specs.Writing.{Wrote}
use Rattle.piece_text.proofs.Written.{wrote_nothing, wrote_more, stopped_at}
use Rattle.csv_text.proofs.record.write_others.Goals as goal

pub loop-field-init : goal.loop-field-init
loop-field-init g c = wrote_nothing _ _ _

pub loop-field-preserved : goal.loop-field-preserved
loop-field-preserved g c =
    wrote_more (λ f. behind_comma f.now) c.args.fields.now c.loop-field.field-index _ c.loop-field-test.true
    c.loop-field.invariant c.in_ok-write_other.ensures

pub returns-in_err-write_other : goal.returns-in_err-write_other
returns-in_err-write_other g c =
    stopped_at (λ f. behind_comma f.now) c.args.fields.now c.loop-field.field-index _ c.from_residual.result
    c.from_residual.ensures.0 c.loop-field-test.true c.loop-field.invariant c.in_err-write_other.ensures

pub returns : goal.returns
returns g c =
    subst (λ (front : List (Bor (List ℕ))). Wrote g.K.Sink.written g.K.Sink.faults c.args.sink.now
    c.loop-field.sink (flat_map (λ f. behind_comma f.now) front))
    (take_all c.loop-field.field-index c.args.fields.now c.loop-field-test.false) c.loop-field.invariant
