use Rattle.std.proofs.Common.{subst, ℕ, List}
use Rattle.std.specs.List.{flat_map}
use Rattle.std.proofs.lemmas.List.{take_all}
use Rattle.piece_text.specs.Writing.{Wrote}
use Rattle.piece_text.proofs.Written.{wrote_nothing, wrote_more, stopped_at}
use Rattle.blt_writer.specs.Text.{number_then}
use Rattle.blt_writer.proofs.numbers.write_candidates.Goals as goal

pub loop-candidate-init : goal.loop-candidate-init
loop-candidate-init g c = wrote_nothing _ _ _

pub loop-candidate-preserved : goal.loop-candidate-preserved
loop-candidate-preserved g c =
    wrote_more (number_then 32) c.args.ranking.now c.loop-candidate.candidate-index 0
    c.loop-candidate-test.true c.loop-candidate.invariant c.in_ok-write_number.ensures

pub returns-in_err-write_number : goal.returns-in_err-write_number
returns-in_err-write_number g c =
    stopped_at (number_then 32) c.args.ranking.now c.loop-candidate.candidate-index 0 _
    c.from_residual.ensures.0 c.loop-candidate-test.true c.loop-candidate.invariant
    c.in_err-write_number.ensures

pub returns : goal.returns
returns g c =
    subst (λ (front : List ℕ). Wrote g.K.Sink.written g.K.Sink.faults c.args.sink.now c.loop-candidate.sink
    (flat_map (number_then 32) front))
    (take_all c.loop-candidate.candidate-index c.args.ranking.now c.loop-candidate-test.false) c.loop-candidate.invariant
