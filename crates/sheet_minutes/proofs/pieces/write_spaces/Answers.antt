use Rattle.std.proofs.Common.{[], ◌∷◌, replicate}
use Rattle.std.proofs.lemmas.Grind.{replicate_next}
use Rattle.piece_text.proofs.Written.{wrote_nothing}
use Rattle.sheet_minutes.proofs.Growing.{grew, stopped}
use Rattle.sheet_minutes.proofs.pieces.write_spaces.Goals as goal

pub loop-init : goal.loop-init
loop-init g c = wrote_nothing _ _ _

pub loop-preserved : goal.loop-preserved
loop-preserved g c =
    grew (λ n. replicate n 32) (λ n. 32 ∷ []) (λ n. replicate_next n 32) c.loop.counter c.loop.invariant c.in_ok-write_bytes.ensures

pub returns-in_err-write_bytes : goal.returns-in_err-write_bytes
returns-in_err-write_bytes g c =
    stopped (λ n. replicate n 32) (λ n. 32 ∷ []) (λ n. replicate_next n 32) c.loop.counter c.args.count
    c.from_residual.result c.loop-test.true c.from_residual.ensures.0 c.loop.invariant c.in_err-write_bytes.ensures
