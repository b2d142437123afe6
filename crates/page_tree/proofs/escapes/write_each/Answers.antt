use Rattle.std.proofs.Common.{subst, ℕ, List}
use Rattle.std.specs.List.{flat_map}
use Rattle.std.proofs.lemmas.List.{take_all}
use Rattle.page_tree.specs.Escaping.{escaped}
use Rattle.piece_text.specs.Writing.{Wrote}
use Rattle.piece_text.proofs.Written.{wrote_nothing, wrote_more, stopped_at}
use Rattle.page_tree.proofs.escapes.write_each.Goals as goal

pub loop-byte-init : goal.loop-byte-init
loop-byte-init g c = wrote_nothing _ _ _

pub loop-byte-preserved : goal.loop-byte-preserved
loop-byte-preserved g c =
    wrote_more g.E.Escapes.escape c.args.bytes.now c.loop-byte.byte-index 0 c.loop-byte-test.true c.loop-byte.invariant
    c.in_ok-write_byte.ensures

pub returns-in_err-write_byte : goal.returns-in_err-write_byte
unfolding escaped
returns-in_err-write_byte g c =
    stopped_at g.E.Escapes.escape c.args.bytes.now c.loop-byte.byte-index 0 _ c.from_residual.ensures.0
    c.loop-byte-test.true c.loop-byte.invariant c.in_err-write_byte.ensures

pub returns : goal.returns
unfolding escaped
returns g c =
    subst (λ (front : List ℕ). Wrote g.K.Sink.written g.K.Sink.faults c.args.sink.now c.loop-byte.sink
    (flat_map g.E.Escapes.escape front))
    (take_all c.loop-byte.byte-index c.args.bytes.now c.loop-byte-test.false) c.loop-byte.invariant
