use Rattle.std.proofs.Common.{◌≡◌, ℕ, List, [], ◌∷◌, ◌++◌, subst, rules}
use Rattle.std.specs.Prelude.{decimal}
use Rattle.piece_text.specs.Writing.{Writes}
use Rattle.piece_text.proofs.Written.{later}
use Rattle.blt_writer.proofs.numbers.write_number.Goals as goal

pub returns : goal.returns
returns g c =
    let is : c.as_bytes.result.now ≡ decimal c.args.n = search rules in
    subst (λ (text : List ℕ). Writes g.K.Sink.written g.K.Sink.faults c.args.sink.now c.write_bytes-2.new.sink
    (text ++ c.args.behind ∷ []) c.write_bytes-2.result)
    is (later _ _ _ c.in_ok-write_bytes.ensures c.write_bytes-2.ensures)
