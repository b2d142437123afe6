-- What a pen wrote, up to the first failure.
use Rattle.std.specs.Prelude.{◌≡◌, ℕ, List, IsOk, IsErr}
use Rattle.byte_edge.specs.declared.sink.Sink.{Ghosts}
use Rattle.piece_text.specs.Writing.{Writes}
use Rattle.sheet_page.specs.declared.pen.Pen.{Pen}

-- Where all was well before, the bytes were written, or a front of them and it failed. After a failure nothing is done. A pen keeps its sink;
-- `kind` says what the sink tells: the bytes that it took, and how many faults there were.
pub record Prints {places : ℕ} {S : Type 0} (kind : Ghosts S) (old new : Pen places S) (bytes : List ℕ) : Type 0 where
  pub same_sink : new.sink.ghost_name ≡ old.sink.ghost_name
  pub well : IsOk old.done → Writes kind.written kind.faults old.sink.now new.sink.now bytes new.done
  pub failed : IsErr old.done → new ≡ old
