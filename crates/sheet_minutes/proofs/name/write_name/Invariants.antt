use Rattle.std.proofs.Common.{◌≡◌, drop, map}
use Rattle.std.specs.Prelude.{slice_index_or}
use Rattle.std.specs.List.{range_with_len}
use Rattle.std.specs.Str.{encode_utf8_all}
use Rattle.bstr.specs.Utf8.{lossy_chars}
use Rattle.piece_text.specs.Writing.{Wrote}
use Rattle.sheet_minutes.specs.Columns.{columns}
use Rattle.sheet_minutes.proofs.name.write_name.Given as goal

-- so many columns were written, and the other characters are still to come
abbrev pub invariant-loop : goal.invariant-loop
invariant-loop g l = record {
  done : Wrote g.K.Sink.written g.K.Sink.faults l.initial.sink l.sink
      (encode_utf8_all (map (λ k. slice_index_or (columns l.fn.name) k 32) (range_with_len 0 l.counter)));
  coming : l.rest ≡ drop l.counter (lossy_chars l.fn.name);
}
