-- The reader of a source and the writer of a sink that are std's, and how often each failed.
use Rattle.std.specs.Prelude.{ℕ}
use Rattle.byte_edge.specs.declared.std_source.StdSource.{StdSource}
use Rattle.byte_edge.specs.declared.std_sink.StdSink.{StdSink}

abbrev pub reader_of : {R : Type 0} → StdSource R → R
reader_of source = source.reader

abbrev pub read_faults : {R : Type 0} → StdSource R → ℕ
read_faults source = source.faults

abbrev pub writer_of : {W : Type 0} → StdSink W → W
writer_of sink = sink.writer

abbrev pub write_faults : {W : Type 0} → StdSink W → ℕ
write_faults sink = sink.faults
