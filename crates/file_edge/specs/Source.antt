-- How often reading the given source failed.
use Rattle.std.specs.Prelude.{ℕ}
use Rattle.byte_edge.specs.StdStreams.{read_faults}
use Rattle.file_edge.specs.declared.source.GivenSource.{GivenSource}
use Rattle.file_edge.specs.declared.source.GivenSource.TheVariants.{Standard, File}

abbrev pub given_faults : {I F : Type 0} → GivenSource I F → ℕ
given_faults (Standard source) = read_faults source
given_faults (File source) = read_faults source
