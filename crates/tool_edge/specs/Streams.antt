-- What a run is seen to do with its source and its sink.
use Rattle.std.specs.Prelude.{◌≡◌, ℕ, List, Option, Some, None}
use Rattle.std.specs.Io.KnownBytes.{Keeps}

-- a source at the call and at the return: the bytes left, where it tells them, and its count of faults
pub record Reading : Type 0 where
  pub left : Option (List ℕ)
  pub left_then : Option (List ℕ)
  pub faults : ℕ
  pub faults_then : ℕ

-- a sink at the call and at the return: the bytes taken, where it tells them, and its count of faults
pub record Writing : Type 0 where
  pub written : Option (List ℕ)
  pub written_then : Option (List ℕ)
  pub faults : ℕ
  pub faults_then : ℕ

-- what is seen of a source, from the one moment to the other
abbrev pub reading : {S : Type 0} → (S → Option (List ℕ)) → (S → ℕ) → S → S → Reading
reading left faults old new = record { left = left old; left_then = left new; faults = faults old; faults_then = faults new }

-- what is seen of a sink, from the one moment to the other
abbrev pub writing : {K : Type 0} → (K → Option (List ℕ)) → (K → ℕ) → K → K → Writing
writing written faults old new =
    record { written = written old; written_then = written new; faults = faults old; faults_then = faults new }

-- the input that was left: just this one where the source tells it, and else any
abbrev pub MayBeLeft : (left : Option (List ℕ)) → (input : List ℕ) → Type 0
MayBeLeft None input = Unit {0}
MayBeLeft (Some bytes) input = input ≡ bytes

abbrev pub NoReadFailed : Reading → Type 0
NoReadFailed source = source.faults_then ≡ source.faults

abbrev pub NoWriteFailed : Writing → Type 0
NoWriteFailed sink = sink.faults_then ≡ sink.faults

abbrev pub NothingRead : Reading → Type 0
NothingRead source = NoReadFailed source × Keeps source.left source.left_then

abbrev pub NothingWritten : Writing → Type 0
NothingWritten sink = NoWriteFailed sink × Keeps sink.written sink.written_then

-- a run without a source
abbrev pub no_source : Reading
no_source = record { left = None; left_then = None; faults = 0; faults_then = 0 }
