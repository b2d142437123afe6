-- What a call did that hands bytes to a sink.
use Rattle.std.specs.Prelude.{◌≡◌, ℕ, List, Option, Result, Ok, Err}
use Rattle.std.specs.Io.KnownBytes.{Appends}
use Rattle.byte_edge.specs.Bytes.{AppendsFront}
use Rattle.byte_edge.specs.Faults.{Rose}

-- all the bytes were appended, and no fault was counted
pub record Wrote {S : Type 0} (written : S → Option (List ℕ)) (faults : S → ℕ) (old new : S) (bytes : List ℕ) : Type 0 where
  pub whole : Appends (written old) (written new) bytes
  pub calm : faults new ≡ faults old

-- some front of the bytes was appended, and a fault was counted
pub record Stopped {S : Type 0} (written : S → Option (List ℕ)) (faults : S → ℕ) (old new : S) (bytes : List ℕ) : Type 0 where
  pub part : AppendsFront (written old) (written new) bytes
  pub rose : Rose (faults old) (faults new)

-- Ok wrote all the bytes; a failure stopped within them.
abbrev pub Writes : {S T E : Type 0} → (S → Option (List ℕ)) → (S → ℕ) → S → S → List ℕ → Result T E → Type 0
Writes written faults old new bytes (Ok value) = Wrote written faults old new bytes
Writes written faults old new bytes (Err stop) = Stopped written faults old new bytes
