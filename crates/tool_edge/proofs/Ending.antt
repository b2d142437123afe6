-- How a run ends, from what was owed and what the sink took.
use Rattle.std.proofs.Common.{ℕ, List, [], sym, ◌∙◌, subst, inl, inr}
use Rattle.std.specs.Prelude.{Option, Result, Ok, Err}
use Rattle.std.proofs.lemmas.List.{append-nil}
use Rattle.std.proofs.KnownBytes.{Appends-kept}
use Rattle.byte_edge.specs.Faults.{Rose}
use Rattle.tool_edge.specs.declared.end.End.{End}
use Rattle.tool_edge.specs.declared.end.End.TheVariants.{Done}
use Rattle.tool_edge.specs.Streams.{writing}
use Rattle.tool_edge.specs.Finishing.{Finishes, Wrote, Closes}

-- A text was written piece by piece, and the run was closed after it.
pub closed :
    {T E F K : Type 0} (written : K → Option (List ℕ)) (faults : K → ℕ) (old mid new : K) (bytes : List ℕ) (r : Result T E)
    (end : End F) → Wrote bytes r (writing written faults old mid) → Closes r end (writing written faults mid new)
    → Finishes Done bytes end (writing written faults old new)
closed written faults old mid new bytes (Ok done) end (calm, took) (kept, inl (same, calm_then)) =
    inl (same, calm_then ∙ calm, Appends-kept (written old) (written mid) (written new) bytes took kept)
closed written faults old mid new bytes (Ok done) end (calm, took) (kept, inr (same, rose)) =
    inr (
      same,
      subst (λ (n : ℕ). Rose n (faults new)) calm rose,
      (bytes, [], sym (append-nil bytes), Appends-kept (written old) (written mid) (written new) bytes took kept),
    )
closed written faults old mid new bytes (Err stop) end (rose, (front, rest, parts, took)) (same, (calm, kept)) =
    inr (
      same,
      subst (λ (n : ℕ). Rose (faults old) n) (sym calm) rose,
      (front, rest, parts, Appends-kept (written old) (written mid) (written new) front took kept),
    )
