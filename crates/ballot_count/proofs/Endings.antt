-- How a run ends after its text.
use Rattle.std.proofs.Common.{ℕ, List, Option, Result, Ok, Err, subst, inl, inr}
use Rattle.lane_sheet.specs.Due.{WritesOrWants}
use Rattle.input_text.specs.declared.input_fault.InputFault.{InputFault}
use Rattle.tool_edge.specs.declared.end.End.{End}
use Rattle.tool_edge.specs.Streams.{writing, NothingWritten}
use Rattle.tool_edge.proofs.Ending.{closed}
use Rattle.ballot_count.specs.Ending.{EndsAfter, WritesOwed}
use Rattle.ballot_count.proofs.WritingBytes.{wrote_of}

-- a text was written, or memory was wanted, and the run was ended after it
pub ended :
    {K T E F : Type 0} (w : K → Option (List ℕ)) (f : K → ℕ) (old mid new : K) (IsText : List ℕ → Type 0)
    (wrote : Result (Result T E) F) (status : End InputFault) → WritesOrWants IsText w f old mid wrote
    → EndsAfter wrote status (writing w f mid new) → WritesOwed IsText status (writing w f old new)
ended w f old mid new IsText (Ok r) status (text, is, did) closes =
    inr (text, is, closed w f old mid new text r status (wrote_of w f old mid text r did) closes)
ended {K} w f old mid new IsText (Err wants) status same (is, nothing) =
    inl (is, subst (λ (k : K). NothingWritten (writing w f k new)) same nothing)
