-- The input of a run, and how long it is.
use Rattle.std.proofs.Common.{◌≡◌, ℕ, ◌+◌, ◌<◌, List, ◌++◌, length, replicate, refl, sym, ◌∙◌, ap, subst}
use Rattle.std.proofs.Common.{arith, inl, inr}
use Rattle.std.specs.Prelude.{Option, Some, None}
use Rattle.std.proofs.lemmas.List.{append-nil, length-replicate}
use Rattle.std.specs.Io.KnownBytes.{Consumes, IsAtEnd}
use Rattle.byte_edge.specs.Bytes.{IsLongerThan}
use Rattle.tool_edge.specs.declared.end.End.{End}
use Rattle.tool_edge.specs.declared.end.End.TheVariants.{Done, BadInput}
use Rattle.tool_edge.specs.Streams.{Reading, Writing, NoReadFailed, MayBeLeft}
use Rattle.tool_edge.specs.Refusals.{Refusals}
use Rattle.tool_edge.specs.Finishing.{Finishes}
use Rattle.tool_edge.specs.Opening.{MayBeInput, IsInput, IsWithin, IsTooLong, ReadsAll}

-- the input that the source told is the only one
pub same_input :
    (limit : Option ℕ) (left : Option (List ℕ)) (input other : List ℕ) → IsInput limit left input
    → MayBeInput limit left other
    → other ≡ input
same_input None left input other told is = is ∙ sym told
same_input (Some most) left input other told is = subst (λ (l : Option (List ℕ)). MayBeLeft l other) told is

-- what was read is what is left, where that is known
all_left :
    (left then : Option (List ℕ)) (items : List ℕ) → Consumes left then items → IsAtEnd then → MayBeLeft left items
all_left None then items took ended = tt
all_left (Some input) None items took ended = absurd took
all_left (Some input) (Some rest) items took ended =
    sym (took ∙ (ap (λ (r : List ℕ). items ++ r) ended ∙ append-nil items))

pub is_input :
    (limit : Option ℕ) (items : List ℕ) (source : Reading) → ReadsAll limit items source
    → MayBeInput limit source.left items
is_input None items source reads = reads.0
is_input (Some most) items source reads = all_left source.left source.left_then items reads.all reads.ended

pub no_read_failed : (limit : Option ℕ) (items : List ℕ) (source : Reading) → ReadsAll limit items source → NoReadFailed source
no_read_failed None items source reads = reads.1.0
no_read_failed (Some most) items source reads = reads.calm

-- where more bytes are left than this, some input is longer
pub some_longer :
    (most : ℕ) (left : Option (List ℕ)) → IsLongerThan most left
    → (input : List ℕ) × MayBeLeft left input × (most < length input)
some_longer most None long = (replicate (most + 1) 0, tt, omega (arith, length-replicate {A = ℕ} (most + 1) 0))
some_longer most (Some input) long = (input, refl, long)

-- an input that is too long is not within the limit, and has one fault
pub not_within :
    {F : Type 0} (refusals : Refusals F) (limit : Option ℕ) (input : List ℕ) (fault : F) → IsWithin limit input
    → IsTooLong refusals limit input fault → ⊥
not_within refusals None input fault short long = long
not_within refusals (Some most) input fault short long = omega (arith, short, long.0)

pub long_once :
    {F : Type 0} (refusals : Refusals F) (limit : Option ℕ) (input : List ℕ) (fault other : F)
    → IsTooLong refusals limit input fault → IsTooLong refusals limit input other → fault ≡ other
long_once refusals None input fault other long again = absurd long
long_once refusals (Some most) input fault other long again = long.1 ∙ sym again.1

-- a limit is one or none
pub not_both : (limit : Option ℕ) (most : ℕ) → limit ≡ None → limit ≡ Some most → ⊥
not_both limit most none some = cc

pub refusal_is_not_done :
    {F : Type 0} (fault : F) (bytes : List ℕ) (end : End F) (sink : Writing) → Finishes (BadInput fault) bytes end sink
    → end ≡ Done → ⊥
refusal_is_not_done fault bytes end sink (inl (same, calm, took)) done = cc
refusal_is_not_done fault bytes end sink (inr (same, rose, front)) done = cc
