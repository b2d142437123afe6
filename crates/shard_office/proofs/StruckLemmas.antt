-- Candidates that lawful marks strike.
use Rattle.std.proofs.Common.{ℕ, ◌≤◌, Bool, true, false, cond, List, [], ◌∷◌, ◌++◌}
use Rattle.std.specs.Prelude.{All}
use Rattle.std.proofs.lemmas.List.Elements.{All-push, All-head, All-tail}
use Rattle.batch_core.specs.Book.{is_struck, strike}
use Rattle.call_register.specs.declared.mark.Mark.{Mark}
use Rattle.call_register.specs.declared.mark.Mark.TheVariants.{Shard, Freeze, Strike}
use Rattle.call_register.specs.Marks.{MayMark, struck_from}

abbrev pub IsCandidate : ℕ → ℕ → Type 0
IsCandidate candidates c = (1 ≤ c) × (c ≤ candidates)

one_more : (candidates k : ℕ) (struck : List ℕ) (b : Bool) → All (IsCandidate candidates) struck → IsCandidate candidates k
    → All (IsCandidate candidates) (cond b struck (struck ++ k ∷ []))
one_more candidates k struck true all is = all
one_more candidates k struck false all is = All-push (IsCandidate candidates) struck k all is

pub struck_are : (shards candidates : ℕ) (struck : List ℕ) (marks : List Mark) → All (IsCandidate candidates) struck
    → All (MayMark shards candidates) marks → All (IsCandidate candidates) (struck_from struck marks)
struck_are shards candidates struck [] all may = all
struck_are shards candidates struck (Shard s ∷ marks) all may =
    struck_are shards candidates struck marks all (All-tail (MayMark shards candidates) (Shard s) marks may)
struck_are shards candidates struck (Freeze c ∷ marks) all may =
    struck_are shards candidates struck marks all (All-tail (MayMark shards candidates) (Freeze c) marks may)
struck_are shards candidates struck (Strike c k ∷ marks) all may =
    struck_are shards candidates (strike struck k) marks
    (one_more candidates k struck (is_struck struck k) all (All-head (MayMark shards candidates) (Strike c k) marks may))
    (All-tail (MayMark shards candidates) (Strike c k) marks may)
