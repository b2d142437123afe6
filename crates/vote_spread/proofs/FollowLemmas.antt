-- Rows of a tail, rank by rank.
use Rattle.std.proofs.Common.{◌≡◌, ℕ, ◌≤◌, List, [], ◌∷◌, arith, Some, None}
use Rattle.vote_spread.specs.declared.class.Class.{Class}
use Rattle.vote_spread.specs.Stem.{Stem}
use Rattle.vote_spread.specs.Rows.{Continues, Leaves}
use Rattle.vote_spread.proofs.TotalLemmas.{continues_then, continues_end, continues_nothing}

-- Of ranks that go on at depth `at`, those before `more` have their rows, and `more` goes on at depth `below`: whatever
-- goes on with `more` goes on with all ranks.
pub record Missing (classes : List Class) (ballots at below : ℕ) (ranks more : List ℕ) (old now : List Stem) : Type 0 where
  pub deeper : at ≤ below
  pub whole : (new : List Stem) → Continues classes ballots below more now new → Continues classes ballots at ranks old new

pub missing_begin :
    (classes : List Class) (ballots at : ℕ) (ranks : List ℕ) (rows : List Stem)
    → Missing classes ballots at at ranks ranks rows rows
missing_begin classes ballots at ranks rows = record { deeper = omega arith; whole = λ new go. go }

pub missing_next :
    (classes : List Class) (ballots at below next r : ℕ) (ranks more : List ℕ) (old now mid : List Stem)
    → Missing classes ballots at below ranks (r ∷ more) old now
    → Continues classes ballots below (r ∷ []) now mid → Leaves classes below r now mid (Some next)
    → Missing classes ballots at next ranks more old mid
missing_next classes ballots at below next r ranks more old now mid missing one leaves = record {
  deeper = omega (arith, missing.deeper, leaves.0);
  whole = λ new go. missing.whole new (continues_then classes ballots below next r more now mid new one leaves go);
}

pub missing_stop :
    (classes : List Class) (ballots at below r : ℕ) (ranks more : List ℕ) (old now new : List Stem)
    → Missing classes ballots at below ranks (r ∷ more) old now
    → Continues classes ballots below (r ∷ []) now new → Leaves classes below r now new None
    → Continues classes ballots at ranks old new
missing_stop classes ballots at below r ranks more old now new missing one leaves =
    missing.whole new (continues_end classes ballots below r more now new one leaves)

pub missing_end :
    (classes : List Class) (ballots at below : ℕ) (ranks more : List ℕ) (old now : List Stem) → more ≡ []
    → Missing classes ballots at below ranks more old now → Continues classes ballots at ranks old now
missing_end classes ballots at below ranks more old now none missing =
    missing.whole now (rw none (continues_nothing classes ballots below now))
