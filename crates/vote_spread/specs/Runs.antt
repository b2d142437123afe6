-- What runs lanes.
use Rattle.std.specs.Prelude.{◌≡◌, ℕ, length}
use denote.Ref.{MutBor}
use denote.Param.Members.{Shared}
use Rattle.vote_spread.specs.declared.lanes.Lanes.{Lanes}
use Rattle.vote_spread.specs.Lanes.{HaveCounted}

-- f may be called with lanes at this scale, and has then made them count.
pub record RunsLanes {F : Type 0} (calls : Shared F (MutBor Lanes × Unit {0}) (Unit {0} × (MutBor Lanes × Unit {0}))) (s : ℕ) (f : F) : Type 0 where
  pub accepts : (lanes : MutBor Lanes) → lanes.now.scale ≡ s → calls.pre f (lanes, tt)
  pub gives : (lanes after : MutBor Lanes) → calls.post f (lanes, tt) (tt, (after, tt)) → HaveCounted lanes.now after.now

-- a distribution over lanes has all that it needs
pub record CanSpread {F : Type 0} (calls : Shared F (MutBor Lanes × Unit {0}) (Unit {0} × (MutBor Lanes × Unit {0}))) (s n total : ℕ) (lanes : Lanes) (f : F) : Type 0 where
  pub scaled : lanes.scale ≡ s
  pub of_all : length lanes.keeps ≡ n
  pub counted : total ≡ length lanes.ballots
  pub runs : RunsLanes calls s f
