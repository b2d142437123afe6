-- A lane, and what it has at hand.
use Rattle.std.specs.Prelude.{◌≡◌, ℕ, ◌+◌, ◌<◌, ◌≤◌, false, List, length, map, slice_index_or}
use Rattle.vote_spread.specs.Stem.{Stem}
use Rattle.vote_spread.specs.KeepingSeen.{KeepingSeen, classes_of}
use Rattle.vote_spread.specs.Rows.{StandForPart, room_for}
use Rattle.shared_work.specs.Shares.{share}
use Rattle.vote_spread.specs.Shares.{HasCounted}

-- a lane's tally, its rows, and for how many rows it has room
pub record LaneSeen : Type 0 where
  pub tally : List ℕ
  pub rows : List Stem
  pub room : ℕ

abbrev pub tallies_of : List LaneSeen → List (List ℕ)
tallies_of lanes = map (λ lane. lane.tally) lanes

-- A lane has room for the rows of share k of the stems, and where they are not stale they stand for it at all keep
-- values of the same classes.
pub record IsFit (keeping : KeepingSeen) (stems : List Stem) (k lanes : ℕ) (lane : LaneSeen) : Type 0 where
  pub room : room_for stems (share (length stems) k lanes) (share (length stems) (k + 1) lanes) ≤ lane.room
  pub rows :
      keeping.stale ≡ false
      → StandForPart (classes_of keeping) stems (share (length stems) k lanes)
      (share (length stems) (k + 1) lanes) lane.rows

-- lanes from lane `first` on of so many are fit for their shares
pub record AreFit (keeping : KeepingSeen) (stems : List Stem) (first lanes : ℕ) (list : List LaneSeen) :
    Type 0 where
  pub each :
      (k : ℕ) (d : LaneSeen) → k < length list
      → IsFit keeping stems (first + k) lanes (slice_index_or list k d)

-- lanes from lane `first` on of so many have counted their shares
pub record HaveRun (keeping : KeepingSeen) (stems : List Stem) (first lanes : ℕ) (list : List LaneSeen) :
    Type 0 where
  pub each :
      (k : ℕ) (d : LaneSeen) → k < length list
      → HasCounted keeping stems (first + k) lanes (slice_index_or list k d).tally
