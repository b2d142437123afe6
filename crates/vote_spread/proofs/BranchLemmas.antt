-- Branches as stems, and the rows of one that counts or does not.
use Rattle.std.proofs.Common.{◌≡◌, ℕ, ◌+◌, ◌*◌, ◌<◌, ◌≤◌, Bool, true, false, cond, leb, List, [], ◌∷◌, length}
use Rattle.std.proofs.Common.{Option, get_or, drop, arith, refl, ap, subst, ◌∙◌}
use Rattle.std.specs.List.{All}
use Rattle.std.proofs.lemmas.List.{get_or-map, length-map, length-drop, length-take-le}
use Rattle.meek_rule.specs.Weights.{given}
use Rattle.vote_spread.specs.declared.branch.Branch.{Branch}
use Rattle.vote_spread.specs.declared.class.Class.{Class}
use Rattle.vote_spread.specs.Stem.{Stem, stem_of, stems_of}
use Rattle.vote_spread.specs.Walk.{HaveTails}
use Rattle.vote_spread.specs.Rows.{left_at, Continues, Leaves}
use Rattle.vote_spread.proofs.PlaceLemmas.{IsAt, IsParted, parted}
use Rattle.vote_spread.proofs.Underway.{Entered}
use Rattle.vote_spread.proofs.RoomLemmas.{room_left, room-next}

-- ---- the branch at a place

-- what stands past the end of the stems
none : Stem
none = record { depth = 0; candidate = 0; ballots = 0; skip = 0; tail = [] }

pub length-stems : (tails : List ℕ) (branches : List Branch) → length (stems_of tails branches) ≡ length branches
length-stems tails branches = length-map branches (stem_of tails)

module _ (tails : List ℕ) (branches : List Branch) (i : ℕ) (d : Branch) where
  -- the stem at a place is its branch's
  stem_at : i < length branches → get_or (stems_of tails branches) i none ≡ stem_of tails (get_or branches i d)
  stem_at below = get_or-map (stem_of tails) branches i d none below

  pub parted_branch :
      {n depth : ℕ} → i < length branches → IsAt n (stems_of tails branches) i depth
      → IsParted n (stems_of tails branches) i depth (stem_of tails (get_or branches i d))
  parted_branch {n = n} {depth = depth} below at =
      subst (λ (x : Stem). IsParted n (stems_of tails branches) i depth x) (stem_at below)
      (parted n (stems_of tails branches) i depth none (rw length-stems below) at)

  pub room_branch :
      (from to : ℕ) → HaveTails (length tails) branches → i < to → to ≤ length branches
      → room_left (stems_of tails branches) from to i
      ≡ 1 + cond (leb from i) (get_or branches i d).length 0
      + room_left (stems_of tails branches) from to (i + 1)
  room_branch from to have lt inside =
      let b = get_or branches i d in
      let inside_tails : b.tail + b.length ≤ length tails = have i d (omega arith) in
      let long : length (stem_of tails b).tail ≡ b.length =
      length-take-le b.length (drop b.tail tails) (omega (arith, length-drop b.tail tails)) in
      let size : length (get_or (stems_of tails branches) i none).tail ≡ b.length =
      ap (λ (x : Stem). length x.tail) (stem_at (omega arith)) ∙ long in
      room-next (stems_of tails branches) from to i none lt (rw length-stems inside)
      ∙ ap (λ m. 1 + cond (leb from i) m 0 + room_left (stems_of tails branches) from to (i + 1)) size

-- ---- a branch as it is, or with no ballots and no tail where it does not count

abbrev pub counted : (counts : Bool) → Branch → Branch
counted counts b = cond counts b (record b { ballots = 0; length = 0 })

counted_candidate : (counts : Bool) (b : Branch) → (counted counts b).candidate ≡ b.candidate
counted_candidate true b = refl
counted_candidate false b = refl

counted_tail :
    (counts : Bool) (tails : List ℕ) (b : Branch) → b.tail + b.length ≤ length tails
    → length (stem_of tails (counted counts b)).tail ≡ cond counts b.length 0
counted_tail true tails b all = length-take-le b.length (drop b.tail tails) (omega (arith, length-drop b.tail tails))
counted_tail false tails b all = refl

pub counted_inside :
    (counts : Bool) (tails : List ℕ) (b : Branch) → b.tail + b.length ≤ length tails
    → (counted counts b).tail + (counted counts b).length ≤ length tails
counted_inside true tails b all = all
counted_inside false tails b all = omega arith

counted_shorter :
    (counts : Bool) (tails : List ℕ) (b : Branch)
    → length (stem_of tails (counted counts b)).tail ≤ length (stem_of tails b).tail
counted_shorter true tails b = omega arith
counted_shorter false tails b = omega arith

counted_ranks :
    (P : ℕ → Type 0) (counts : Bool) (tails : List ℕ) (b : Branch) → All P (stem_of tails b).tail
    → All P (stem_of tails (counted counts b)).tail
counted_ranks P true tails b all = all
counted_ranks P false tails b all = λ k d lt. absurd (omega arith)

counted_entered :
    (classes : List Class) (tails : List ℕ) (b : Branch) (counts : Bool) (at : ℕ) (old new : List Stem)
    → Continues classes (counted counts b).ballots at
    ((counted counts b).candidate ∷ (stem_of tails (counted counts b)).tail) old new
    → Entered classes counts (stem_of tails b) at old new
counted_entered classes tails b true at old new go = record { sound = go.sound; above = go.above; gives = go.gives }
counted_entered classes tails b false at old new go = record {
  sound = go.sound;
  above = go.above;
  gives =
      λ s keeps c are.
      let all = go.gives s keeps c are in
      let none : 0 * given s keeps (left_at s keeps old at) (b.candidate ∷ []) c ≡ 0 = omega arith in
      omega arith;
}

-- This is a branch that counts or does not, and these candidates are its tail.
pub record IsCounted (counts : Bool) (tails : List ℕ) (b x : Branch) (ranks : List ℕ) : Type 0 where
  pub is : x ≡ counted counts b
  pub tail : ranks ≡ (stem_of tails x).tail

module _ {counts : Bool} {tails : List ℕ} {b x : Branch} {ranks : List ℕ} (its : IsCounted counts tails b x ranks) where
  pub same_candidate : x.candidate ≡ b.candidate
  same_candidate = ap (λ (y : Branch). y.candidate) its.is ∙ counted_candidate counts b

  ranks_are : ranks ≡ (stem_of tails (counted counts b)).tail
  ranks_are = its.tail ∙ ap (λ (y : Branch). (stem_of tails y).tail) its.is

  pub ranks_long : b.tail + b.length ≤ length tails → length ranks ≡ cond counts b.length 0
  ranks_long all = ap length ranks_are ∙ counted_tail counts tails b all

  pub ranks_shorter : length ranks ≤ length (stem_of tails b).tail
  ranks_shorter = omega (arith, ap length ranks_are, counted_shorter counts tails b)

  pub ranks_all : (P : ℕ → Type 0) → All P (stem_of tails b).tail → All P ranks
  ranks_all P all = rw ranks_are (counted_ranks P counts tails b all)

  pub leaves_same :
      (classes : List Class) (at : ℕ) (old new : List Stem) (below : Option ℕ)
      → Leaves classes at x.candidate old new below → Leaves classes at b.candidate old new below
  leaves_same classes at old new below leaves =
      subst (λ (r : ℕ). Leaves classes at r old new below) same_candidate leaves

  pub entered :
      {classes : List Class} {at : ℕ} {old new : List Stem} → Continues classes x.ballots at (x.candidate ∷ ranks) old new
      → Entered classes counts (stem_of tails b) at old new
  entered {classes = classes} {at = at} {old = old} {new = new} go =
      counted_entered classes tails b counts at old new
      (subst (λ (y : Branch). Continues classes y.ballots at (y.candidate ∷ (stem_of tails y).tail) old new) its.is
      (subst (λ (l : List ℕ). Continues classes x.ballots at (x.candidate ∷ l) old new) its.tail go))
