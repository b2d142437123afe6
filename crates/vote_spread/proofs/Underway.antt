-- How far the rows of a part of some stems are made.
use Rattle.std.proofs.Common.{◌≡◌, ℕ, ◌+◌, ◌-◌, ◌*◌, ◌<◌, ◌≤◌, Bool, cond, List, [], ◌∷◌, length, get_or, set}
use Rattle.std.proofs.Common.{drop, take, sum, replicate, arith, refl, ap, sym, ◌∙◌, inl, inr}
use Rattle.std.specs.List.{All}
use Rattle.std.proofs.lemmas.Bool.{cases_lt}
use Rattle.std.proofs.lemmas.List.{get_or-set_same, get_or-set_other, get_or-replicate, length-set}
use Rattle.std.proofs.lemmas.List.{length-replicate, length-take, length-drop, drop_all}
use Rattle.meek_rule.specs.Weights.{given}
use Rattle.vote_spread.specs.declared.class.Class.{Class}
use Rattle.vote_spread.specs.Class.{AreOf}
use Rattle.vote_spread.specs.Stem.{Stem}
use Rattle.vote_spread.specs.Walk.{IsWalk}
use Rattle.vote_spread.specs.Gain.{gains, opening, part}
use Rattle.vote_spread.specs.Rows.{IsRow, left_at, total, StandForPart}
use Rattle.vote_spread.proofs.WalkLemmas.{still}
use Rattle.vote_spread.proofs.TotalLemmas.{length-opening}
use Rattle.vote_spread.proofs.PlaceLemmas.{IsAt, Ahead}

-- The depths that rows have reached for stems above `depth`: they rise along the way, and no further than the stems'.
pub record Climbs (depth : ℕ) (depths : List ℕ) : Type 0 where
  pub long : length depths ≡ 251
  pub rises : (a b : ℕ) → a ≤ b → b < depth → get_or depths a 0 ≤ get_or depths b 0
  pub low : (a : ℕ) → a < depth → get_or depths a 0 ≤ a

-- At some keep values the rows have the weights of the walk at stem i, and have given what the walk has.
pub record Follows (s : ℕ) (keeps : List ℕ) (stems : List Stem) (from to i depth : ℕ) (depths : List ℕ)
    (rows : List Stem) : Type 0 where
  pub weights : List ℕ
  pub long : length weights ≡ 251
  pub ahead : Ahead s keeps stems i weights
  pub same : (e : ℕ) → e < depth → get_or weights e 0 ≡ left_at s keeps rows (get_or depths e 0)
  pub gives : (c : ℕ) → total s keeps c rows + still s keeps c stems from to i ≡ part s keeps c stems from to

pub record IsUnderway (classes : List Class) (stems : List Stem) (from to i : ℕ) (depths : List ℕ)
    (rows : List Stem) : Type 0 where
  pub depth : ℕ
  pub at : IsAt (length classes) stems i depth
  pub climbs : Climbs depth depths
  pub sound : All (IsRow (length classes)) rows
  pub follows : (s : ℕ) (keeps : List ℕ) → AreOf s keeps classes → Follows s keeps stems from to i depth depths rows

-- The rows of a stem were added, which counts or does not.
pub record Entered (classes : List Class) (counts : Bool) (stem : Stem) (at : ℕ) (old new : List Stem) : Type 0 where
  pub sound : All (IsRow (length classes)) old → All (IsRow (length classes)) new
  pub above :
      (s : ℕ) (keeps : List ℕ) (depth : ℕ) → AreOf s keeps classes → depth ≤ at
      → left_at s keeps new depth ≡ left_at s keeps old depth
  pub gives :
      (s : ℕ) (keeps : List ℕ) (c : ℕ) → AreOf s keeps classes
      → total s keeps c new
      ≡ total s keeps c old
      + cond counts (stem.ballots * given s keeps (left_at s keeps old at) (stem.candidate ∷ stem.tail) c)
      0

-- ---- the depths that were reached

-- no higher than what was climbed
pub lower : {depth : ℕ} {depths : List ℕ} (below : ℕ) → below ≤ depth → Climbs depth depths → Climbs below depths
lower below le climbs = record {
  long = climbs.long;
  rises = λ a b up lt. climbs.rises a b up (omega arith);
  low = λ a lt. climbs.low a (omega arith);
}

-- One depth is written after those that were climbed, at most one above the depth before it.
module _ {depth : ℕ} {depths : List ℕ} (climbs : Climbs depth depths) (at below : ℕ) (one : 1 ≤ at)
    (le : at ≤ depth) (shallow : at ≤ 250) where
  written : get_or (set depths at below) at 0 ≡ below
  written = get_or-set_same depths at below 0 (omega (arith, climbs.long))

  pub climbed_here : (e : ℕ) → e ≡ at → get_or (set depths at below) e 0 ≡ below
  climbed_here e is = ap (λ m. get_or (set depths at below) m 0) is ∙ written

  pub climbed_above : (e : ℕ) → e < at → get_or (set depths at below) e 0 ≡ get_or depths e 0
  climbed_above e lt = get_or-set_other depths at e below 0 (omega arith)

  pub climbs_on :
      get_or depths (at - 1) 0 ≤ below → below ≤ get_or depths (at - 1) 0 + 1
      → Climbs (at + 1) (set depths at below)
  climbs_on up most = record {
    long = length-set depths at below ∙ climbs.long;
    rises =
        λ a b rising deep. elim (cases_lt b at) [
          | inl above ↦
              let rise = climbs.rises a b rising (omega arith) in
              omega (arith, climbed_above a (omega arith), climbed_above b above)
          | inr last ↦
              let here = climbed_here b (omega arith) in
              elim (cases_lt a at) [
                | inl above ↦
                    let rise = climbs.rises a (at - 1) (omega arith) (omega arith) in
                    omega (arith, climbed_above a above, here, up)
                | inr same ↦ omega (arith, here, climbed_here a (omega arith))
              ]
        ];
    low =
        λ a deep. elim (cases_lt a at) [
          | inl above ↦ let rise = climbs.low a (omega arith) in omega (arith, climbed_above a above)
          | inr last ↦
              let before = climbs.low (at - 1) (omega arith) in
              omega (arith, climbed_here a (omega arith), most)
        ];
  }

-- ---- the beginning and the end

pub underway-begin :
    (classes : List Class) (stems : List Stem) (from to : ℕ) → IsWalk (length classes) 1 stems
    → IsUnderway classes stems from to 0 (replicate 251 0) []
underway-begin classes stems from to walk =
    let none : List ℕ = replicate 251 0 in
    let zero : (a : ℕ) → a < 1 → get_or none a 0 ≡ 0 =
    λ a lt. get_or-replicate {A = ℕ} 251 a 0 0 (omega arith) in
    let first : (e : ℕ) → e < 1 → e ≡ 0 = λ e lt. omega arith in
    record {
      depth = 1;
      at = record { inside = omega arith; walk = walk };
      climbs = record {
        long = length-replicate {A = ℕ} 251 0;
        rises = λ a b up lt. omega (arith, zero a (omega arith));
        low = λ a lt. omega (arith, zero a lt);
      };
      sound = λ k d lt. absurd (omega arith);
      follows =
          λ s keeps are. record {
            weights = opening s;
            long = length-opening s;
            ahead = λ c. refl;
            same = λ e lt. ap (λ n. get_or (opening s) n 0) (first e lt ∙ sym (zero e lt));
            gives =
                λ c.
                let first_on : 0 - from ≡ 0 = omega arith in
                let whole : still s keeps c stems from to 0 ≡ part s keeps c stems from to =
                ap (λ n. sum (drop n (drop from (take to (gains s keeps c (opening s) stems))))) first_on in
                omega arith;
          };
    }

-- the end of the part
pub underway-end :
    {classes : List Class} {stems : List Stem} {from to i : ℕ} {depths : List ℕ} {rows : List Stem}
    → to ≤ i → IsUnderway classes stems from to i depths rows → StandForPart classes stems from to rows
underway-end {stems = stems} {from = from} {to = to} {i = i} end under = record {
  sound = under.sound;
  gives =
      λ s keeps c are.
      let all = gains s keeps c (opening s) stems in
      let none : still s keeps c stems from to i ≡ 0 =
      ap sum (drop_all (i - from) (drop from (take to all))
      (omega (arith, length-drop from (take to all), length-take to all))) in
      let whole = (under.follows s keeps are).gives c in
      omega arith;
}
