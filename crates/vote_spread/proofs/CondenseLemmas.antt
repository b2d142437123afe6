-- The steps of making rows of a part of some stems.
use Rattle.std.proofs.Common.{◌≡◌, ℕ, ◌+◌, ◌-◌, ◌*◌, ◌<◌, ◌≤◌, cond, leb, List, ◌∷◌, length, get_or, set, arith}
use Rattle.std.proofs.Common.{ap, sym, ◌∙◌, inl, inr, Some, None}
use Rattle.std.proofs.lemmas.Bool.{cases_lt}
use Rattle.meek_rule.specs.Weights.{kept, given}
use Rattle.vote_spread.specs.declared.class.Class.{Class}
use Rattle.vote_spread.specs.Class.{AreOf}
use Rattle.vote_spread.specs.Stem.{Stem}
use Rattle.vote_spread.specs.Gain.{reached, left, past, gains, opening, part}
use Rattle.vote_spread.specs.Rows.{left_at, total, Leaves}
use Rattle.vote_spread.proofs.GainLemmas.{past-here, past-other, length-past}
use Rattle.vote_spread.proofs.WalkLemmas.{still, still_before, still_jump, still_visit}
use Rattle.vote_spread.proofs.PlaceLemmas.{IsParted, at_past, at_next, ahead_before, ahead_next, ahead_jump}
use Rattle.vote_spread.proofs.PlaceLemmas.{gain_at, gains_jump}
use Rattle.vote_spread.proofs.Underway.{Follows, IsUnderway, Entered, lower, climbs_on, climbed_here}
use Rattle.vote_spread.proofs.Underway.{climbed_above}

-- The rows of the stems before stem i are made.
module _ {classes : List Class} {stems : List Stem} {from to i : ℕ} {depths : List ℕ} {rows : List Stem} {stem : Stem}
    (under : IsUnderway classes stems from to i depths rows)
    (here : IsParted (length classes) stems i under.depth stem) where
  -- a subtree before the part is passed over
  pub underway-before : i + stem.skip ≤ from → IsUnderway classes stems from to (i + stem.skip) depths rows
  underway-before before =
      let le : stem.depth ≤ under.depth = here.placed.not_too_deep in
      record {
        depth = stem.depth;
        at = at_past here;
        climbs = lower stem.depth le under.climbs;
        sound = under.sound;
        follows =
            λ s keeps are.
            let f = under.follows s keeps are in
            record {
              weights = f.weights;
              long = f.long;
              ahead = ahead_before here s keeps f.weights f.ahead (omega (arith, f.long));
              same = λ e lt. f.same e (omega arith);
              gives =
                  λ c.
                  ap (λ m. total s keeps c rows + m)
                  (still_before s keeps c stems from to (i + stem.skip) i before (omega arith))
                  ∙ f.gives c;
            };
      }

  -- the weight with which the stem is reached is left by the rows at the depth that was reached above it
  weight_here :
      {s : ℕ} {keeps : List ℕ} (f : Follows s keeps stems from to i under.depth depths rows)
      → reached f.weights stem ≡ left_at s keeps rows (get_or depths (stem.depth - 1) 0)
  weight_here f = f.same (stem.depth - 1) (omega (arith, here.placed.below_root, here.placed.not_too_deep))

  -- The rows of the stem are made as well.
  module _ {new : List Stem} (lt : i < to) (inside : to ≤ length stems)
      (entered : Entered classes (leb from i) stem (get_or depths (stem.depth - 1) 0) rows new) where
    -- what the rows have given, with what is after the stem still to be given
    visited :
        {s : ℕ} {keeps : List ℕ} → AreOf s keeps classes
        → (f : Follows s keeps stems from to i under.depth depths rows) (c : ℕ)
        → total s keeps c new + still s keeps c stems from to (i + 1) ≡ part s keeps c stems from to
    visited {s = s} {keeps = keeps} are f c =
        let at = get_or depths (stem.depth - 1) 0 in
        let all = stem.ballots * given s keeps (left_at s keeps rows at) (stem.candidate ∷ stem.tail) c in
        let own : get_or (gains s keeps c (opening s) stems) i 0 ≡ all =
        gain_at here s keeps f.weights f.ahead c
        ∙ ap (λ w. stem.ballots * given s keeps w (stem.candidate ∷ stem.tail) c) (weight_here f) in
        let split :
        still s keeps c stems from to i
        ≡ cond (leb from i) all 0 + still s keeps c stems from to (i + 1) =
        still_visit s keeps c stems from to i lt inside
        ∙ ap (λ m. cond (leb from i) m 0 + still s keeps c stems from to (i + 1)) own in
        omega (arith, f.gives c, entered.gives s keeps c are)

    -- the rows leave at the depths above the stem what they left before
    same_above :
        {s : ℕ} {keeps : List ℕ} → AreOf s keeps classes
        → (f : Follows s keeps stems from to i under.depth depths rows) (e : ℕ) → e < stem.depth
        → get_or (past s keeps f.weights stem) e 0 ≡ left_at s keeps new (get_or depths e 0)
    same_above {s = s} {keeps = keeps} are f e above =
        let le : stem.depth ≤ under.depth = here.placed.not_too_deep in
        let rise = under.climbs.rises e (stem.depth - 1) (omega arith) (omega arith) in
        past-other s keeps f.weights stem e (omega arith)
        ∙ (f.same e (omega arith) ∙ sym (entered.above s keeps (get_or depths e 0) are rise))

    -- something is left after the stem
    pub underway-next :
        (below : ℕ) → Leaves classes (get_or depths (stem.depth - 1) 0) stem.candidate rows new (Some below)
        → IsUnderway classes stems from to (i + 1) (set depths stem.depth below) new
    underway-next below leaves =
        let k = stem.depth in
        let one : 1 ≤ k = here.placed.below_root in
        let le : k ≤ under.depth = here.placed.not_too_deep in
        let shallow : k ≤ 250 = omega (arith, here.placed.shallow) in
        record {
          depth = k + 1;
          at = at_next here;
          climbs = climbs_on under.climbs k below one le shallow leaves.0 leaves.1;
          sound = entered.sound under.sound;
          follows =
              λ s keeps are.
              let f = under.follows s keeps are in
              let ws = f.weights in
              record {
                weights = past s keeps ws stem;
                long = length-past s keeps ws stem ∙ f.long;
                ahead = ahead_next here s keeps ws f.ahead;
                same =
                    λ e deep. elim (cases_lt e k) [
                      | inl above ↦
                          same_above are f e above
                          ∙ ap (left_at s keeps new)
                          (sym (climbed_above under.climbs k below one le shallow e above))
                      | inr last ↦
                          let is : e ≡ k = omega arith in
                          ap (λ m. get_or (past s keeps ws stem) m 0) is
                          ∙ (past-here s keeps ws stem (omega (arith, f.long))
                          ∙ (ap (λ w. w - kept s keeps w stem.candidate) (weight_here f)
                          ∙ (sym (leaves.2 s keeps are)
                          ∙ ap (left_at s keeps new)
                          (sym (climbed_here under.climbs k below one le shallow e is)))))
                    ];
                gives = visited are f;
              };
        }

    -- nothing is left after it
    pub underway-jump :
        Leaves classes (get_or depths (stem.depth - 1) 0) stem.candidate rows new None
        → IsUnderway classes stems from to (i + stem.skip) depths new
    underway-jump leaves =
        let le : stem.depth ≤ under.depth = here.placed.not_too_deep in
        record {
          depth = stem.depth;
          at = at_past here;
          climbs = lower stem.depth le under.climbs;
          sound = entered.sound under.sound;
          follows =
              λ s keeps are.
              let f = under.follows s keeps are in
              let ws = f.weights in
              let deep : 250 < length ws = omega (arith, f.long) in
              let nothing : left s keeps ws stem ≡ 0 =
              ap (λ w. w - kept s keeps w stem.candidate) (weight_here f) ∙ leaves s keeps are in
              record {
                weights = past s keeps ws stem;
                long = length-past s keeps ws stem ∙ f.long;
                ahead = ahead_jump here s keeps ws f.ahead deep;
                same = same_above are f;
                gives =
                    λ c.
                    let jump =
                    still_jump s keeps c stems from to (i + 1) (i + stem.skip) (omega (arith, here.some))
                    (gains_jump here s keeps ws f.ahead are.whole deep nothing c) in
                    omega (arith, jump, visited are f c);
              };
        }
