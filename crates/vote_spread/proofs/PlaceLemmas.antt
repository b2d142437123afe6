-- Places in a walk over stems.
use Rattle.std.proofs.Common.{◌≡◌, ℕ, ◌+◌, ◌-◌, ◌<◌, ◌≤◌, List, ◌∷◌, ◌++◌, length, get_or, drop, take, arith}
use Rattle.std.proofs.Common.{refl, ap, sym, subst, ◌∙◌}
use Rattle.std.specs.List.{All}
use Rattle.std.proofs.lemmas.List.{drop_more, drop-drop, get_or-drop, length-drop, length-take-le, take-append-drop}
use Rattle.std.proofs.lemmas.List.Elements.{All-cons}
use Rattle.vote_spread.specs.Stem.{Stem}
use Rattle.vote_spread.specs.Walk.{IsFrom, IsPlaced, IsWalk}
use Rattle.vote_spread.specs.Gain.{left, gain, past, gains, opening}
use Rattle.vote_spread.proofs.WalkLemmas.{from_more}
use Rattle.vote_spread.proofs.GainLemmas.{walk_from, walk_behind, past-here, length-past, gains_behind, gains_zero}

-- a walk goes on at stem i, no deeper than at `depth`
pub record IsAt (n : ℕ) (stems : List Stem) (i depth : ℕ) : Type 0 where
  pub inside : i ≤ length stems
  pub walk : IsWalk n depth (drop i stems)

-- from stem i on, the stems give what they give from these weights
abbrev pub Ahead : (s : ℕ) (keeps : List ℕ) (stems : List Stem) (i : ℕ) (weights : List ℕ) → Type 0
Ahead s keeps stems i weights = (c : ℕ) → drop i (gains s keeps c (opening s) stems) ≡ gains s keeps c weights (drop i stems)

-- the stems of a subtree, after its first
abbrev pub subtree : List Stem → ℕ → Stem → List Stem
subtree stems i stem = take (stem.skip - 1) (drop (i + 1) stems)

-- The stem at place i, with what is after it parted into its subtree and the rest.
pub record IsParted (n : ℕ) (stems : List Stem) (i depth : ℕ) (stem : Stem) : Type 0 where
  pub walk : IsWalk n depth ((stem ∷ subtree stems i stem) ++ drop (i + stem.skip) stems)
  pub placed : IsPlaced n depth stem (drop (i + 1) stems)
  pub at : drop i stems ≡ stem ∷ drop (i + 1) stems
  pub cut : drop (i + 1) stems ≡ subtree stems i stem ++ drop (i + stem.skip) stems
  pub long : length (subtree stems i stem) ≡ stem.skip - 1
  pub behind : IsFrom stem.depth (drop (i + stem.skip) stems)
  pub inside : i + stem.skip ≤ length stems
  pub some : 1 ≤ stem.skip

pub parted :
    (n : ℕ) (stems : List Stem) (i depth : ℕ) (d : Stem) → i < length stems → IsAt n stems i depth
    → IsParted n stems i depth (get_or stems i d)
parted n stems i depth d below at =
    let stem = get_or stems i d in
    let e : drop i stems ≡ stem ∷ drop (i + 1) stems = drop_more stems i d below in
    let whole : IsWalk n depth (stem ∷ drop (i + 1) stems) = subst (λ (l : List Stem). IsWalk n depth l) e at.walk in
    let placed : IsPlaced n depth stem (drop (i + 1) stems) = whole.0 in
    let some : 1 ≤ stem.skip = placed.itself in
    let room : stem.skip ≤ length (drop (i + 1) stems) + 1 = placed.inside in
    let size = length-drop (i + 1) stems in
    let same : (i + 1) + (stem.skip - 1) ≡ i + stem.skip = omega arith in
    let rest : drop (stem.skip - 1) (drop (i + 1) stems) ≡ drop (i + stem.skip) stems =
    drop-drop (stem.skip - 1) (i + 1) stems ∙ ap (λ n. drop n stems) same in
    let cut : drop (i + 1) stems ≡ subtree stems i stem ++ drop (i + stem.skip) stems =
    sym (take-append-drop (stem.skip - 1) (drop (i + 1) stems)) ∙ ap (λ l. subtree stems i stem ++ l) rest in
    record {
      walk = subst (λ (l : List Stem). IsWalk n depth (stem ∷ l)) cut whole;
      placed = placed;
      at = e;
      cut = cut;
      long = length-take-le (stem.skip - 1) (drop (i + 1) stems) (omega arith);
      behind = subst (λ (l : List Stem). IsFrom stem.depth l) rest placed.behind;
      inside = omega arith;
      some = some;
    }

module _ {n : ℕ} {stems : List Stem} {i depth : ℕ} {stem : Stem} (here : IsParted n stems i depth stem) where
  abbrev sub : List Stem
  sub = subtree stems i stem

  abbrev rest : List Stem
  rest = drop (i + stem.skip) stems

  -- the walk goes on after the subtree
  pub at_past : IsAt n stems (i + stem.skip) stem.depth
  at_past =
      let next = walk_behind n depth (stem ∷ sub) rest here.walk in
      record { inside = here.inside; walk = walk_from n next.0 stem.depth rest next.1 here.behind }

  -- and after the stem
  pub at_next : IsAt n stems (i + 1) (stem.depth + 1)
  at_next =
      let e : (stem ∷ sub) ++ rest ≡ stem ∷ drop (i + 1) stems = ap (λ l. stem ∷ l) (sym here.cut) in
      let walk : IsWalk n depth (stem ∷ drop (i + 1) stems) = subst (λ (l : List Stem). IsWalk n depth l) e here.walk in
      record { inside = omega (arith, here.inside, here.some); walk = walk.1 }

  below_here : IsWalk n (stem.depth + 1) (sub ++ rest)
  below_here = subst (λ (l : List Stem). IsWalk n (stem.depth + 1) l) here.cut at_next.walk

  -- The stem is reached with these weights.
  module _ (s : ℕ) (keeps ws : List ℕ) (ahead : Ahead s keeps stems i ws) where
    -- a subtree before the part is passed over
    pub ahead_before : 250 < length ws → Ahead s keeps stems (i + stem.skip) ws
    ahead_before deep = λ c.
        let low : All (λ r. stem.depth ≤ r.depth) (stem ∷ sub) =
        All-cons (λ (r : Stem). stem.depth ≤ r.depth) stem sub (omega arith)
        (λ k e lt. let more = here.placed.deeper k e lt in omega arith) in
        let many : stem.skip ≡ length (stem ∷ sub) = omega (arith, here.long, here.some) in
        sym (drop-drop stem.skip i (gains s keeps c (opening s) stems))
        ∙ (ap (drop stem.skip) (ahead c ∙ ap (gains s keeps c ws) (here.at ∙ ap (λ l. stem ∷ l) here.cut))
        ∙ (ap (λ n. drop n (gains s keeps c ws ((stem ∷ sub) ++ rest))) many
        ∙ gains_behind n depth stem.depth s keeps c ws ws (stem ∷ sub) rest here.walk low here.behind deep refl
        (λ j lt. refl)))

    -- the stem is visited
    pub ahead_next : Ahead s keeps stems (i + 1) (past s keeps ws stem)
    ahead_next = λ c.
        sym (drop-drop 1 i (gains s keeps c (opening s) stems))
        ∙ ap (drop 1) (ahead c ∙ ap (gains s keeps c ws) here.at)

    -- what the stem gives to a candidate is at its place
    pub gain_at : (c : ℕ) → get_or (gains s keeps c (opening s) stems) i 0 ≡ gain s keeps c ws stem
    gain_at c =
        let e : i + 0 ≡ i = omega arith in
        ap (λ n. get_or (gains s keeps c (opening s) stems) n 0) (sym e)
        ∙ (sym (get_or-drop i (gains s keeps c (opening s) stems) 0 0)
        ∙ ap (λ l. get_or l 0 0) (ahead c ∙ ap (gains s keeps c ws) here.at))

    -- what the stems after it give
    gains_on : (c : ℕ)
        → drop (i + 1) (gains s keeps c (opening s) stems) ≡ gains s keeps c (past s keeps ws stem) (sub ++ rest)
    gains_on c = ahead_next c ∙ ap (gains s keeps c (past s keeps ws stem)) here.cut

    -- where the stem leaves nothing its subtree is passed over
    pub ahead_jump : 250 < length ws → Ahead s keeps stems (i + stem.skip) (past s keeps ws stem)
    ahead_jump deep = λ c.
        let vs = past s keeps ws stem in
        let deep' : 250 < length vs = rw length-past deep in
        let same : (i + 1) + length sub ≡ i + stem.skip = omega (arith, here.long, here.some) in
        ap (λ n. drop n (gains s keeps c (opening s) stems)) (sym same)
        ∙ (sym (drop-drop (length sub) (i + 1) (gains s keeps c (opening s) stems))
        ∙ (ap (drop (length sub)) (gains_on c)
        ∙ gains_behind n (stem.depth + 1) (stem.depth + 1) s keeps c vs vs sub rest below_here here.placed.deeper
        (from_more stem.depth rest here.behind) deep' refl (λ j lt. refl)))

    -- and no stem of it gives anything
    pub gains_jump :
        1 ≤ s → 250 < length ws → left s keeps ws stem ≡ 0 → (c k : ℕ) → i + 1 ≤ k → k < i + stem.skip
        → get_or (gains s keeps c (opening s) stems) k 0 ≡ 0
    gains_jump pos deep none c k over under =
        let vs = past s keeps ws stem in
        let deep' : 250 < length vs = rw length-past deep in
        let shallow : stem.depth ≤ 250 = omega (arith, here.placed.shallow) in
        let zeros : (j : ℕ) → stem.depth + 1 ≤ j + 1 → j < stem.depth + 1 → get_or vs j 0 ≡ 0 =
        λ j a b. let e : j ≡ stem.depth = omega arith in
        subst (λ (q : ℕ). get_or vs q 0 ≡ 0) (sym e) (past-here s keeps ws stem (omega arith) ∙ none) in
        let t = k - (i + 1) in
        let e : (i + 1) + t ≡ k = omega arith in
        ap (λ n. get_or (gains s keeps c (opening s) stems) n 0) (sym e)
        ∙ (sym (get_or-drop (i + 1) (gains s keeps c (opening s) stems) t 0)
        ∙ (ap (λ l. get_or l t 0) (gains_on c)
        ∙ gains_zero n (stem.depth + 1) (stem.depth + 1) s keeps c vs sub rest below_here here.placed.deeper pos
        deep' zeros t (omega (arith, here.long))))
