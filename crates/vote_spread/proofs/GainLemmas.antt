-- What stems give, step by step.
use Rattle.std.proofs.Common.{◌≡◌, ℕ, ◌+◌, ◌-◌, ◌*◌, ◌<◌, ◌≤◌, ◌≢◌, List, [], ◌∷◌, ◌++◌, length, get_or, drop}
use Rattle.std.proofs.Common.{sum, arith, refl, ap, sym, subst, ◌∙◌, inl, inr, zero, suc}
use Rattle.std.specs.List.{All}
use Rattle.std.proofs.lemmas.List.{drop_all, get_or-set_same, get_or-set_other, length-set}
use Rattle.std.proofs.lemmas.Bool.{cases_lt, cases_eq}
use Rattle.std.proofs.lemmas.List.Sums.{sum_by-drop_more}
use Rattle.meek_rule.specs.Weights.{kept, given}
use Rattle.meek_rule.proofs.WeightLemmas.{given-nothing}
use Rattle.vote_spread.specs.Stem.{Stem}
use Rattle.vote_spread.specs.Walk.{IsFrom, IsWalk}
use Rattle.vote_spread.specs.Gain.{reached, left, gain, past, gains}

-- one number for each stem
pub length-gains :
    (s : ℕ) (keeps : List ℕ) (c : ℕ) (weights : List ℕ) (stems : List Stem)
    → length (gains s keeps c weights stems) ≡ length stems
length-gains s keeps c weights [] = refl
length-gains s keeps c weights (stem ∷ stems) = ap suc (length-gains s keeps c (past s keeps weights stem) stems)

-- stems that begin no deeper than d may begin at d
pub walk_from : (n m d : ℕ) (stems : List Stem) → IsWalk n m stems → IsFrom d stems → IsWalk n d stems
walk_from n m d [] walk from = tt
walk_from n m d (stem ∷ stems) walk from = (
  record {
    below_root = walk.0.below_root;
    not_too_deep = from;
    shallow = walk.0.shallow;
    candidate = walk.0.candidate;
    known = walk.0.known;
    ranks = walk.0.ranks;
    itself = walk.0.itself;
    inside = walk.0.inside;
    deeper = walk.0.deeper;
    behind = walk.0.behind;
  },
  walk.1,
)

-- what is after some stems of a walk is a walk
pub walk_behind : (n m : ℕ) (sub rest : List Stem) → IsWalk n m (sub ++ rest) → (d : ℕ) × IsWalk n d rest
walk_behind n m [] rest walk = (m, walk)
walk_behind n m (stem ∷ sub) rest walk = walk_behind n (stem.depth + 1) sub rest walk.1

-- weights after a stem: at its own depth, and at the others
pub past-here :
    (s : ℕ) (keeps ws : List ℕ) (stem : Stem) → stem.depth < length ws
    → get_or (past s keeps ws stem) stem.depth 0 ≡ left s keeps ws stem
past-here s keeps ws stem inside = get_or-set_same ws stem.depth (left s keeps ws stem) 0 inside

pub past-other :
    (s : ℕ) (keeps ws : List ℕ) (stem : Stem) (j : ℕ) → j ≢ stem.depth
    → get_or (past s keeps ws stem) j 0 ≡ get_or ws j 0
past-other s keeps ws stem j other = get_or-set_other ws stem.depth j (left s keeps ws stem) 0 other

pub length-past : (s : ℕ) (keeps ws : List ℕ) (stem : Stem) → length (past s keeps ws stem) ≡ length ws
length-past s keeps ws stem = length-set ws stem.depth (left s keeps ws stem)

-- what stems give hangs only on the weights below the depth at which they begin
pub gains_agree :
    (n m s : ℕ) (keeps : List ℕ) (c : ℕ) (ws vs : List ℕ) (stems : List Stem) → IsWalk n m stems
    → 250 < length ws → length ws ≡ length vs → ((j : ℕ) → j < m → get_or ws j 0 ≡ get_or vs j 0)
    → gains s keeps c ws stems ≡ gains s keeps c vs stems
gains_agree n m s keeps c ws vs [] walk deep same agree = refl
gains_agree n m s keeps c ws vs (stem ∷ stems) walk deep same agree =
    let one : 1 ≤ stem.depth = walk.0.below_root in
    let le : stem.depth ≤ m = walk.0.not_too_deep in
    let shallow : stem.depth ≤ 250 = omega (arith, walk.0.shallow) in
    let here : reached ws stem ≡ reached vs stem = agree (stem.depth - 1) (omega arith) in
    let leaves : left s keeps ws stem ≡ left s keeps vs stem = ap (λ w. w - kept s keeps w stem.candidate) here in
    let gives : gain s keeps c ws stem ≡ gain s keeps c vs stem =
    ap (λ w. stem.ballots * given s keeps w (stem.candidate ∷ stem.tail) c) here in
    let below : (j : ℕ) → j < stem.depth + 1 → get_or (past s keeps ws stem) j 0 ≡ get_or (past s keeps vs stem) j 0 =
    λ j lt. elim (cases_eq j stem.depth) [
      | inl at ↦
          subst (λ (q : ℕ). get_or (past s keeps ws stem) q 0 ≡ get_or (past s keeps vs stem) q 0) (sym at)
          (past-here s keeps ws stem (omega arith) ∙ (leaves ∙ sym (past-here s keeps vs stem (omega arith))))
      | inr other ↦ past-other s keeps ws stem j other ∙ (agree j (omega arith) ∙ sym (past-other s keeps vs stem j other))
    ] in
    let deep' : 250 < length (past s keeps ws stem) = rw length-past deep in
    let same' : length (past s keeps ws stem) ≡ length (past s keeps vs stem) =
    length-past s keeps ws stem ∙ (same ∙ sym (length-past s keeps vs stem)) in
    let tail =
    gains_agree n (stem.depth + 1) s keeps c (past s keeps ws stem) (past s keeps vs stem) stems walk.1
    deep' same' below in
    ap (λ (x : ℕ). x ∷ gains s keeps c (past s keeps ws stem) stems) gives
    ∙ ap (λ (t : List ℕ). gain s keeps c vs stem ∷ t) tail

-- what is given after a subtree hangs only on the weights above it
pub gains_behind :
    (n m a s : ℕ) (keeps : List ℕ) (c : ℕ) (ws vs : List ℕ) (sub rest : List Stem) → IsWalk n m (sub ++ rest)
    → All (λ r. a ≤ r.depth) sub → IsFrom a rest → 250 < length ws → length ws ≡ length vs
    → ((j : ℕ) → j < a → get_or ws j 0 ≡ get_or vs j 0)
    → drop (length sub) (gains s keeps c ws (sub ++ rest)) ≡ gains s keeps c vs rest
gains_behind n m a s keeps c ws vs [] rest walk low from deep same agree =
    gains_agree n a s keeps c ws vs rest (walk_from n m a rest walk from) deep same agree
gains_behind n m a s keeps c ws vs (stem ∷ sub) rest walk low from deep same agree =
    let le : a ≤ stem.depth = low 0 stem (omega arith) in
    gains_behind n (stem.depth + 1) a s keeps c (past s keeps ws stem) vs sub rest walk.1
    (λ k d lt. low (suc k) d (omega arith)) from (rw length-past deep) (length-past s keeps ws stem ∙ same)
    (λ j lt. past-other s keeps ws stem j (omega arith) ∙ agree j lt)

-- a stem that is reached with nothing gives nothing
pub gain-zero :
    (s : ℕ) (keeps : List ℕ) (c : ℕ) (ws : List ℕ) (stem : Stem) → 1 ≤ s → reached ws stem ≡ 0
    → gain s keeps c ws stem ≡ 0
gain-zero s keeps c ws stem pos none =
    ap (λ w. stem.ballots * given s keeps w (stem.candidate ∷ stem.tail) c) none
    ∙ (ap (λ m. stem.ballots * m) (given-nothing s keeps (stem.candidate ∷ stem.tail) c pos) ∙ omega arith)

-- below a stem that leaves nothing, nothing is given
pub gains_zero :
    (n m a s : ℕ) (keeps : List ℕ) (c : ℕ) (ws : List ℕ) (sub rest : List Stem) → IsWalk n m (sub ++ rest)
    → All (λ r. a ≤ r.depth) sub → 1 ≤ s → 250 < length ws → ((j : ℕ) → a ≤ j + 1 → j < m → get_or ws j 0 ≡ 0)
    → (t : ℕ) → t < length sub → get_or (gains s keeps c ws (sub ++ rest)) t 0 ≡ 0
gains_zero n m a s keeps c ws [] rest walk low pos deep zeros t lt = absurd (omega arith)
gains_zero n m a s keeps c ws (stem ∷ sub) rest walk low pos deep zeros zero lt =
    let one : 1 ≤ stem.depth = walk.0.below_root in
    let le : stem.depth ≤ m = walk.0.not_too_deep in
    let from : a ≤ stem.depth = low 0 stem (omega arith) in
    gain-zero s keeps c ws stem pos (zeros (stem.depth - 1) (omega arith) (omega arith))
gains_zero n m a s keeps c ws (stem ∷ sub) rest walk low pos deep zeros (suc t) lt =
    let one : 1 ≤ stem.depth = walk.0.below_root in
    let le : stem.depth ≤ m = walk.0.not_too_deep in
    let shallow : stem.depth ≤ 250 = omega (arith, walk.0.shallow) in
    let from : a ≤ stem.depth = low 0 stem (omega arith) in
    let none : reached ws stem ≡ 0 = zeros (stem.depth - 1) (omega arith) (omega arith) in
    let zeros' : (j : ℕ) → a ≤ j + 1 → j < stem.depth + 1 → get_or (past s keeps ws stem) j 0 ≡ 0 =
    λ j over under. elim (cases_eq j stem.depth) [
      | inl at ↦
          subst (λ (q : ℕ). get_or (past s keeps ws stem) q 0 ≡ 0) (sym at)
          (past-here s keeps ws stem (omega arith) ∙ (ap (λ w. w - kept s keeps w stem.candidate) none ∙ omega arith))
      | inr other ↦ past-other s keeps ws stem j other ∙ zeros j over (omega arith)
    ] in
    gains_zero n (stem.depth + 1) a s keeps c (past s keeps ws stem) sub rest walk.1
    (λ k d lt. low (suc k) d (omega arith)) pos (rw length-past deep) zeros' t (omega arith)

-- numbers that are 0 add nothing
pub sum-drop_zeros :
    (xs : List ℕ) (a t : ℕ) → ((k : ℕ) → a ≤ k → k < a + t → get_or xs k 0 ≡ 0)
    → sum (drop a xs) ≡ sum (drop (a + t) xs)
sum-drop_zeros xs a zero none = ap (λ n. sum (drop n xs)) (omega arith)
sum-drop_zeros xs a (suc t) none =
    let first : sum (drop a xs) ≡ sum (drop (a + 1) xs) =
    elim (cases_lt a (length xs)) [
      | inl lt ↦
          sum_by-drop_more (λ x. x) xs a 0 lt
          ∙ (ap (λ n. n + sum (drop (a + 1) xs)) (none a (omega arith) (omega arith)) ∙ omega arith)
      | inr le ↦ ap sum (drop_all a xs le ∙ sym (drop_all (a + 1) xs (omega arith)))
    ] in
    first
    ∙ (sum-drop_zeros xs (a + 1) t (λ k over under. none k (omega arith) (omega arith))
    ∙ ap (λ n. sum (drop n xs)) (omega arith))
