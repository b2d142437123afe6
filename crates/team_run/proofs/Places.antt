-- The versions of all teams by their places, of which no two are the same.
use Rattle.std.proofs.Common.{◌≡◌, ◌≢◌, ℕ, suc, ◌+◌, ◌<◌, ◌≤◌, List, [], ◌∷◌, length, map, slice_index_or}
use Rattle.std.proofs.Common.{count_by, All, AllPairs, Any, IsPermutation, refl, sym, ◌∙◌, arith}
use Rattle.std.proofs.Common.{length-append, nat_eq}
use Rattle.std.specs.List.{flat_map}
use Rattle.std.specs.List.Sorted.{IsNonDecreasingBy}
use Rattle.std.proofs.lemmas.Bool.Decides.{Decides-eqb}
use Rattle.std.proofs.lemmas.List.{get_or-map, length-map}
use Rattle.std.proofs.lemmas.List.Elements.{All-nil, All-head, All-tail, All-append, All-weaker}
use Rattle.std.proofs.lemmas.List.Sums.{sum_by-append}
use Rattle.std.proofs.lemmas.List.Sorted.{IsPermutation-map, All-permutation, length_permutation}
use Rattle.std.proofs.lemmas.Map.Keys.{IsDistinct-IsPermutation}
use Rattle.std.proofs.lemmas.Map.Made.{IsDistinct-from_AllPairs, AllPairs-from_IsDistinct}
use Rattle.day_reader.specs.declared.script.Script.{Script}
use Rattle.day_reader.specs.Call.{is_freeze, freezes}
use Rattle.shard_office.specs.Sight.{Sight, GoesOn}
use Rattle.shard_office.specs.Passes.{PassState}
use Rattle.frozen_version.specs.Versions.{VersionState}
use Rattle.team_run.specs.declared.team.Team.{Team}
use Rattle.team_run.specs.Teams.{script_of, RisesFrom, FrozeAt, IsFreezeOf, AreVersionsOf}
use Rattle.team_run.specs.Runs.{freezes_of, passes_of, versions_of, place_of}
use Rattle.team_run.proofs.Lists.{no_pairs, pairs_append}
use Rattle.team_run.proofs.Sights.{froze_stays, one_caller}
use Rattle.team_run.proofs.Ran.{HasWork}

-- one version for each freeze
as_many_as :
    (teams : List Team) → All HasWork teams
    → length (flat_map versions_of teams) ≡ freezes (map script_of (passes_of teams))
as_many_as [] work = refl
as_many_as (team ∷ teams) work =
    let rest = as_many_as teams (All-tail HasWork team teams work) in
    let here = (All-head HasWork team teams work).as_many in
    let both = length-append (versions_of team) (flat_map versions_of teams) in
    let sums :
    freezes (map script_of (passes_of (team ∷ teams)))
    ≡ 0 + freezes_of team.pass + freezes (map script_of (passes_of teams)) =
    sum_by-append (λ (script : Script). count_by is_freeze script.calls) (script_of team.pass ∷ [])
    (map script_of (passes_of teams)) in
    omega (arith, rest, here, both, sums)

abbrev IsOfOne : List PassState → VersionState → Type 0
IsOfOne passes v = Any (λ (pass : PassState). IsFreezeOf pass v) passes

each_of_one : (teams : List Team) → All HasWork teams → All (IsOfOne (passes_of teams)) (flat_map versions_of teams)
each_of_one [] work = All-nil (IsOfOne [])
each_of_one (team ∷ teams) work =
    All-append (IsOfOne (passes_of (team ∷ teams))) (versions_of team) (flat_map versions_of teams)
    (All-weaker (IsFreezeOf team.pass) (IsOfOne (passes_of (team ∷ teams)))
    (λ v f. (0, team.pass, (omega arith), refl, f)) (versions_of team) (All-head HasWork team teams work).each)
    (All-weaker (IsOfOne (passes_of teams)) (IsOfOne (passes_of (team ∷ teams)))
    (λ v any. (suc any.0, any.1, (let h = any.2 in omega arith), any.3, any.4)) (flat_map versions_of teams)
    (each_of_one teams (All-tail HasWork team teams work)))

abbrev Differ : VersionState → VersionState → Type 0
Differ v w = v.at ≢ w.at

module _ (sight : Sight) where
  abbrev pub Begins : PassState → Type 0
  Begins pass = GoesOn pass.sight sight

  -- a version of a caller with a number above n
  abbrev IsLater : ℕ → VersionState → Type 0
  IsLater n v = (q : ℕ) × (n < q) × FrozeAt sight q v

  here : (team : Team) → HasWork team → Begins team.pass → All (FrozeAt sight team.pass.caller) (versions_of team)
  here team work begins =
      All-weaker (IsFreezeOf team.pass) (FrozeAt sight team.pass.caller)
      (λ v f. froze_stays team.pass.sight sight team.pass.caller v f.froze begins) (versions_of team) work.each

  later :
      (n : ℕ) (teams : List Team) → RisesFrom n (map script_of (passes_of teams)) → All HasWork teams
      → All Begins (passes_of teams)
      → All (IsLater n) (flat_map versions_of teams)
  later n [] rises work begins = All-nil (IsLater n)
  later n (team ∷ teams) rises work begins =
      All-append (IsLater n) (versions_of team) (flat_map versions_of teams)
      (All-weaker (FrozeAt sight team.pass.caller) (IsLater n) (λ v f. (team.pass.caller, rises.0, f)) (versions_of team)
      (here team (All-head HasWork team teams work) (All-head Begins team.pass (passes_of teams) begins)))
      (All-weaker (IsLater team.pass.caller) (IsLater n)
      (λ v l. (l.0, (let a = rises.0 in let b = l.1 in omega arith), l.2)) (flat_map versions_of teams)
      (later team.pass.caller teams rises.1 (All-tail HasWork team teams work)
      (All-tail Begins team.pass (passes_of teams) begins)))

  all_differ :
      (n : ℕ) (teams : List Team) → RisesFrom n (map script_of (passes_of teams)) → All HasWork teams
      → All Begins (passes_of teams)
      → AllPairs Differ (flat_map versions_of teams)
  all_differ n [] rises work begins = no_pairs Differ
  all_differ n (team ∷ teams) rises work begins =
      let mine = All-head HasWork team teams work in
      let seen = All-head Begins team.pass (passes_of teams) begins in
      let works = All-tail HasWork team teams work in
      let sees = All-tail Begins team.pass (passes_of teams) begins in
      pairs_append Differ (versions_of team) (flat_map versions_of teams)
      (λ i j d before inside same. let less = mine.rising i j d before inside in absurd (omega (arith, less, same)))
      (all_differ team.pass.caller teams rises.1 works sees)
      (All-weaker (FrozeAt sight team.pass.caller) (λ (v : VersionState). All (Differ v) (flat_map versions_of teams))
      (λ v f. All-weaker (IsLater team.pass.caller) (Differ v)
      (λ w l same. let equal =
      one_caller sight team.pass.caller l.0 v w f l.2 same in
      let less = l.1 in absurd (omega (arith, equal, less)))
      (flat_map versions_of teams) (later team.pass.caller teams rises.1 works sees))
      (versions_of team) (here team mine seen))

turned : (x y : ℕ) → nat_eq x y ≡ nat_eq y x
turned x y = grind arith

strictly : (n m : ℕ) → n ≤ m → n ≢ m → n < m
strictly n m most differ = omega (arith, most, differ)

-- the versions in order
in_order :
    (versions sorted : List VersionState) → AllPairs Differ versions → IsPermutation versions sorted
    → IsNonDecreasingBy place_of sorted
    → AllPairs (λ v w. v.at < w.at) sorted
in_order versions sorted differ moved ordered =
    let places : AllPairs (λ a b. a ≢ b) (map place_of versions) = λ i j d before inside same.
    let long = length-map versions place_of in
    let here : i < length versions = omega (arith, before, inside, long) in
    let there : j < length versions = omega (arith, inside, long) in
    let none : VersionState = record { at = 0; candidates = 0; plans = []; struck = [] } in
    differ i j none before there (sym (get_or-map place_of versions i none d here)
    ∙ (same ∙ get_or-map place_of versions j none d there)) in
    let moved_places = AllPairs-from_IsDistinct Decides-eqb (map place_of sorted)
    (IsDistinct-IsPermutation nat_eq turned (map place_of versions) (map place_of sorted)
    (IsPermutation-map place_of versions sorted moved)
    (IsDistinct-from_AllPairs Decides-eqb (map place_of versions) places)) in
    λ i j d before inside.
    let here : i < length sorted = omega (arith, before, inside) in
    let most = ordered i j d (omega (arith, before)) inside in
    let long = length-map sorted place_of in
    let not = moved_places i j 0 before (omega (arith, inside, long)) in
    let one = get_or-map place_of sorted i d 0 here in
    let other = get_or-map place_of sorted j d 0 inside in
    strictly (slice_index_or sorted i d).at (slice_index_or sorted j d).at most (λ same. not (one ∙ (same ∙ sym other)))

pub are_versions :
    (sight : Sight) (teams : List Team) (sorted : List VersionState) → All HasWork teams
    → RisesFrom 0 (map script_of (passes_of teams))
    → All (Begins sight) (passes_of teams) → IsPermutation (flat_map versions_of teams) sorted
    → IsNonDecreasingBy place_of sorted
    → AreVersionsOf (passes_of teams) sorted
are_versions sight teams sorted work rises begins moved ordered =
    let many = as_many_as teams work in
    let same = length_permutation (flat_map versions_of teams) sorted moved in
    record {
      as_many = same ∙ many;
      rising = in_order (flat_map versions_of teams) sorted (all_differ sight 0 teams rises work begins) moved ordered;
      each = All-permutation (IsOfOne (passes_of teams)) (flat_map versions_of teams) sorted moved (each_of_one teams work);
    }
