-- What lanes count together.
use Rattle.std.proofs.Common.{◌≡◌, ℕ, ◌+◌, ◌-◌, ◌*◌, ◌/◌, ◌<◌, ◌≤◌, List, [], ◌∷◌, length, get_or, drop}
use Rattle.std.proofs.Common.{take, sum, sum_by, replicate, arith, refl, ap, sym, subst, ◌∙◌, zero, suc}
use Rattle.std.specs.List.{All}
use Rattle.std.proofs.lemmas.List.{append-nil, length-replicate, get_or-set_same, get_or-map, length-map}
use Rattle.std.proofs.lemmas.List.{length-set, take-take, take_all}
use Rattle.std.proofs.Math.Nat.{add-mul, mul-le-mul_right, mul-le-mul_left, zero-div, div-mul-le_self}
use Rattle.std.proofs.Math.Nat.{lt_of_mul-lt-mul_right, mul-div_cancel}
use Rattle.std.proofs.lemmas.List.FromFn.{fill_by_all}
use Rattle.std.proofs.lemmas.List.Sums.{sum_by-cons, sum_by_more, sum_by-take-drop}
use Rattle.meek_rule.specs.Weights.{given, vote, votes}
use Rattle.meek_rule.proofs.WeightLemmas.{given-le}
use Rattle.vote_spread.specs.Stem.{Stem}
use Rattle.vote_spread.specs.Walk.{IsWalk}
use Rattle.vote_spread.specs.Gain.{gains, opening}
use Rattle.vote_spread.specs.Packed.{StandFor}
use Rattle.vote_spread.specs.declared.class.Class.{Class}
use Rattle.vote_spread.specs.KeepingSeen.{KeepingSeen, TakesOver}
use Rattle.vote_spread.specs.Rows.{StandForPart}
use Rattle.shared_work.specs.Shares.{share}
use Rattle.vote_spread.specs.Shares.{share_of, CanCount, HasCounted}
use Rattle.vote_spread.specs.LaneSeen.{LaneSeen, tallies_of, HaveRun}
use Rattle.vote_spread.specs.Lanes.{LanesSeen, AreLoaded, AreReady, HaveCounted}
use Rattle.vote_spread.proofs.GainLemmas.{length-gains}

-- the stems give each candidate its vote
pub stems_give :
    (n s : ℕ) (stems : List Stem) (ballots : List (List ℕ)) (keeps : List ℕ) (c : ℕ)
    → StandFor n 1 stems ballots → sum (gains s keeps c (opening s) stems) ≡ vote s keeps ballots c
stems_give n s stems ballots keeps c stand =
    let fresh : length (opening s) ≡ 251 = length-set (replicate 251 0) 0 s ∙ length-replicate {A = ℕ} 251 0 in
    let first : get_or (opening s) (1 - 1) 0 ≡ s =
    get_or-set_same (replicate 251 0) 0 s 0 (omega (arith, length-replicate {A = ℕ} 251 0)) in
    ap (λ l. sum (gains s keeps c (opening s) l)) (sym (append-nil stems))
    ∙ (stand.gives s keeps c (opening s) [] tt tt (omega arith)
    ∙ (ap (λ w. sum_by (λ r. given s keeps w r c) ballots + 0) first ∙ omega arith))

pub stems_walk : (n : ℕ) (stems : List Stem) (ballots : List (List ℕ)) → StandFor n 1 stems ballots → IsWalk n 1 stems
stems_walk n stems ballots stand = subst (IsWalk n 1) (append-nil stems) (stand.walk [] tt tt)

-- ballots give no more than a vote each
given_by_all-le :
    (s : ℕ) (keeps : List ℕ) (c : ℕ) (ballots : List (List ℕ)) → 1 ≤ s → All (λ k. k ≤ s) keeps
    → vote s keeps ballots c ≤ length ballots * s
given_by_all-le s keeps c [] pos bound = omega arith
given_by_all-le s keeps c (ballot ∷ ballots) pos bound =
    let here = given-le s keeps s ballot c pos bound in
    let rest = given_by_all-le s keeps c ballots pos bound in
    let a = sum_by-cons (λ r. given s keeps s r c) ballot ballots in
    let l : length (ballot ∷ ballots) ≡ length ballots + 1 = omega arith in
    let m : length (ballot ∷ ballots) * s ≡ length ballots * s + s =
    ap (λ q. q * s) l ∙ (add-mul (length ballots) 1 s ∙ omega arith) in
    omega arith

-- a vote is an amount
pub vote-le :
    (s most : ℕ) (keeps : List ℕ) (ballots : List (List ℕ)) (c : ℕ) → 1 ≤ s → 1000000000 * s ≡ most
    → All (λ k. k ≤ s) keeps → length ballots ≤ 999999999 → vote s keeps ballots c ≤ most
vote-le s most keeps ballots c pos whole bound few =
    let le = given_by_all-le s keeps c ballots pos bound in
    let together : length ballots * s ≤ 1000000000 * s = mul-le-mul_right s (omega arith) in
    omega arith

-- lanes that are ready can count
pub can_count :
    (ballots : List (List ℕ)) (stems : List Stem) (keeping : KeepingSeen) (lanes : List LaneSeen)
    → 1 ≤ keeping.one → keeping.one ≤ 1000000000 → AreReady ballots stems keeping lanes
    → CanCount keeping stems
can_count ballots stems keeping lanes pos small ready =
    let s = keeping.one in
    let keeps = keeping.keeps in
    let word : 1000000000 * s ≤ 1000000000 * 1000000000 = mul-le-mul_left 1000000000 small in
    record {
      whole = pos;
      walk = stems_walk (length keeps) stems ballots ready.stand;
      room =
          λ p lt.
          let le =
          vote-le s (1000000000 * s) keeps ballots (p + 1) pos refl ready.at_most_one
          ready.few_ballots in
          omega (arith, stems_give (length keeps) s stems ballots keeps (p + 1) ready.stand);
    }

-- and so they are once they took over other keep values
pub ready_again :
    (ballots : List (List ℕ)) (stems : List Stem) (old new : KeepingSeen) (lanes : List LaneSeen)
    → (given : List ℕ) → length given ≡ length old.keeps → TakesOver given old new
    → AreReady ballots stems old lanes → AreReady ballots stems new lanes
ready_again ballots stems old new lanes given as_many over ready =
    let same : length old.keeps ≡ length new.keeps = sym (ap length over.taken ∙ as_many) in
    record {
      stand = subst (λ n. StandFor n 1 stems ballots) same ready.stand;
      few_ballots = ready.few_ballots;
      at_most_one = over.at_most_one;
      some = ready.some;
      few = ready.few;
      of_all = subst (λ (n : ℕ). All (λ (lane : LaneSeen). length lane.tally ≡ n) lanes) same ready.of_all;
      fit =
          record {
            each =
                λ k d lt. record {
                  room = (ready.fit.each k d lt).room;
                  rows =
                      λ e.
                      subst
                      (λ (classes : List Class). StandForPart classes stems
                      (share (length stems) (0 + k) (length lanes))
                      (share (length stems) (0 + k + 1) (length lanes)) (get_or lanes k d).rows)
                      (sym (over.fresh e).1) ((ready.fit.each k d lt).rows (over.fresh e).0);
                };
          };
    }

-- no share begins before the one before it
near : (a b n : ℕ) → 1 ≤ n → a ≤ b → a / n * n < (b / n + 1) * n
near a b n some le = omega (arith, div-mul-le_self a n)

pub share_rises : (len k lanes : ℕ) → 1 ≤ lanes → share len k lanes ≤ share len (k + 1) lanes
share_rises len k lanes some =
    let le : len * k ≤ len * (k + 1) = mul-le-mul_left len (omega arith) in
    let less : len * k / lanes * lanes < (len * (k + 1) / lanes + 1) * lanes =
    near (len * k) (len * (k + 1)) lanes some le in
    let q : len * k / lanes < len * (k + 1) / lanes + 1 = lt_of_mul-lt-mul_right lanes less in
    omega arith

-- what two parts after each other give together
parts_together : (xs : List ℕ) (a b : ℕ) → a ≤ b → sum (take a xs) + sum (drop a (take b xs)) ≡ sum (take b xs)
parts_together xs a b le =
    ap (λ (l : List ℕ). sum l + sum (drop a (take b xs))) (sym (take-take a b xs le))
    ∙ sum_by-take-drop (λ x. x) (take b xs) a

-- what candidate c gets from the first k shares
abbrev up_to : (s : ℕ) (keeps : List ℕ) (c : ℕ) → List Stem → (k lanes : ℕ) → ℕ
up_to s keeps c stems k lanes = sum (take (share (length stems) k lanes) (gains s keeps c (opening s) stems))

first_lanes :
    (s : ℕ) (keeps : List ℕ) (stems : List Stem) (p lanes : ℕ) (tallies : List (List ℕ)) (d : List ℕ) (m : ℕ)
    → 1 ≤ lanes → m ≤ length tallies
    → ((k : ℕ) → k < length tallies
    → get_or (get_or tallies k d) p 0 ≡ share_of s keeps (p + 1) stems k lanes)
    → sum_by (λ tally. get_or tally p 0) (take m tallies) ≡ up_to s keeps (p + 1) stems m lanes
first_lanes s keeps stems p lanes tallies d zero some le each =
    let len = length stems in
    let none : len * 0 ≡ 0 = omega arith in
    sym (ap (λ m. sum (take m (gains s keeps (p + 1) (opening s) stems))) (ap (λ m. m / lanes) none ∙ zero-div lanes))
first_lanes s keeps stems p lanes tallies d (suc m) some le each =
    let f : List ℕ → ℕ = λ tally. get_or tally p 0 in
    let len = length stems in
    let before = first_lanes s keeps stems p lanes tallies d m some (omega arith) each in
    let next : suc m ≡ m + 1 = omega arith in
    let more : sum_by f (take (m + 1) tallies) ≡ sum_by f (take m tallies) + f (get_or tallies m d) =
    sum_by_more f tallies m d (omega arith) in
    let here = each m (omega arith) in
    let both =
    parts_together (gains s keeps (p + 1) (opening s) stems) (share len m lanes) (share len (m + 1) lanes)
    (share_rises len m lanes some) in
    subst (λ (q : ℕ). sum_by f (take q tallies) ≡ up_to s keeps (p + 1) stems q lanes) (sym next) (omega arith)

-- what stands past the end of lanes
none : LaneSeen
none = record { tally = []; rows = []; room = 0 }

-- all lanes together count the votes
pub lanes_vote :
    (ballots : List (List ℕ)) (stems : List Stem) (keeping : KeepingSeen) (lanes : List LaneSeen) (p : ℕ)
    → 1 ≤ length lanes → p < length keeping.keeps → StandFor (length keeping.keeps) 1 stems ballots
    → HaveRun keeping stems 0 (length lanes) lanes
    → sum_by (λ tally. get_or tally p 0) (tallies_of lanes) ≡ vote keeping.one keeping.keeps ballots (p + 1)
lanes_vote ballots stems keeping lanes p some below stand run =
    let s = keeping.one in
    let keeps = keeping.keeps in
    let n = length lanes in
    let tallies = tallies_of lanes in
    let many : length tallies ≡ n = length-map lanes (λ (l : LaneSeen). l.tally) in
    let xs = gains s keeps (p + 1) (opening s) stems in
    let f : List ℕ → ℕ = λ tally. get_or tally p 0 in
    let each : (k : ℕ) → k < length tallies → f (get_or tallies k []) ≡ share_of s keeps (p + 1) stems k n =
    λ k lt.
    let inside : k < n = omega arith in
    let same : 0 + k ≡ k = omega arith in
    ap f (get_or-map (λ (l : LaneSeen). l.tally) lanes k none [] inside)
    ∙ (subst (λ (q : ℕ). HasCounted keeping stems q n (get_or lanes k none).tally) same
    (run.each k none inside)).share p below in
    let whole : share (length stems) n n ≡ length stems = mul-div_cancel (length stems) some in
    let long = length-gains s keeps (p + 1) (opening s) stems in
    ap (sum_by f) (sym (take_all n tallies (omega arith)))
    ∙ (first_lanes s keeps stems p n tallies [] n some (omega arith) each
    ∙ (ap (λ m. sum (take m xs)) whole
    ∙ (ap sum (take_all (length stems) xs (omega arith)) ∙ stems_give (length keeps) s stems ballots keeps (p + 1) stand)))

-- what lanes over these ballots are seen as
abbrev pub seen_of : (ballots : List (List ℕ)) → KeepingSeen → List LaneSeen → LanesSeen
seen_of ballots keeping lanes =
    record { scale = keeping.one; ballots = ballots; keeps = keeping.keeps; tallies = tallies_of lanes }

-- lanes that have run have counted
pub have_counted :
    (ballots : List (List ℕ)) (stems : List Stem) (keeping : KeepingSeen) (before new : List LaneSeen)
    → AreReady ballots stems keeping before → length new ≡ length before
    → HaveRun keeping stems 0 (length before) new
    → HaveCounted (seen_of ballots keeping before) (seen_of ballots keeping new)
have_counted ballots stems keeping before new ready many run = record {
  same_scale = refl;
  same_ballots = refl;
  same_keeps = refl;
  votes =
      λ p lt.
      lanes_vote ballots stems keeping new p (omega (arith, ready.some)) lt ready.stand
      (subst (λ q. HaveRun keeping stems 0 q new) (sym many) run);
}

-- the sum over the lanes' tallies
pub sum_tallies :
    (p : ℕ) (lanes : List LaneSeen)
    → sum_by (λ tally. get_or tally p 0) (tallies_of lanes)
    ≡ sum_by (λ (lane : LaneSeen). get_or lane.tally p 0) lanes
sum_tallies p [] = refl
sum_tallies p (lane ∷ lanes) =
    omega (
      arith,
      sum_tallies p lanes,
      sum_by-cons (λ (tally : List ℕ). get_or tally p 0) lane.tally (tallies_of lanes),
      sum_by-cons (λ (l : LaneSeen). get_or l.tally p 0) lane lanes,
    )

-- what lanes that were loaded have counted
pub loaded_votes :
    (s : ℕ) (keeps : List ℕ) (old loaded new : LanesSeen) → old.scale ≡ s → AreLoaded keeps old loaded
    → HaveCounted loaded new → (p : ℕ) → p < length keeps
    → sum_by (λ tally. get_or tally p 0) new.tallies ≡ vote s keeps old.ballots (p + 1)
loaded_votes s keeps old loaded new at load ran p lt =
    ran.votes p (omega (arith, ap length load.loaded))
    ∙ (ap (λ q. vote q loaded.keeps loaded.ballots (p + 1)) (load.same_scale ∙ at)
    ∙ (ap (λ k. vote s k loaded.ballots (p + 1)) load.loaded ∙ ap (λ b. vote s keeps b (p + 1)) load.same_ballots))

-- and it is an amount
pub loaded_votes-le :
    (s most : ℕ) (keeps : List ℕ) (old loaded new : LanesSeen) → 1 ≤ s → 1000000000 * s ≡ most → old.scale ≡ s
    → AreLoaded keeps old loaded → HaveCounted loaded new → (p : ℕ) → p < length keeps
    → sum_by (λ tally. get_or tally p 0) new.tallies ≤ most
loaded_votes-le s most keeps old loaded new pos whole at load ran p lt =
    let bound : All (λ k. k ≤ s) keeps =
    subst (λ (k : List ℕ). All (λ q. q ≤ s) k) load.loaded
    (subst (λ m. All (λ q. q ≤ m) loaded.keeps) (load.same_scale ∙ at) load.at_most_one) in
    let few : length old.ballots ≤ 999999999 =
    subst (λ (b : List (List ℕ)). length b ≤ 999999999) load.same_ballots load.few in
    subst (λ m. m ≤ most) (sym (loaded_votes s keeps old loaded new at load ran p lt))
    (vote-le s most keeps old.ballots (p + 1) pos whole bound few)

-- votes by places are the votes
pub votes_of_places :
    (s : ℕ) (keeps : List ℕ) (ballots : List (List ℕ)) (tally : List ℕ) (n : ℕ) → length tally ≡ n
    → ((p : ℕ) → p < n → get_or tally p 0 ≡ vote s keeps ballots (p + 1)) → tally ≡ votes s keeps ballots n
votes_of_places s keeps ballots tally n same at = fill_by_all (λ p. vote s keeps ballots (p + 1)) tally n 0 same at
