-- What an election and a defeat leave of the members.
use Rattle.std.proofs.Common.{◌≡◌, ℕ, ◌+◌, ◌-◌, ◌*◌, ◌<◌, ◌≤◌, ◌&&◌, ◌||◌, not, min, Bool, true, false, cond}
use Rattle.std.proofs.Common.{List, [], ◌∷◌, length, get_or, set, arith}
use Rattle.std.proofs.Common.{refl, ap, ◌∙◌, inl, inr}
use Rattle.std.proofs.Math.Nat.{add-mul, lt_of_mul-lt-mul_right}
use Rattle.std.proofs.lemmas.List.Sums.{sum_by-cons}
use Rattle.std.proofs.lemmas.Bool.{cases_lt, le-leb, and_from}
use Rattle.std.proofs.lemmas.List.{get_or-set_other}
use Rattle.std.proofs.lemmas.List.FromFn.{get_or-map-range_with_len, length-map-range_with_len}
use Rattle.candidate_roll.specs.State.{state_at}
use Rattle.candidate_roll.specs.declared.state.State.{State}
use Rattle.candidate_roll.specs.declared.state.State.TheVariants.{Hopeful, Elected as IsNowElected}
use Rattle.candidate_roll.specs.declared.state.State.TheVariants.{Defeated as IsNowDefeated, Withdrawn}
use Rattle.lot_order.specs.Flags.{mark_at}
use Rattle.meek_rule.specs.Places.{count_places}
use Rattle.meek_rule.specs.Situation.{FitsState, is_hopeful, is_elected, elected_count}
use Rattle.meek_rule.specs.Rule.{Rule}
use Rattle.meek_rule.specs.Quota.{has_reached}
use Rattle.meek_rule.specs.Surplus.{holds_seat}
use Rattle.meek_rule.specs.Weights.{given_under, vote_under}
use Rattle.meek_rule.specs.Iteration.{elect}
use Rattle.meek_rule.proofs.TotalLemmas.{given-none}
use Rattle.rule_laws.proofs.Totals.{count-total, one_if, states-total, total, total-add, total-but_one}
use Rattle.rule_laws.proofs.Totals.{total-part, total-same}
use Rattle.rule_laws.proofs.Members.{elected_of, hopeful_of}

-- ELECTION

after_election : (m : Bool) (state : State) (won : Bool) → (won ≡ true → is_hopeful state ≡ true)
    → one_if (m && is_elected (cond won IsNowElected state))
    + one_if (m && is_hopeful (cond won IsNowElected state)) ≡ one_if
    (m && is_elected state) + one_if (m && is_hopeful state)
after_election false state won f = refl
after_election true state false f = refl
after_election true Hopeful true f = refl
after_election true IsNowElected true f = refl
after_election true IsNowDefeated true f = absurd (let off = f refl in cc)
after_election true Withdrawn true f = absurd (let off = f refl in cc)

holds_after : (state : State) (won : Bool) → is_elected (cond won IsNowElected state) ≡ (is_elected state || won)
holds_after Hopeful true = refl
holds_after Hopeful false = refl
holds_after IsNowElected true = refl
holds_after IsNowElected false = refl
holds_after IsNowDefeated true = refl
holds_after IsNowDefeated false = refl
holds_after Withdrawn true = refl
holds_after Withdrawn false = refl

pub elect-at : (states : List State) (marks : List Bool) (p : ℕ) → p < length states
    → state_at (elect states marks) p ≡ cond (mark_at marks p) IsNowElected (state_at states p)
elect-at states marks p inside =
    get_or-map-range_with_len (λ c. cond (mark_at marks c) IsNowElected (state_at states c)) 0 (length states)
    p p Withdrawn inside (omega arith)

pub elect-enough : (n : ℕ) (members : ℕ → Bool) (states : List State) (marks : List Bool) → length states ≡ n
    → ((p : ℕ) → mark_at marks p ≡ true → is_hopeful (state_at states p) ≡ true)
    → elected_of n members (elect states marks) + hopeful_of n members (elect states marks)
    ≡ elected_of n members states + hopeful_of n members states
elect-enough n members states marks same hopeful =
    let new : List State = elect states marks in
    let both : List State → ℕ → ℕ =
    λ x p. one_if (members p && is_elected (state_at x p))
    + one_if (members p && is_hopeful (state_at x p)) in
    let before =
    total-add n (λ p. one_if (members p && is_elected (state_at states p)))
    (λ p. one_if (members p && is_hopeful (state_at states p))) in
    let after =
    total-add n (λ p. one_if (members p && is_elected (state_at new p)))
    (λ p. one_if (members p && is_hopeful (state_at new p))) in
    let each : total n (both new) ≡ total n (both states) =
    total-same n (both new) (both states) (λ p inside.
    ap (λ (x : State). one_if (members p && is_elected x) + one_if (members p && is_hopeful x))
    (elect-at states marks p (omega arith))
    ∙ after_election (members p) (state_at states p) (mark_at marks p) (hopeful p)) in
    omega arith

-- the members and the others who hold seats
split_holds : (m hold : Bool) → one_if (m && hold) + one_if (not m && hold) ≡ one_if hold
split_holds true true = refl
split_holds true false = refl
split_holds false true = refl
split_holds false false = refl

pub elect-holds : (n : ℕ) (members : ℕ → Bool) (states : List State) (marks : List Bool) → length states ≡ n
    → (elected_of n members (elect states marks) ≡ total n (λ p. one_if (members p && holds_seat states marks p)))
    × (elected_of n members (elect states marks)
    + total n (λ p. one_if (not (members p) && holds_seat states marks p))
    ≡ elected_count (elect states marks))
elect-holds n members states marks same =
    let new : List State = elect states marks in
    let holds : ℕ → Bool = holds_seat states marks in
    let at : (p : ℕ) → p < n → is_elected (state_at new p) ≡ holds p =
    λ p inside. ap is_elected (elect-at states marks p (omega arith)) ∙ holds_after (state_at states p) (mark_at marks p) in
    let ours : elected_of n members new ≡ total n (λ p. one_if (members p && holds p)) =
    total-same n (λ p. one_if (members p && is_elected (state_at new p))) (λ p. one_if (members p && holds p))
    (λ p inside. ap (λ (b : Bool). one_if (members p && b)) (at p inside)) in
    let long : length new ≡ n =
    length-map-range_with_len (λ c. cond (mark_at marks c) IsNowElected (state_at states c)) 0
    (length states) ∙ same in
    let all : elected_count new ≡ total n (λ p. one_if (holds p)) =
    states-total is_elected new ∙ (ap (λ (k : ℕ). total k (λ p. one_if (is_elected (state_at new p)))) long
    ∙ total-same n (λ p. one_if (is_elected (state_at new p))) (λ p. one_if (holds p))
    (λ p inside. ap one_if (at p inside))) in
    let split :
    total n (λ p. one_if (members p && holds p) + one_if (not (members p) && holds p))
    ≡ total n (λ p. one_if (holds p)) =
    total-same n (λ p. one_if (members p && holds p) + one_if (not (members p) && holds p)) (λ p. one_if (holds p))
    (λ p inside. split_holds (members p) (holds p)) in
    let parts = total-add n (λ p. one_if (members p && holds p)) (λ p. one_if (not (members p) && holds p)) in
    (ours, omega arith)

-- Where `held` seats are held by others, with a quota each but for `lack`, and the members have so many votes that there is
-- no room for one seat more of others, k members hold seats.
pub seats_taken :
    (q votes seats held ours won k over lack : ℕ) → votes < (seats + 1) * q → held * q + ours ≤ votes + lack
    → lack ≤ over
    → k * q + over ≤ ours → won + held ≡ seats → k ≤ won
seats_taken q votes seats held ours won k over lack few bound within enough all =
    let together : (held + k) * q ≡ held * q + k * q = add-mul held k q in
    let less : (held + k) * q < (seats + 1) * q = omega arith in
    let fewer : held + k < seats + 1 = lt_of_mul-lt-mul_right q less in
    omega arith

-- who was hopeful before an election and after it
pub still_hopeful : (state : State) (won : Bool) → is_hopeful (cond won IsNowElected state) ≡ true → is_hopeful state ≡ true
still_hopeful state false is = is
still_hopeful state true is = absurd (cc)

-- who is not running has no vote
pub keep_out :
    (s : ℕ) (state : State) (keep : ℕ) → (is_hopeful state || is_elected state) ≡ false
    → FitsState s state keep → keep ≡ 0
keep_out s Hopeful keep out fits = absurd (cc)
keep_out s IsNowElected keep out fits = absurd (cc)
keep_out s IsNowDefeated keep out fits = fits
keep_out s Withdrawn keep out fits = fits

pub vote_out : (rule : Rule) (s : ℕ) (keeps : List ℕ) (ballots : List (List ℕ)) (c : ℕ) → 1 ≤ s → get_or keeps (c - 1) 0 ≡ 0
    → vote_under rule s keeps ballots c ≡ 0
vote_out rule s keeps [] c pos out = refl
vote_out rule s keeps (ballot ∷ ballots) c pos out =
    omega (
      arith,
      sum_by-cons (λ (ranking : List ℕ). given_under rule s keeps s ranking c) ballot ballots,
      given-none rule s keeps s ballot c pos out,
      vote_out rule s keeps ballots c pos out,
    )

-- nobody hopeful has the quota where nobody has won and a seat is left
pub none_reached : (n : ℕ) (states : List State) (free : ℕ) (votes : List ℕ) (q : ℕ) → 1 ≤ free
    → 0 ≡ min free (count_places n (has_reached states votes q)) → (p : ℕ) → p < n
    → is_hopeful (state_at states p) ≡ true → get_or votes p 0 < q
none_reached n states free votes q some none p inside is =
    elim (cases_lt (get_or votes p 0) q) [
      | inl less ↦ less
      | inr enough ↦
          let reached : has_reached states votes q p ≡ true =
          and_from (is_hopeful (state_at states p)) _ is (le-leb _ _ enough) in
          let one : one_if (has_reached states votes q p) ≡ 1 = ap one_if reached in
          let part = total-part n p (λ c. one_if (has_reached states votes q c)) inside in
          let counted = count-total n (has_reached states votes q) in
          absurd (omega arith)
    ]

-- DEFEAT

-- where a candidate is no member as many members are hopeful, and otherwise one fewer at most
pub defeat-hopeful : (n : ℕ) (members : ℕ → Bool) (states : List State) (place : ℕ) → length states ≡ n → place < n
    → hopeful_of n members states
    ≤ hopeful_of n members (set states place IsNowDefeated)
    + one_if (members place && is_hopeful (state_at states place))
defeat-hopeful n members states place same inside =
    total-but_one n place (λ p. one_if (members p && is_hopeful (state_at states p)))
    (λ p. one_if (members p && is_hopeful (state_at (set states place IsNowDefeated) p)))
    (λ p below_ other.
    let at : state_at (set states place IsNowDefeated) p ≡ state_at states p =
    get_or-set_other states place p IsNowDefeated Withdrawn other in
    let equal : one_if (members p && is_hopeful (state_at (set states place IsNowDefeated) p)) ≡ one_if
    (members p && is_hopeful (state_at states p)) =
    ap (λ (x : State). one_if (members p && is_hopeful x)) at in
    omega arith)

not_elected : (m : Bool) (state : State) → is_hopeful state ≡ true → one_if (m && is_elected state) ≡ 0
not_elected false state is = refl
not_elected true Hopeful is = refl
not_elected true IsNowElected is = absurd (cc)
not_elected true IsNowDefeated is = absurd (cc)
not_elected true Withdrawn is = absurd (cc)

-- and as many are elected
pub defeat-elected :
    (n : ℕ) (members : ℕ → Bool) (states : List State) (place : ℕ) → length states ≡ n → place < n
    → is_hopeful (state_at states place) ≡ true
    → elected_of n members states ≤ elected_of n members (set states place IsNowDefeated)
defeat-elected n members states place same inside is =
    let most =
    total-but_one n place (λ p. one_if (members p && is_elected (state_at states p)))
    (λ p. one_if (members p && is_elected (state_at (set states place IsNowDefeated) p)))
    (λ p below_ other.
    let at : state_at (set states place IsNowDefeated) p ≡ state_at states p =
    get_or-set_other states place p IsNowDefeated Withdrawn other in
    let equal : one_if (members p && is_elected (state_at (set states place IsNowDefeated) p)) ≡ one_if
    (members p && is_elected (state_at states p)) =
    ap (λ (x : State). one_if (members p && is_elected x)) at in
    omega arith) in
    let none = not_elected (members place) (state_at states place) is in
    omega arith
