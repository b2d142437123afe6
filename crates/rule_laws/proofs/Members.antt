-- Some candidates as the members of a set, and what they have of the votes and the seats.
use Rattle.std.proofs.Common.{◌≡◌, ℕ, ◌+◌, ◌-◌, ◌*◌, ◌<◌, ◌≤◌, ◌&&◌, ◌||◌, not, Bool, true, false, cond, List}
use Rattle.std.proofs.Common.{length, get_or, arith, refl, ap, sym}
use Rattle.std.proofs.Math.Nat.{add-mul}
use Rattle.std.proofs.lemmas.List.FromFn.{get_or-map-range_with_len}
use Rattle.candidate_roll.specs.State.{state_at}
use Rattle.candidate_roll.specs.declared.state.State.{State}
use Rattle.candidate_roll.specs.declared.state.State.TheVariants.{Hopeful, Elected as IsNowElected}
use Rattle.candidate_roll.specs.declared.state.State.TheVariants.{Defeated as IsNowDefeated, Withdrawn}
use Rattle.meek_rule.specs.declared.step.Step.{Step}
use Rattle.meek_rule.specs.declared.step.Step.TheVariants.{Elected, Iterate, Defeat}
use Rattle.meek_rule.specs.Situation.{Situation, IsValid, is_full, is_hopeful, is_elected}
use Rattle.meek_rule.specs.Row.{Row}
use Rattle.meek_rule.specs.Rule.{Rule}
use Rattle.meek_rule.specs.Surplus.{holds_seat}
use Rattle.meek_rule.specs.Weights.{vote_under, votes_under}
use Rattle.rule_laws.specs.Seats.{AllBecome}
use Rattle.rule_laws.proofs.Totals.{one_if, total, total-add, total-le, total-none, total-part, total-same}
use Rattle.rule_laws.proofs.Totals.{total-some, total-times}
use Rattle.rule_laws.proofs.Kept.{of_members}

-- how many members of n candidates are elected, and how many are hopeful
abbrev pub elected_of : (n : ℕ) → (members : ℕ → Bool) → List State → ℕ
elected_of n members states = total n (λ p. one_if (members p && is_elected (state_at states p)))

abbrev pub hopeful_of : (n : ℕ) → (members : ℕ → Bool) → List State → ℕ
hopeful_of n members states = total n (λ p. one_if (members p && is_hopeful (state_at states p)))

-- what elected members have together above a quota for each, and what others who hold seats lack of it
abbrev pub above : (n : ℕ) → (members holds : ℕ → Bool) → (q : ℕ) → (ℕ → ℕ) → ℕ
above n members holds q v =
    total n (λ p. cond (members p && holds p) (v p) 0) - total n (λ p. one_if (members p && holds p)) * q

abbrev pub below : (n : ℕ) → (members holds : ℕ → Bool) → (q : ℕ) → (ℕ → ℕ) → ℕ
below n members holds q v =
    total n (λ p. one_if (not (members p) && holds p)) * q
    - total n (λ p. cond (not (members p) && holds p) (v p) 0)

-- What an iteration leaves over is at most so much; at a defeat that matters only while some members are
-- elected, and fewer than k.
abbrev pub IsWithin : (n : ℕ) → (members : ℕ → Bool) → (k over : ℕ) → List State → List ℕ → Step → Row → Type 0
IsWithin n members k over states votes Elected row =
    below n members (holds_seat states row.elected) row.quota (λ p. get_or votes p 0) ≤ over
IsWithin n members k over states votes (Defeat c) row =
    1 ≤ elected_of n members states → elected_of n members states < k
    → above n members (λ p. is_elected (state_at states p)) row.quota (λ p. get_or votes p 0) ≤ over
IsWithin n members k over states votes Iterate row = Unit {0}

-- While a member is hopeful so many votes are the members'.
abbrev pub VotesStay :
    Rule → (s : ℕ) → List (List ℕ) → (start : List State) → (n : ℕ) → (members : ℕ → Bool) → (h : ℕ) → Type 0
VotesStay rule s ballots start n members h =
    (now : Situation) → IsValid s now → length now.states ≡ n → AllBecome start now.states
    → (p : ℕ) → p < n → members p ≡ true → is_hopeful (state_at now.states p) ≡ true
    → h * s ≤ total n (of_members members (λ c. vote_under rule s now.keeps ballots (c + 1)))

-- What holds all along: k members are elected or hopeful, and elected where the seats are taken.
pub record Stands (start : List State) (n : ℕ) (members : ℕ → Bool) (seats k : ℕ) (now : Situation) : Type 0 where
  pub as_long : length now.states ≡ n
  pub as_many : now.seats ≡ seats
  pub from_start : AllBecome start now.states
  pub enough : k ≤ elected_of n members now.states + hopeful_of n members now.states
  pub at_full : is_full now ≡ true → k ≤ elected_of n members now.states

-- the members' votes and those of others who hold seats are part of all
seat_point : (m hold : Bool) (v : ℕ) → cond (not m && hold) v 0 + cond m v 0 ≤ v
seat_point true hold v = omega arith
seat_point false true v = omega arith
seat_point false false v = omega arith

pub seats_bound : (n q : ℕ) (members holds : ℕ → Bool) (v : ℕ → ℕ)
    → total n (λ p. one_if (not (members p) && holds p)) * q + total n (of_members members v)
    ≤ total n v + below n members holds q v
seats_bound n q members holds v =
    let theirs : ℕ → ℕ = λ p. cond (not (members p) && holds p) (v p) 0 in
    let each : total n (λ p. theirs p + of_members members v p) ≤ total n v =
    total-le n (λ p. theirs p + of_members members v p) v (λ p inside. seat_point (members p) (holds p) (v p)) in
    let parts = total-add n theirs (of_members members v) in
    least (total n (λ p. one_if (not (members p) && holds p)) * q) (total n theirs)
    (total n (of_members members v)) (total n v) (omega arith)
  where
    least : (quotas theirs ours all : ℕ) → theirs + ours ≤ all → quotas + ours ≤ all + (quotas - theirs)
    least quotas theirs ours all le = omega arith

-- where no hopeful member has the quota
defeat_point :
    (m : Bool) (state : State) (q v : ℕ) → (is_hopeful state ≡ true → v < q)
    → ((is_hopeful state || is_elected state) ≡ false → v ≡ 0)
    → cond m v 0 + one_if (m && is_hopeful state) ≤ one_if (m && is_hopeful state) * q + cond (m && is_elected state) v 0
defeat_point false state q v less none = omega arith
defeat_point true Hopeful q v less none = omega (arith, less refl)
defeat_point true IsNowElected q v less none = omega arith
defeat_point true IsNowDefeated q v less none = omega (arith, none refl)
defeat_point true Withdrawn q v less none = omega (arith, none refl)

pub defeat_bound : (n q : ℕ) (members : ℕ → Bool) (states : List State) (v : ℕ → ℕ)
    → ((p : ℕ) → p < n → is_hopeful (state_at states p) ≡ true → v p < q)
    → ((p : ℕ) → p < n → (is_hopeful (state_at states p) || is_elected (state_at states p)) ≡ false → v p ≡ 0)
    → total n (of_members members v) + hopeful_of n members states
    ≤ (elected_of n members states + hopeful_of n members states) * q + above n members
    (λ p. is_elected (state_at states p)) q v
defeat_bound n q members states v less none =
    let ho : ℕ → ℕ = λ p. one_if (members p && is_hopeful (state_at states p)) in
    let theirs : ℕ → ℕ = λ p. cond (members p && is_elected (state_at states p)) (v p) 0 in
    let each : total n (λ p. of_members members v p + ho p) ≤ total n (λ p. ho p * q + theirs p) =
    total-le n (λ p. of_members members v p + ho p) (λ p. ho p * q + theirs p)
    (λ p inside. defeat_point (members p) (state_at states p) q (v p) (less p inside) (none p inside)) in
    let left = total-add n (of_members members v) ho in
    let right = total-add n (λ p. ho p * q) theirs in
    let times = total-times n q ho in
    let split = add-mul (elected_of n members states) (hopeful_of n members states) q in
    most (total n (of_members members v) + hopeful_of n members states) (hopeful_of n members states * q)
    (elected_of n members states * q)
    (total n theirs) ((elected_of n members states + hopeful_of n members states) * q) (omega arith) split
  where
    most :
        (all hopeful quotas theirs both : ℕ) → all ≤ hopeful + theirs → both ≡ quotas + hopeful
        → all ≤ both + (theirs - quotas)
    most all hopeful quotas theirs both le split = omega arith

-- who are not elected have nothing above a quota
pub none_above : (n : ℕ) (members : ℕ → Bool) (states : List State) (q : ℕ) (v : ℕ → ℕ) → elected_of n members states ≡ 0
    → above n members (λ p. is_elected (state_at states p)) q v ≡ 0
none_above n members states q v none =
    let nothing = total-none n (λ p. cond (members p && is_elected (state_at states p)) (v p) 0) (λ p inside.
    point (members p && is_elected (state_at states p)) (v p)
    (let part = total-part n p (λ c. one_if (members c && is_elected (state_at states c)))
    inside in omega arith)) in
    less (total n (λ p. cond (members p && is_elected (state_at states p)) (v p) 0))
    (elected_of n members states * q) (omega arith)
  where
    point : (t : Bool) (k : ℕ) → one_if t ≡ 0 → cond t k 0 ≡ 0
    point true k none = absurd (omega arith)
    point false k none = refl

    less : (a b : ℕ) → a ≡ 0 → a - b ≡ 0
    less a b none = omega arith

-- somebody among the members is hopeful
pub some_hopeful : (n : ℕ) (members : ℕ → Bool) (states : List State) → 1 ≤ hopeful_of n members states
    → (p : ℕ) × (p < n) × (members p ≡ true) × (is_hopeful (state_at states p) ≡ true)
some_hopeful n members states some =
    let one = total-some n (λ p. one_if (members p && is_hopeful (state_at states p))) some in
    let both = both_hold (members one.0) (is_hopeful (state_at states one.0)) one.2 in
    (one.0, one.1, both.0, both.1)
  where
    both_hold : (a b : Bool) → 1 ≤ one_if (a && b) → (a ≡ true) × (b ≡ true)
    both_hold true true is = (refl, refl)
    both_hold true false is = absurd (omega arith)
    both_hold false b is = absurd (omega arith)

-- the votes by places are what the ballots give
pub votes-at : (rule : Rule) (s : ℕ) (keeps : List ℕ) (ballots : List (List ℕ)) (n : ℕ) (members : ℕ → Bool)
    → total n (of_members members (λ c. vote_under rule s keeps ballots (c + 1))) ≡ total n
    (of_members members (λ p. get_or (votes_under rule s keeps ballots n) p 0))
votes-at rule s keeps ballots n members =
    total-same n (of_members members (λ c. vote_under rule s keeps ballots (c + 1)))
    (of_members members (λ p. get_or (votes_under rule s keeps ballots n) p 0))
    (λ p inside. ap (λ (k : ℕ). cond (members p) k 0)
    (sym (get_or-map-range_with_len (λ c. vote_under rule s keeps ballots (c + 1)) 0 n p p 0 inside
    (omega arith))))
