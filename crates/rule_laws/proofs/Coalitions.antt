-- Coalitions get their seats. Their votes stay with the members, and where these are k quotas and what any
-- iteration leaves over, each step keeps k members elected or hopeful, to the end. Voters who are more than k
-- shares of all have as much, but for some units.
use Rattle.std.proofs.Common.{◌≡◌, ℕ, ◌+◌, ◌*◌, ◌/◌, ◌<◌, ◌≤◌, ◌&&◌, not, Bool, List, ◌++◌, length, All}
use Rattle.std.proofs.Common.{arith, false}
use Rattle.std.specs.List.Sorted.{IsPermutation}
use Rattle.std.proofs.Math.Nat.{mul-le-mul_left, mul-le-mul_right, le_of_mul-le-mul_right, div-mul-le_self}
use Rattle.fixed_place.specs.Rounding.{scale}
use Rattle.candidate_roll.specs.Roll.{RollList}
use Rattle.candidate_roll.specs.State.{state_at}
use Rattle.candidate_roll.specs.declared.state.State.{State}
use Rattle.lot_order.specs.Flags.{mark_at}
use Rattle.meek_rule.specs.declared.step.Step.TheVariants.{Elected}
use Rattle.meek_rule.specs.Situation.{is_elected, Situation, IsValid, is_complete}
use Rattle.meek_rule.specs.Row.{Row}
use Rattle.meek_rule.specs.Rule.{Rule}
use Rattle.meek_rule.specs.Weights.{votes_under}
use Rattle.meek_count.specs.Laws.{IsElection}
use Rattle.meek_count.specs.Rows.{IsCountUnder}
use Rattle.rule_laws.specs.Coalition.{others_lack, IsSolid, running_members, elected_members, whole_quota}
use Rattle.rule_laws.specs.Coalition.{left_over}
use Rattle.rule_laws.proofs.Totals.{count-total}
use Rattle.rule_laws.proofs.Members.{elected_of, IsWithin}
use Rattle.rule_laws.proofs.Seated.{seated}
use Rattle.rule_laws.proofs.LeftOver.{left_within, one_within}
use Rattle.rule_laws.proofs.SolidBallots.{coalition-stays}
use Rattle.meek_rule.specs.Iteration.{Settle}

-- Where all iterations of the count are fine, and one that is fine leaves over at most so much, a coalition of k quotas
-- and that much gets k seats.
pub coalition_seated :
    (rule : Rule) (places units : ℕ) (ballots coalition others : List (List ℕ)) (roll : RollList) (lots : List ℕ)
    (rows : List Row) (last : List State) (members : List Bool) (k over : ℕ) (fine : Row → Type 0)
    → IsElection places units ballots roll lots → IsPermutation ballots (coalition ++ others)
    → IsCountUnder rule places units ballots roll lots rows last
    → All (IsSolid (length roll.names) roll.withdrawn members) coalition
    → k ≤ running_members (length roll.names) roll.withdrawn members
    → All fine rows
    → ((now : Situation) (row : Row) (next : Situation) → IsValid (scale places) now → is_complete now ≡ false
    → length now.states ≡ length roll.names → now.seats ≡ roll.seats
    → Settle (scale places) now (votes_under rule (scale places) now.keeps ballots (length roll.names)) lots row next
    → fine row
    → IsWithin (length roll.names) (mark_at members) k over now.states
    (votes_under rule (scale places) now.keeps ballots (length roll.names)) row.step row)
    → k * whole_quota (scale places) roll.seats (length ballots) + over ≤ length coalition * scale places
    → k ≤ elected_members (length roll.names) members last
coalition_seated rule places units ballots coalition others roll lots rows last members k over fine is moved counted
    solid running all within enough =
    let n : ℕ = length roll.names in
    let some : k ≤ elected_of n (mark_at members) last =
    seated rule places units ballots roll lots rows last (mark_at members) k (length coalition) over fine is counted all
    (coalition-stays rule places units ballots coalition others roll lots members is moved solid) within
    (omega (arith, running, count-total n (λ p. mark_at members p && not (mark_at roll.withdrawn p)))) enough in
    omega (arith, count-total n (λ p. mark_at members p && is_elected (state_at last p)))

pub count-coalition :
    (rule : Rule) (places units : ℕ) (ballots coalition others : List (List ℕ)) (roll : RollList)
    (lots : List ℕ) (rows : List Row)
    (last : List State)
    (members : List Bool) (k over : ℕ)
    → IsElection places units ballots roll lots → IsPermutation ballots (coalition ++ others)
    → IsCountUnder rule places units ballots roll lots rows last
    → All (IsSolid (length roll.names) roll.withdrawn members) coalition
    → k ≤ running_members (length roll.names) roll.withdrawn members
    → All (λ row. left_over members row.step row ≤ over) rows
    → k * whole_quota (scale places) roll.seats (length ballots) + over ≤ length coalition * scale places
    → k ≤ elected_members (length roll.names) members last
count-coalition rule places units ballots coalition others roll lots rows last members k over is moved counted
    solid running left enough =
    coalition_seated rule places units ballots coalition others roll lots rows last members k over
    (λ row. left_over members row.step row ≤ over) is moved counted solid running left
    (λ now row next valid going long seats settles good.
    left_within (length roll.names) members k over (scale places) now
    (votes_under rule (scale places) now.keeps ballots (length roll.names)) lots row next settles long row.step good)
    enough

-- more than k shares of the ballots are k quotas and what may be left over
pub shares_enough : (s b h k over d : ℕ) → 1 ≤ d → (k + over) * d ≤ s → k * b < h * d → k * (b * s / d + 1) + over ≤ h * s
shares_enough s b h k over d pos small more =
    let x : ℕ = b * s / d in
    let part : k * (b * s / d * d) ≤ k * (b * s) = mul-le-mul_left k (div-mul-le_self (b * s) d) in
    let whole : (k * b + 1) * s ≤ h * d * s = mul-le-mul_right s (omega arith) in
    products (b * s / d) s b h k over d pos part whole small
  where
    products :
        (x s b h k over d : ℕ) → 1 ≤ d → k * (x * d) ≤ k * (b * s) → (k * b + 1) * s ≤ h * d * s
        → (k + over) * d ≤ s → k * (x + 1) + over ≤ h * s
    products x s b h k over d pos part whole small =
        let all : (k * (x + 1) + over) * d ≤ h * s * d = omega arith in
        le_of_mul-le-mul_right all pos

pub count-shares :
    (rule : Rule) (places units : ℕ) (ballots coalition others : List (List ℕ)) (roll : RollList)
    (lots : List ℕ) (rows : List Row)
    (last : List State)
    (members : List Bool) (k over : ℕ)
    → IsElection places units ballots roll lots → IsPermutation ballots (coalition ++ others)
    → IsCountUnder rule places units ballots roll lots rows last
    → All (IsSolid (length roll.names) roll.withdrawn members) coalition
    → k ≤ running_members (length roll.names) roll.withdrawn members
    → All (λ row. left_over members row.step row ≤ over) rows
    → (k + over) * (roll.seats + 1) ≤ scale places
    → k * length ballots < length coalition * (roll.seats + 1)
    → k ≤ elected_members (length roll.names) members last
count-shares rule places units ballots coalition others roll lots rows last members k over is moved counted
    solid running left small more =
    count-coalition rule places units ballots coalition others roll lots rows last members k over is moved
    counted solid running left
    (shares_enough (scale places) (length ballots) (length coalition) k over (roll.seats + 1) (omega arith) small more)

pub count-one_seat :
    (rule : Rule) (places units : ℕ) (ballots coalition others : List (List ℕ)) (roll : RollList)
    (lots : List ℕ) (rows : List Row)
    (last : List State)
    (members : List Bool) (over : ℕ)
    → IsElection places units ballots roll lots → IsPermutation ballots (coalition ++ others)
    → IsCountUnder rule places units ballots roll lots rows last
    → All (IsSolid (length roll.names) roll.withdrawn members) coalition
    → 1 ≤ running_members (length roll.names) roll.withdrawn members
    → All (λ row. row.step ≡ Elected → others_lack members row ≤ over) rows
    → (1 + over) * (roll.seats + 1) ≤ scale places
    → length ballots < length coalition * (roll.seats + 1)
    → 1 ≤ elected_members (length roll.names) members last
count-one_seat rule places units ballots coalition others roll lots rows last members over is moved counted
    solid running left small more =
    coalition_seated rule places units ballots coalition others roll lots rows last members 1 over
    (λ row. row.step ≡ Elected → others_lack members row ≤ over) is moved counted solid running left
    (λ now row next valid going long seats settles good.
    one_within (length roll.names) members over (scale places) now
    (votes_under rule (scale places) now.keeps ballots (length roll.names)) lots row next settles long row.step good)
    (shares_enough (scale places) (length ballots) (length coalition) 1 over (roll.seats + 1) (omega arith)
    small (omega arith))
