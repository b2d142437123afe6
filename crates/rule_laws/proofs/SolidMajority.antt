-- With one seat, of candidates whom more than half of the voters rank above all others one is elected. The votes
-- of these voters are a quota of one seat. Nothing is left over, so they need no more than that.
use Rattle.std.proofs.Common.{◌≡◌, ℕ, ◌+◌, ◌*◌, ◌/◌, ◌<◌, ◌≤◌, Bool, List, ◌++◌, length, All, arith}
use Rattle.std.proofs.Common.{refl, sym, subst, ◌∙◌}
use Rattle.std.specs.List.Sorted.{IsPermutation}
use Rattle.std.proofs.Math.Nat.{add-mul, mul-le-mul_right, div-lt_iff_lt-mul}
use Rattle.fixed_place.specs.Rounding.{scale}
use Rattle.fixed_place.proofs.RoundingLemmas.{scale_pos}
use Rattle.candidate_roll.specs.Roll.{RollList}
use Rattle.candidate_roll.specs.declared.state.State.{State}
use Rattle.lot_order.specs.Flags.{mark_at}
use Rattle.meek_rule.specs.Row.{Row}
use Rattle.meek_rule.specs.Rule.{Rule}
use Rattle.meek_rule.specs.Weights.{votes_under}
use Rattle.meek_count.specs.Laws.{IsElection}
use Rattle.meek_count.specs.Rows.{IsCountUnder}
use Rattle.rule_laws.specs.Coalition.{IsSolid, running_members, elected_members, whole_quota}
use Rattle.rule_laws.proofs.LeftOver.{one_seat_within}
use Rattle.rule_laws.proofs.Coalitions.{coalition_seated}

-- more than half of the ballots are a quota, of one seat
half_enough : (s b h : ℕ) → 1 ≤ s → b < 2 * h → 1 * whole_quota s 1 b + 0 ≤ h * s
half_enough s b h pos more =
    let double : (b + 1) * s ≤ h * 2 * s = mul-le-mul_right s (omega arith) in
    let split : (b + 1) * s ≡ b * s + 1 * s = add-mul b 1 s in
    let less : b * s < h * s * 2 = omega arith in
    let part : b * s / 2 < h * s = (div-lt_iff_lt-mul {k = 2} {x = b * s} {y = h * s} (omega arith)).1 less in
    let quota_is : whole_quota s 1 b ≡ b * s / 2 + 1 = refl in
    omega arith

any_row : (rows : List Row) → All (λ (row : Row). Unit {0}) rows
any_row rows = λ k d below_. tt

pub count-solid_majority :
    (rule : Rule) (places units : ℕ) (ballots coalition others : List (List ℕ)) (roll : RollList)
    (lots : List ℕ)
    (rows : List Row) (last : List State)
    (members : List Bool)
    → IsElection places units ballots roll lots → IsPermutation ballots (coalition ++ others)
    → IsCountUnder rule places units ballots roll lots rows last
    → roll.seats ≡ 1
    → All (IsSolid (length roll.names) roll.withdrawn members) coalition
    → 1 ≤ running_members (length roll.names) roll.withdrawn members
    → length ballots < 2 * length coalition
    → 1 ≤ elected_members (length roll.names) members last
count-solid_majority rule places units ballots coalition others roll lots rows last members is moved counted
    one solid running more =
    coalition_seated rule places units ballots coalition others roll lots rows last members 1 0 (λ row. Unit {0}) is
    moved counted solid running (any_row rows)
    (λ now row next valid going long seats settles good.
    one_seat_within (length roll.names) (mark_at members) (scale places) now
    (votes_under rule (scale places) now.keeps ballots (length roll.names)) lots row next settles valid going long
    (seats ∙ one) row.step)
    (subst (λ (seats : ℕ). 1 * whole_quota (scale places) seats (length ballots) + 0 ≤ length coalition * scale places)
    (sym one) (half_enough (scale places) (length ballots) (length coalition) (scale_pos places) more))
