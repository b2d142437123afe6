-- The tally of orders that are read one after another.
use Rattle.std.proofs.Common.{◌≡◌, ℕ, ◌+◌, Bool, true, false, cond, eqb, List, [], ◌∷◌, length, filter, Some}
use Rattle.std.proofs.Common.{ap, sym, ◌∙◌, arith}
use Rattle.std.specs.Option.{option_map_or}
use Rattle.std.proofs.Math.Nat.{add-zero, zero-add}
use Rattle.std.proofs.lemmas.List.Sums.{sum_by-cons}
use Rattle.ballot_marks.specs.Ballot.{ranked, is_passed, is_cut}
use Rattle.ballot_marks.specs.declared.choice.Treat.{Treat}
use Rattle.ballot_marks.specs.declared.treated.Treated.{Treated}
use Rattle.preflib_text.specs.declared.tally.Tally.{Tally}
use Rattle.preflib_text.specs.Ballots.{treating}
use Rattle.preflib_text.specs.Counting.{count_if, counting, both, no_orders}
use Rattle.preflib_text.specs.Items.{Order}
use Rattle.preflib_text.specs.Tallies.{ballots_of, ranks_nobody, tally}

pub first_counted : (p : Order → Bool) (o : Order) (os : List Order)
    → ballots_of (filter p (o ∷ os)) ≡ count_if (p o) o.count + ballots_of (filter p os)
first_counted p o os =
    elim (p o) as (λ b. ballots_of (cond b (o ∷ filter p os) (filter p os)) ≡ cond b o.count 0 + ballots_of (filter p os)) [
      | true ↦ sum_by-cons (λ (order : Order). order.count) o (filter p os)
      | false ↦ omega arith
    ]

moved : (p : Order → Bool) (b : Bool) (o : Order) (os : List Order) (n : ℕ) → b ≡ p o
    → n + ballots_of (filter p (o ∷ os)) ≡ n + count_if b o.count + ballots_of (filter p os)
moved p b o os n is =
    let first = first_counted p o os ∙ ap (λ t. count_if t o.count + ballots_of (filter p os)) (sym is) in
    omega (arith, first)

-- one more order is counted
pub tally_step :
    (equal : Treat) (t : Tally) (o : Order) (os : List Order) (treated : Treated)
    → ranked (treating equal) o.marks ≡ Some treated.ranking → treated.passed ≡ is_passed (treating equal) o.marks
    → treated.cut ≡ is_cut (treating equal) o.marks
    → both t (tally equal (o ∷ os)) ≡ both (counting t o.count treated) (tally equal os)
tally_step equal t o os treated ranks passed cut =
    let nobody : eqb (length treated.ranking) 0 ≡ ranks_nobody equal o =
    sym (ap (λ r. option_map_or (λ (xs : List ℕ). eqb (length xs) 0) r false) ranks) in
    let orders : t.orders + length (o ∷ os) ≡ t.orders + 1 + length os = omega arith in
    let ballots : t.ballots + ballots_of (o ∷ os) ≡ t.ballots + o.count + ballots_of os =
    omega (arith, sum_by-cons (λ (order : Order). order.count) o os) in
    let empty_are = moved (ranks_nobody equal) (eqb (length treated.ranking) 0) o os t.empty nobody in
    let passed_are =
    moved (λ (order : Order). is_passed (treating equal) order.marks) treated.passed o os t.passed passed in
    let cut_are = moved (λ (order : Order). is_cut (treating equal) order.marks) treated.cut o os t.cut cut in
    (λ i. record {
      orders = orders i;
      ballots = ballots i;
      empty = empty_are i;
      passed = passed_are i;
      cut = cut_are i;
    })

added_nothing : (t : Tally) → both no_orders t ≡ t
added_nothing t =
    let orders = zero-add t.orders in
    let ballots = zero-add t.ballots in
    let empty = zero-add t.empty in
    let passed = zero-add t.passed in
    let cut = zero-add t.cut in
    (λ i. record { orders = orders i; ballots = ballots i; empty = empty i; passed = passed i; cut = cut i })

pub tally_first : (equal : Treat) (os : List Order) → tally equal os ≡ both no_orders (tally equal os)
tally_first equal os = sym (added_nothing (tally equal os))

-- where no orders are to come, all are counted
pub tally_last : (equal : Treat) (t : Tally) → both t (tally equal []) ≡ t
tally_last equal t =
    let orders = add-zero t.orders in
    let ballots = add-zero t.ballots in
    let empty = add-zero t.empty in
    let passed = add-zero t.passed in
    let cut = add-zero t.cut in
    (λ i. record { orders = orders i; ballots = ballots i; empty = empty i; passed = passed i; cut = cut i })
