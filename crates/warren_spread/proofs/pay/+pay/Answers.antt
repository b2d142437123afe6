use Rattle.std.proofs.Common.{◌≡◌, ℕ, ◌+◌, ◌-◌, ◌<◌, length, arith, ap, refl, sym, subst, ◌∙◌}
use Rattle.std.proofs.lemmas.List.{length-set}
use Rattle.frozen_plan.specs.declared.plan_row.PlanRow.{PlanRow}
use Rattle.meek_rule.specs.Rule.{Warren}
use Rattle.meek_rule.specs.Weights.{kept_under}
use Rattle.warren_spread.specs.Paid.{paid, row_ballots, AreSiblings}
use Rattle.warren_spread.proofs.PaidLemmas.{paid-nothing}
use Rattle.warren_spread.proofs.PayLemmas.{with_part, part_paid, part_fits}
use Rattle.warren_spread.proofs.pay.+pay.Goals as goal

-- of nothing nothing is paid
pub returns-then-rest-eq0-clause-paid : goal.returns-then-rest-eq0-clause-paid
returns-then-rest-eq0-clause-paid t c =
    λ p inside.
    let none : paid c.args.prices.now c.args.rest (row_ballots c.args.rows.now) (p + 1) ≡ 0 =
    ap (λ (w : ℕ). paid c.args.prices.now w (row_ballots c.args.rows.now) (p + 1)) c.if-rest-eq0.true
    ∙ paid-nothing c.args.prices.now (row_ballots c.args.rows.now) (p + 1) in
    omega arith

pub overflow_sub-place : goal.overflow_sub-place
overflow_sub-place t c =
    let are = c.parted.ensures (length c.args.sums.now) c.loop-siblings.invariant.are in
    omega (arith, are.candidate)

pub bounds-prices-place : goal.bounds-prices-place
bounds-prices-place t c =
    let are = c.parted.ensures (length c.args.sums.now) c.loop-siblings.invariant.are in
    omega (arith, are.candidate, are.known, c.requires.price_of_each)

pub overflow_mul-sums : goal.overflow_mul-sums
overflow_mul-sums t c =
    let are = c.parted.ensures (length c.args.sums.now) c.loop-siblings.invariant.are in
    let prices = c.args.prices.now in
    let node : PlanRow = c.parted.result.0 in
    let inv = c.loop-siblings.invariant in
    let part : c.min-part.result ≡ kept_under Warren 1 prices c.args.rest node.candidate =
    c.min-part.ensures
    ∙ refl in
    let inside : node.candidate - 1 < length c.args.sums.now = omega (arith, are.candidate, are.known) in
    let fits =
    part_fits prices c.args.rest (length c.args.sums.now) c.loop-siblings.siblings.now node
    c.parted.result.1.now c.parted.result.2.now c.loop-siblings.sums c.min-part.result _
    1000000000000000000 are (sym inv.same_length) part (inv.missing (node.candidate - 1) inside)
    (c.requires.room (node.candidate - 1) inside) in
    omega (arith, fits)

pub bounds-sums-place : goal.bounds-sums-place
bounds-sums-place t c =
    let are = c.parted.ensures (length c.args.sums.now) c.loop-siblings.invariant.are in
    omega (arith, are.candidate, are.known, c.loop-siblings.invariant.same_length)

pub overflow_add-sums : goal.overflow_add-sums
overflow_add-sums t c =
    let are = c.parted.ensures (length c.args.sums.now) c.loop-siblings.invariant.are in
    let prices = c.args.prices.now in
    let node : PlanRow = c.parted.result.0 in
    let inv = c.loop-siblings.invariant in
    let part : c.min-part.result ≡ kept_under Warren 1 prices c.args.rest node.candidate =
    c.min-part.ensures
    ∙ refl in
    let inside : node.candidate - 1 < length c.args.sums.now = omega (arith, are.candidate, are.known) in
    let fits =
    part_fits prices c.args.rest (length c.args.sums.now) c.loop-siblings.siblings.now node
    c.parted.result.1.now c.parted.result.2.now c.loop-siblings.sums c.min-part.result _
    1000000000000000000 are (sym inv.same_length) part (inv.missing (node.candidate - 1) inside)
    (c.requires.room (node.candidate - 1) inside) in
    omega (arith, fits)

pub bounds-sums-place-in-loop-siblings : goal.bounds-sums-place-in-loop-siblings
bounds-sums-place-in-loop-siblings t c =
    let are = c.parted.ensures (length c.args.sums.now) c.loop-siblings.invariant.are in
    omega (arith, are.candidate, are.known, c.loop-siblings.invariant.same_length)

pub pay-requires : goal.pay-requires
pay-requires t c =
    let are = c.parted.ensures (length c.args.sums.now) c.loop-siblings.invariant.are in
    let prices = c.args.prices.now in
    let node : PlanRow = c.parted.result.0 in
    let inv = c.loop-siblings.invariant in
    let part : c.min-part.result ≡ kept_under Warren 1 prices c.args.rest node.candidate =
    c.min-part.ensures
    ∙ refl in
    let same :
    length c.args.sums.now
    ≡ length (with_part c.loop-siblings.sums node.candidate node.ballots c.min-part.result) =
    sym (length-set c.loop-siblings.sums (node.candidate - 1) _ ∙ inv.same_length) in
    let step =
    λ (p : ℕ) (inside : p < length c.args.sums.now).
    part_paid prices c.args.rest (length c.args.sums.now) c.loop-siblings.siblings.now node
    c.parted.result.1.now c.parted.result.2.now c.loop-siblings.sums c.min-part.result p _ are
    (sym inv.same_length) part (inv.missing p inside) in (
      omega (arith, c.decreases, are.shorter, inv.shorter),
      (
        subst (λ (n : ℕ). AreSiblings n c.parted.result.1.now) same are.below_are,
        (
          c.requires.price_of_each ∙ same,
          λ p lt.
              let inside : p < length c.args.sums.now = omega arith in
              omega (arith, step p inside, c.requires.room p inside),
        ),
      ),
    )

pub loop-siblings-smaller : goal.loop-siblings-smaller
loop-siblings-smaller t c =
    let are = c.parted.ensures (length c.args.sums.now) c.loop-siblings.invariant.are in
    omega (arith, are.shorter)

pub loop-siblings-preserved : goal.loop-siblings-preserved
loop-siblings-preserved t c =
    let are = c.parted.ensures (length c.args.sums.now) c.loop-siblings.invariant.are in
    let prices = c.args.prices.now in
    let node : PlanRow = c.parted.result.0 in
    let inv = c.loop-siblings.invariant in
    let part : c.min-part.result ≡ kept_under Warren 1 prices c.args.rest node.candidate =
    c.min-part.ensures
    ∙ refl in
    let same :
    length c.args.sums.now
    ≡ length (with_part c.loop-siblings.sums node.candidate node.ballots c.min-part.result) =
    sym (length-set c.loop-siblings.sums (node.candidate - 1) _ ∙ inv.same_length) in
    let step =
    λ (p : ℕ) (inside : p < length c.args.sums.now).
    part_paid prices c.args.rest (length c.args.sums.now) c.loop-siblings.siblings.now node
    c.parted.result.1.now c.parted.result.2.now c.loop-siblings.sums c.min-part.result p _ are
    (sym inv.same_length) part (inv.missing p inside) in
    record {
      shorter = omega (arith, are.shorter, inv.shorter);
      are = are.behind_are;
      same_length = c.pay.ensures.same_length ∙ sym same;
      missing =
          λ p inside.
          let gave = c.pay.ensures.paid p (omega arith) in
          omega (arith, step p inside);
    }
