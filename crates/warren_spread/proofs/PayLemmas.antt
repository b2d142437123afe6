-- One step of a walk over siblings.
use Rattle.std.proofs.Common.{◌≡◌, ◌≢◌, ℕ, ◌+◌, ◌-◌, ◌*◌, ◌<◌, ◌≤◌, ◌==◌, cond, List, length, get_or, set}
use Rattle.std.proofs.Common.{arith, ap, sym, subst, ◌∙◌, inl, inr}
use Rattle.std.proofs.lemmas.Bool.{cases_eq, eq-eqb, ne_eqb}
use Rattle.std.proofs.lemmas.List.{get_or-set_same, get_or-set_other}
use Rattle.frozen_plan.specs.declared.plan_row.PlanRow.{PlanRow}
use Rattle.meek_rule.specs.Rule.{Warren}
use Rattle.meek_rule.specs.Weights.{kept_under}
use Rattle.warren_spread.specs.Paid.{paid, row_ballots, AreParted}

-- the sums when candidate k was paid a part of each of m ballots
abbrev pub with_part : (sums : List ℕ) (k m part : ℕ) → List ℕ
with_part sums k m part = set sums (k - 1) (get_or sums (k - 1) 0 + m * part)

part_at :
    (sums : List ℕ) (k m part p : ℕ) → 1 ≤ k → k - 1 < length sums
    → get_or (with_part sums k m part) p 0 ≡ get_or sums p 0 + m * cond (k == p + 1) part 0
part_at sums k m part p some inside =
    elim (cases_eq p (k - 1)) [
      | inl same ↦
          let at : k ≡ p + 1 = omega arith in
          let share : m * cond (k == p + 1) part 0 ≡ m * part = ap (λ b. m * cond b part 0) (eq-eqb k (p + 1) at) in
          let here : get_or (with_part sums k m part) p 0 ≡ get_or sums p 0 + m * part =
          subst (λ (q : ℕ). get_or (with_part sums k m part) q 0 ≡ get_or sums q 0 + m * part) (sym same)
          (get_or-set_same sums (k - 1) (get_or sums (k - 1) 0 + m * part) 0 inside) in
          omega arith
      | inr other ↦
          let at : k ≢ p + 1 = omega arith in
          let share : m * cond (k == p + 1) part 0 ≡ 0 = ap (λ b. m * cond b part 0) (ne_eqb k (p + 1) at) ∙ omega arith in
          let here : get_or (with_part sums k m part) p 0 ≡ get_or sums p 0 = get_or-set_other sums (k - 1) p _ 0 other in
          omega arith
    ]

-- The first of the siblings is paid; what is missing then is what those below it pay and what its next siblings pay.
pub part_paid :
    (prices : List ℕ) (rest n : ℕ) (siblings : List PlanRow) (node : PlanRow) (below behind : List PlanRow)
    (sums : List ℕ) (part p whole : ℕ) → AreParted n siblings node below behind → n ≡ length sums
    → part ≡ kept_under Warren 1 prices rest node.candidate
    → get_or sums p 0 + paid prices rest (row_ballots siblings) (p + 1) ≡ whole
    → get_or (with_part sums node.candidate node.ballots part) p 0
    + paid prices (rest - part) (row_ballots below) (p + 1)
    + paid prices rest (row_ballots behind) (p + 1) ≡ whole
part_paid prices rest n siblings node below behind sums part p whole are same is missing =
    let k = node.candidate in
    let m = node.ballots in
    let due = kept_under Warren 1 prices rest k in
    let at = part_at sums k m part p are.candidate (omega (arith, are.candidate, are.known)) in
    let one : m * cond (k == p + 1) part 0 ≡ m * cond (k == p + 1) due 0 = ap (λ (x : ℕ). m * cond (k == p + 1) x 0) is in
    let two : paid prices (rest - part) (row_ballots below) (p + 1) ≡ paid prices (rest - due) (row_ballots below) (p + 1) =
    ap (λ (x : ℕ). paid prices (rest - x) (row_ballots below) (p + 1)) is in
    omega (arith, are.pays prices rest (p + 1))

-- there is room for its part
pub part_fits :
    (prices : List ℕ) (rest n : ℕ) (siblings : List PlanRow) (node : PlanRow) (below behind : List PlanRow)
    (sums : List ℕ) (part whole most : ℕ) → AreParted n siblings node below behind → n ≡ length sums
    → part ≡ kept_under Warren 1 prices rest node.candidate
    → get_or sums (node.candidate - 1) 0 + paid prices rest (row_ballots siblings) (node.candidate - 1 + 1)
    ≡ whole → whole ≤ most → get_or sums (node.candidate - 1) 0 + node.ballots * part ≤ most
part_fits prices rest n siblings node below behind sums part whole most are same is missing fits =
    let k = node.candidate in
    let step = part_paid prices rest n siblings node below behind sums part (k - 1) whole are same is missing in
    let here : get_or (with_part sums k node.ballots part) (k - 1) 0 ≡ get_or sums (k - 1) 0 + node.ballots * part =
    get_or-set_same sums (k - 1) (get_or sums (k - 1) 0 + node.ballots * part) 0 (omega (arith, are.candidate, are.known)) in
    omega arith
