-- Nobody has more than a vote of each ballot that ranks it.
use Rattle.std.proofs.Common.{◌≡◌, ℕ, ◌+◌, ◌-◌, ◌*◌, ◌<◌, ◌≤◌, ◌==◌, Bool, true, false, cond, List, [], ◌∷◌}
use Rattle.std.proofs.Common.{length, get_or, All, arith, ap, sym, ◌∙◌, inl, inr}
use Rattle.std.proofs.Math.Nat.{add-mul}
use Rattle.std.proofs.lemmas.Bool.{cases_Bool, and_parts, leb-true, eq-eqb}
use Rattle.std.proofs.lemmas.List.Folds.{list_any_at}
use Rattle.std.proofs.lemmas.List.Sums.{sum_by-cons}
use Rattle.fixed_place.specs.Rounding.{scale}
use Rattle.fixed_place.proofs.RoundingLemmas.{scale_pos}
use Rattle.candidate_roll.specs.Roll.{is_listed}
use Rattle.candidate_roll.specs.State.{state_at}
use Rattle.lot_order.specs.Flags.{mark_at}
use Rattle.meek_rule.specs.Situation.{is_hopeful}
use Rattle.meek_rule.specs.Rule.{Rule}
use Rattle.meek_rule.specs.Weights.{given_under, vote_under, votes_under}
use Rattle.meek_rule.proofs.WeightLemmas.{given_under-le}
use Rattle.meek_rule.proofs.TotalLemmas.{given-absent}
use Rattle.meek_rule.proofs.WinnersByCount.{reached_place}
use Rattle.meek_count.proofs.WholeCount.{keeps-le}
use Rattle.rule_laws.specs.Plurality.{UnrankedAreNotElected, mention_count}
use Rattle.rule_laws.proofs.EachRow.{count-each, vote-at}

given-unlisted : (rule : Rule) (s : ℕ) (keeps : List ℕ) (w : ℕ) (ranks : List ℕ) (c : ℕ) → is_listed ranks c ≡ false
    → given_under rule s keeps w ranks c ≡ 0
given-unlisted rule s keeps w ranks c none =
    given-absent rule s keeps w ranks c (λ k below same.
    let is : is_listed ranks c ≡ true = list_any_at (λ d. d == c) ranks k 0 below (eq-eqb (get_or ranks k 0) c same) in
    let off : true ≡ false = sym is ∙ none in
    cc)

pub mentions-votes :
    (rule : Rule) (s : ℕ) (keeps : List ℕ) (ballots : List (List ℕ)) (c : ℕ) → 1 ≤ s → All (λ k. k ≤ s) keeps
    → vote_under rule s keeps ballots c ≤ mention_count ballots c * s
mentions-votes rule s keeps [] c pos bound = omega arith
mentions-votes rule s keeps (ranking ∷ ballots) c pos bound =
    let rest = mentions-votes rule s keeps ballots c pos bound in
    let votes = sum_by-cons (λ (x : List ℕ). given_under rule s keeps s x c) ranking ballots in
    let mentions = sum_by-cons (λ (x : List ℕ). cond (is_listed x c) 1 0) ranking ballots in
    let split = add-mul (cond (is_listed ranking c) 1 0) (mention_count ballots c) s in
    let turned :
    mention_count (ranking ∷ ballots) c * s
    ≡ (cond (is_listed ranking c) 1 0 + mention_count ballots c) * s =
    ap (λ (k : ℕ). k * s) mentions in
    elim (cases_Bool (is_listed ranking c)) [
      | inl listed ↦
          let one : cond (is_listed ranking c) 1 0 * s ≡ 1 * s = ap (λ (b : Bool). cond b 1 0 * s) listed in
          let here : given_under rule s keeps s ranking c ≤ s = given_under-le rule s keeps s ranking c pos bound in
          omega arith
      | inr other ↦
          let none : cond (is_listed ranking c) 1 0 * s ≡ 0 * s = ap (λ (b : Bool). cond b 1 0 * s) other in
          let here : given_under rule s keeps s ranking c ≡ 0 = given-unlisted rule s keeps s ranking c other in
          omega arith
    ]

-- who is ranked on no ballot has no vote, and so no quota
pub count-unranked : UnrankedAreNotElected
count-unranked rule places units ballots roll lots rows last c is counted some unranked =
    let s : ℕ = scale places in
    count-each rule places units ballots roll lots rows last (λ row. mark_at row.elected (c - 1) ≡ false) is counted
    (λ now row next at.
    elim (cases_Bool (mark_at row.elected (c - 1))) [
      | inr off ↦ off
      | inl won ↦
          let votes : List ℕ = votes_under rule s now.keeps ballots (length now.states) in
          let reached = at.settles.winners.reached (c - 1) won in
          let inside : c - 1 < length now.states = reached_place now.states votes row.quota (c - 1) reached in
          let enough : row.quota ≤ get_or (votes_under rule s now.keeps ballots (length now.states)) (c - 1) 0 =
          leb-true _ _ (and_parts (is_hopeful (state_at now.states (c - 1))) _ reached).1 in
          let vote :
          get_or (votes_under rule s now.keeps ballots (length now.states)) (c - 1) 0
          ≡ vote_under rule s now.keeps ballots c =
          vote-at rule s now.keeps ballots (length now.states) c some inside in
          let few = mentions-votes rule s now.keeps ballots c (scale_pos places) (keeps-le s now at.valid) in
          let times : mention_count ballots c * s ≡ 0 * s = ap (λ (k : ℕ). k * s) unranked in
          absurd (omega (arith, at.settles.quota_is))
    ])
