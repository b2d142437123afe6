use Rattle.std.proofs.Common.{◌≡◌, ℕ, List, IfOk, ap, sym, ◌∙◌, subst}
use Rattle.std.specs.List.Sorted.{IsPermutation}
use Rattle.plain_ballots.specs.Ballots.{plain}
use Rattle.packed_ballots.specs.Packed.{rests}
use Rattle.frozen_plan.specs.Plan.{plan_ballots}
use Rattle.frozen_plan.proofs.plan.Plan.of_packed.Goals as goal

pub returns-clause-ballots : goal.returns-clause-ballots
returns-clause-ballots c =
    let bytes = c.into_parts-ranks.result.0.items in
    let lines = c.into_parts-ranks.result.1.items in
    let same : rests c.as_slice.result.now 0 c.as_mut_slice.result.now ≡ plain c.args.packed.lines =
    ap (λ (b : List ℕ). rests b 0 c.as_mut_slice.result.now) c.as_slice.ensures.value
    ∙ (ap (rests bytes 0) c.as_mut_slice.ensures.value
    ∙ (sym (c.packed_lines_stand_for_ballots.ensures.ballots bytes lines) ∙ ap plain c.into_parts-ranks.ensures.lines)) in
    subst (λ (l : List (List ℕ)). IfOk c.of_lines.result (λ plan. IsPermutation (plan_ballots plan.rows) l)) same
    c.of_lines.ensures.ballots
