use Rattle.std.proofs.Common.{◌≡◌, ◌≤◌, ℕ, ◌++◌, ◌∷◌, [], List, length, map, take, get_or, arith, append_assoc, ap, sym, ◌∙◌}
use Rattle.std.proofs.lemmas.List.{length-append, map-append, take_all, take_more}
use Rattle.frozen_plan.specs.declared.plan_row.PlanRow.{PlanRow}
use Rattle.vote_spread.proofs.branches.push_tail.Goals as goal

-- a list that goes on from another is as long at least
goes_on : (old more new : List ℕ) → new ≡ old ++ more → length old ≤ length new
goes_on old more new is = omega (arith, ap length is, length-append old more)

rank : PlanRow → ℕ
rank r = r.candidate

pub loop-row-preserved : goal.loop-row-preserved
unfolding rank
loop-row-preserved c =
    let rows = c.args.rows.now in
    let old = c.args.tails.now.items in
    let i : ℕ = c.loop-row.row-index in
    let none : PlanRow = record { depth = 0; candidate = 0; ballots = 0; skip = 0 } in
    let row = get_or rows i none in
    c.in_ok-push.ensures.items
    ∙ (ap (λ (l : List ℕ). l ++ rank row ∷ []) c.loop-row.invariant
    ∙ (append_assoc old (map rank (take i rows)) (rank row ∷ [])
    ∙ (ap (λ (l : List ℕ). old ++ l) (sym (map-append rank (take i rows) (row ∷ [])))
    ∙ ap (λ (l : List PlanRow). old ++ map rank l) (sym (take_more rows i none c.loop-row-test.true)))))

pub returns-clause-ok : goal.returns-clause-ok
returns-clause-ok c =
    c.loop-row.invariant
    ∙ ap (λ (l : List PlanRow). c.args.tails.now.items ++ map (λ (r : PlanRow). r.candidate) l)
    (take_all c.loop-row.row-index c.args.rows.now c.loop-row-test.false)

pub returns-clause-more : goal.returns-clause-more
returns-clause-more c = goes_on _ _ _ c.loop-row.invariant

pub returns-in_err-push-clause-more : goal.returns-in_err-push-clause-more
returns-in_err-push-clause-more c = goes_on _ _ _ (c.in_err-push.ensures.items ∙ c.loop-row.invariant)
