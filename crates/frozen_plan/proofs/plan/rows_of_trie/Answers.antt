use Rattle.std.proofs.Common.{◌≡◌, ◌+◌, ◌≤◌, ℕ, List, [], ◌∷◌, ◌++◌, length, set, arith, ap, sym, ◌∙◌, subst}
use Rattle.ranking_trie.specs.Siblings.{forest_of}
use Rattle.ranking_trie.specs.BallotBag.{count_of}
use Rattle.frozen_plan.specs.declared.plan_row.PlanRow.{PlanRow}
use Rattle.frozen_plan.specs.Forest.{through, rows_of}
use Rattle.frozen_plan.specs.Plan.{plan_rows}
use Rattle.frozen_plan.specs.Rows.{AreRowsOf}
use Rattle.frozen_plan.specs.Shape.{shape_of}
use Rattle.frozen_plan.proofs.TrieLemmas.{grown, grown_more, rows_of_trie, all_ballots}
use Rattle.frozen_plan.proofs.plan.rows_of_trie.Goals as goal

pub push_forest-requires-clause-grown : goal.push_forest-requires-clause-grown
push_forest-requires-clause-grown c =
    let n = c.args.trie.now.candidates in
    let f = forest_of c.forest.result in
    (0, grown_more n 250 0 1 (shape_of f) c.requires (grown n 0 1 f c.forest.ensures.rising c.forest.ensures.within))

pub push_forest-requires-clause-few : goal.push_forest-requires-clause-few
push_forest-requires-clause-few c =
    let t = c.args.trie.now in
    omega (
      arith,
      all_ballots t (count_of [] t.ballots) (forest_of c.forest.result) c.forest.ensures.ballots,
      c.total.ensures.total,
      c.total.ensures.few,
    )

pub returns : goal.returns
returns c =
    let t = c.args.trie.now in
    let f = forest_of c.forest.result in
    let ends = count_of [] t.ballots in
    let below = rows_of 1 (shape_of f) in
    let now = c.push_forest.new.rows.items in
    let first : PlanRow = record { depth = 0; candidate = 0; ballots = c.total.result; skip = 0 } in
    let root : (n k : ℕ) → PlanRow = λ n k. record { depth = 0; candidate = 0; ballots = n; skip = k } in
    let items : now ≡ first ∷ below =
    c.in_ok-push_forest.ensures.rows
    ∙ ap (λ (l : List PlanRow). l ++ below)
    (c.in_ok-push.ensures.items ∙ ap (λ (l : List PlanRow). l ++ first ∷ []) c.in_ok-rows.ensures.items) in
    let size : c.in_ok-skip.skip ≡ length below + 1 =
    omega (arith, c.in_ok-skip.ensures, c.push_forest.new.rows.ok.0, c.len.ensures, ap length items) in
    let count : c.total.result ≡ ends + through (shape_of f) =
    c.total.ensures.total ∙ all_ballots t ends f c.forest.ensures.ballots in
    let few : length t.ballots ≤ 999999999 = omega (arith, c.total.ensures.total, c.total.ensures.few) in
    let same : set now 0 (root c.total.result c.in_ok-skip.skip) ≡ plan_rows ends (shape_of f) =
    ap (λ (l : List PlanRow). set l 0 (root c.total.result c.in_ok-skip.skip)) items
    ∙ (ap (λ (n : ℕ). root n c.in_ok-skip.skip ∷ below) count
    ∙ ap (λ (k : ℕ). root (ends + through (shape_of f)) k ∷ below) size) in
    subst (AreRowsOf t) (sym same) (rows_of_trie t ends f c.requires few c.forest.ensures.ballots
    c.forest.ensures.rising c.forest.ensures.within)
