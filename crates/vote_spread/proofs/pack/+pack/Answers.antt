use Rattle.std.proofs.Common.{◌≡◌, ℕ, ◌+◌, ◌≤◌, [], ◌∷◌, ◌++◌, List, length, take, drop, get_or, arith, ap, sym, subst, ◌∙◌}
use Rattle.std.proofs.lemmas.List.{length-append, length-take-le, length-drop}
use Rattle.frozen_plan.specs.declared.plan_row.PlanRow.{PlanRow}
use Rattle.vote_spread.specs.Stem.{Stem, stem_of_row}
use Rattle.frozen_plan.specs.Forest.{Forest, Grown, Bare, rows_of, IsGrown, nodes_of}
use Rattle.vote_spread.specs.Packed.{HasAdded, AreRows}
use Rattle.vote_spread.proofs.RowLemmas.{parted_rows}
use Rattle.vote_spread.proofs.PackLemmas.{underway-begin, underway-next, underway-end, one_node, below_node, closed_node}
use Rattle.vote_spread.proofs.TailLemmas.{tail_node}
use Rattle.vote_spread.proofs.pack.+pack.Goals as goal

-- what stands past the end of some rows
abbrev none : PlanRow
none = record { depth = 0; candidate = 0; ballots = 0; skip = 0 }

pub pack_rows-loop-rest-init : goal.pack_rows-loop-rest-init
pack_rows-loop-rest-init t c = record {
  shorter = omega arith;
  underway = underway-begin c.args.depth c.args.rows.now c.args.branches.now c.requires.rows;
}

pub pack_rows-pack_node-requires : goal.pack_rows-pack_node-requires
pack_rows-pack_node-requires t c =
    let rest = c.loop-rest.rest.now in
    let p = parted_rows 250 c.args.depth rest none c.loop-rest.invariant.underway.are (omega arith) in
    let front : c.split_at.result.0.now ≡ take (get_or rest 0 none).skip rest = c.split_at.ensures.front in
    let fewer : length c.split_at.result.0.now ≤ length rest =
    omega (arith, ap length front ∙ length-take-le (get_or rest 0 none).skip rest p.inside, p.inside) in
    let shorter = c.loop-rest.invariant.shorter in (
      omega (arith, c.decreases),
      (c.requires.depth, (rw front p.node, (rw front p.first, λ d. rw front (p.one d)))),
    )

pub pack_rows-loop-rest-preserved : goal.pack_rows-loop-rest-preserved
pack_rows-loop-rest-preserved t c =
    let rest = c.loop-rest.rest.now in
    let skip = (get_or rest 0 none).skip in
    let front : c.split_at.result.0.now ≡ take skip rest = c.split_at.ensures.front in
    let back : c.split_at.result.1.now ≡ drop skip rest = c.split_at.ensures.back in
    let under = c.loop-rest.invariant.underway in
    let has : HasAdded c.args.depth (take skip rest) c.loop-rest.branches c.pack_node.new.branches =
    subst (λ (l : List PlanRow). HasAdded c.args.depth l c.loop-rest.branches c.pack_node.new.branches) front
    c.in_ok-pack_node.ensures in
    record {
      shorter = omega (arith, ap length back, length-drop skip rest, c.loop-rest.invariant.shorter);
      underway =
          rw back (underway-next c.args.depth c.args.rows.now rest c.args.branches.now c.loop-rest.branches
          c.pack_node.new.branches none under (omega arith) has);
    }

pub pack_node-push-requires-clause-short : goal.pack_node-push-requires-clause-short
pack_node-push-requires-clause-short t c =
    let rows = c.args.rows.now in
    let is =
    tail_node 250 c.args.depth rows none c.requires.rows c.requires.depth.0 c.requires.some
    (c.requires.one none) c.if-rows-row.true in
    omega (arith, is.short, ap length c.behind_first-below.ensures)

pub pack_node-push-requires-clause-candidates : goal.pack_node-push-requires-clause-candidates
pack_node-push-requires-clause-candidates t c =
    let rows = c.args.rows.now in
    let is =
    tail_node 250 c.args.depth rows none c.requires.rows c.requires.depth.0 c.requires.some
    (c.requires.one none) c.if-rows-row.true in
    rw c.behind_first-below.ensures is.known

pub pack_node-returns-then-rows-row : goal.pack_node-returns-then-rows-row
pack_node-returns-then-rows-row t c =
    let rows = c.args.rows.now in
    let is =
    tail_node 250 c.args.depth rows none c.requires.rows c.requires.depth.0 c.requires.some
    (c.requires.one none) c.if-rows-row.true in
    rw (c.in_ok-push.ensures, c.behind_first-below.ensures) (is.added c.args.branches.now)

pub pack_node-returns : goal.pack_node-returns
pack_node-returns t c =
    let rows = c.args.rows.now in
    let old = c.args.branches.now in
    let d = c.args.depth in
    let first = stem_of_row d (get_or rows 0 none) [] in
    let below : HasAdded (d + 1) (drop 1 rows) (old ++ first ∷ []) c.pack_rows.new.branches =
    subst (λ (l : List Stem). HasAdded (d + 1) (drop 1 rows) l c.pack_rows.new.branches) c.in_ok-push-2.ensures
    (subst (λ (l : List PlanRow). HasAdded (d + 1) l c.push-2.new.self c.pack_rows.new.branches)
    c.behind_first-below.ensures c.in_ok-pack_rows.ensures) in
    subst (HasAdded d rows old) (sym (c.close.ensures first)) (closed_node 250 d rows none first
    c.requires.rows c.requires.depth.0 c.requires.some (c.requires.one none) old
    c.pack_rows.new.branches c.len-at.result c.len-at.ensures.value below)

-- the first of some rows is within the limits
first_fits : (d low : ℕ) (f : Forest) → IsGrown 250 low d f → 1 ≤ length (rows_of d f)
    → (d ≤ 250) × ((get_or (rows_of d f) 0 none).candidate ≤ 250)
first_fits d low Bare grown some = absurd (omega arith)
first_fits d low (Grown c k inner next) grown some = (grown.2, grown.1)

fits :
    (d : ℕ) (rows : List PlanRow) → AreRows 250 d rows → 1 ≤ length rows
    → (d ≤ 250) × ((get_or rows 0 none).candidate ≤ 250)
fits d rows are some =
    subst (λ (l : List PlanRow). (d ≤ 250) × ((get_or l 0 none).candidate ≤ 250)) (sym are.preorder)
    (first_fits d are.low (nodes_of rows) are.grown (subst (λ (l : List PlanRow). 1 ≤ length l) are.preorder some))

pub pack_rows-split_at-requires : goal.pack_rows-split_at-requires
pack_rows-split_at-requires t c =
    (parted_rows 250 c.args.depth c.loop-rest.rest.now none c.loop-rest.invariant.underway.are
    (omega arith)).inside

pub pack_rows-loop-rest-smaller : goal.pack_rows-loop-rest-smaller
pack_rows-loop-rest-smaller t c =
    let rest = c.loop-rest.rest.now in
    let p = parted_rows 250 c.args.depth rest none c.loop-rest.invariant.underway.are (omega arith) in
    omega (arith, ap length c.split_at.ensures.back, length-drop (get_or rest 0 none).skip rest, p.some, p.inside)

pub pack_rows-returns : goal.pack_rows-returns
pack_rows-returns t c =
    underway-end c.args.depth c.args.rows.now c.loop-rest.rest.now c.args.branches.now c.loop-rest.branches
    c.loop-rest.invariant.underway (omega arith)

pub pack_node-behind_first-below-requires : goal.pack_node-behind_first-below-requires
pack_node-behind_first-below-requires t c = c.requires.some

pub pack_node-push-requires-clause-depth : goal.pack_node-push-requires-clause-depth
pack_node-push-requires-clause-depth t c = (fits c.args.depth c.args.rows.now c.requires.rows c.requires.some).0

pub pack_node-push-requires-clause-candidate : goal.pack_node-push-requires-clause-candidate
pack_node-push-requires-clause-candidate t c = (fits c.args.depth c.args.rows.now c.requires.rows c.requires.some).1

pub pack_node-push-requires-2-clause-depth : goal.pack_node-push-requires-2-clause-depth
pack_node-push-requires-2-clause-depth t c = (fits c.args.depth c.args.rows.now c.requires.rows c.requires.some).0

pub pack_node-push-requires-2-clause-candidate : goal.pack_node-push-requires-2-clause-candidate
pack_node-push-requires-2-clause-candidate t c = (fits c.args.depth c.args.rows.now c.requires.rows c.requires.some).1

pub pack_node-pack_rows-requires : goal.pack_node-pack_rows-requires
pack_node-pack_rows-requires t c =
    let d = c.args.depth in
    let rows = c.args.rows.now in
    let low : c.behind_first-below.result.now ≡ drop 1 rows = c.behind_first-below.ensures in
    let deep = fits d rows c.requires.rows c.requires.some in
    let below =
    below_node 250 d rows c.requires.rows
    (one_node 250 d rows none c.requires.rows c.requires.some (c.requires.one none)) in (
      omega (arith, c.decreases, ap length low, length-drop 1 rows, c.requires.some),
      ((omega arith, omega (arith, deep.0)), subst (AreRows 250 (d + 1)) (sym low) below),
    )

pub pack_node-close-requires : goal.pack_node-close-requires
pack_node-close-requires t c =
    let old = c.args.branches.now in
    let first = stem_of_row c.args.depth (get_or c.args.rows.now 0 none) [] in
    let added = c.in_ok-pack_rows.ensures.added in
    let one : length c.push-2.new.self ≡ length old + 1 =
    ap length c.in_ok-push-2.ensures ∙ length-append old (first ∷ []) in
    let all : length c.pack_rows.new.branches ≡ length c.push-2.new.self + length added =
    ap length c.in_ok-pack_rows.ensures.is ∙ length-append c.push-2.new.self added in
    omega (arith, one, all, c.len-at.ensures.value)
