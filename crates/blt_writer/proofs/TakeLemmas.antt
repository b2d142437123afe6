-- The line that is next in a plan.
use Rattle.std.proofs.Common.{◌≡◌, ℕ, ◌+◌, ◌-◌, ◌≤◌, Bool, true, false, cond, List, [], ◌∷◌, length, get_or}
use Rattle.std.proofs.Common.{take, drop, All, arith, refl, ap, sym, subst, ◌∙◌}
use Rattle.std.specs.Prelude.{AllPairs}
use Rattle.std.proofs.lemmas.List.{take_rest, drop-drop, length-drop}
use Rattle.std.proofs.lemmas.List.Elements.{All-tail}
use Rattle.frozen_plan.specs.declared.plan_row.PlanRow.{PlanRow}
use Rattle.frozen_plan.specs.Plan.{IsPlan}
use Rattle.plain_ballots.specs.declared.ballot_line.BallotLine.{BallotLine}
use Rattle.blt_writer.specs.Order.{StandsBefore}
use Rattle.blt_writer.specs.Walk.{ends_at, lines_behind, lines_from, led_to, AreNodes, IsRest}
use Rattle.blt_writer.specs.Merge.{had, is_first, left}
use Rattle.blt_writer.proofs.WalkLemmas.{plan_is}
use Rattle.blt_writer.proofs.WalkOrder.{root_first}

-- a line that is there can be taken
pub some_row : (r path : List ℕ) (rows : List PlanRow) → is_first r (lines_from path rows) ≡ true → 1 ≤ length rows
some_row r path [] first = cc
some_row r path (row ∷ behind) first = omega arith

pub had_is :
    (r path : List ℕ) (rows : List PlanRow) (n : ℕ) (d : PlanRow) → is_first r (lines_from path rows) ≡ true
    → n ≡ ends_at (get_or rows 0 d) (drop 1 rows) → n ≡ had r (lines_from path rows)
had_is r path [] n d first is = cc
had_is r path (row ∷ behind) n d first is = is ∙ ap (λ (b : Bool). cond b (ends_at row behind) 0) (sym first)

pub had_none : (r : List ℕ) (ls : List BallotLine) → is_first r ls ≡ false → 0 ≡ had r ls
had_none r [] first = refl
had_none r (line ∷ ls) first = ap (λ (b : Bool). cond b line.count 0) (sym first)

pub left_none : (r : List ℕ) (ls : List BallotLine) → is_first r ls ≡ false → ls ≡ left r ls
left_none r [] first = refl
left_none r (line ∷ ls) first = ap (λ (b : Bool). cond b ls (line ∷ ls)) (sym first)

-- the path leads on to the next row
from_led : (path : List ℕ) (rows : List PlanRow) → lines_from (led_to path rows) rows ≡ lines_behind path rows
from_led path [] = refl
from_led path (row ∷ behind) = refl

pub left_is :
    (r path : List ℕ) (rows : List PlanRow) → is_first r (lines_from path rows) ≡ true
    → lines_from (led_to path (drop 1 rows)) (drop 1 rows) ≡ left r (lines_from path rows)
left_is r path [] first = cc
left_is r path (row ∷ behind) first =
    from_led path behind ∙ ap (λ (b : Bool). cond b (lines_behind path behind) (lines_from path (row ∷ behind))) (sym first)

pub rest_behind : (rows : List PlanRow) → IsRest rows → IsRest (drop 1 rows)
rest_behind [] is = is
rest_behind (row ∷ behind) is = record { nodes = is.nodes.1; below_root = below behind is.below_root }
  where
    below :
        (rows : List PlanRow) → All (λ (row : PlanRow). 1 ≤ row.depth) rows
        → All (λ (row : PlanRow). 1 ≤ row.depth) (drop 1 rows)
    below [] all = all
    below (row ∷ rows) all = All-tail (λ (row : PlanRow). 1 ≤ row.depth) row rows all

-- the lines of a plan stand in order
pub rising_plan :
    (n : ℕ) (rows : List PlanRow) → IsPlan n rows → (path : List ℕ) → length path ≡ 250
    → AllPairs StandsBefore (lines_from path rows)
rising_plan n rows plan path long =
    subst (AllPairs StandsBefore) (sym (plan_is n rows plan path long)) (root_first _ n 0 1 _ plan.grown)

-- ---- the same of the rows as they are cut from a plan

cut_is : (rows whole : List PlanRow) (at : ℕ) → rows ≡ whole → take (length rows - at) (drop at rows) ≡ drop at whole
cut_is rows whole at same = take_rest rows at ∙ ap (drop at) same

next_is :
    (rows whole : List PlanRow) (at : ℕ) → rows ≡ whole
    → take (length rows - (at + 1)) (drop (at + 1) rows) ≡ drop 1 (drop at whole)
next_is rows whole at same = cut_is rows whole (at + 1) same ∙ sym (drop-drop 1 at whole)

pub here_nodes :
    (rows whole : List PlanRow) (at : ℕ) → rows ≡ whole → IsRest (drop at whole)
    → AreNodes (take (length rows - at) (drop at rows))
here_nodes rows whole at same is = subst AreNodes (sym (cut_is rows whole at same)) is.nodes

-- there is a row where a line is
pub here_some :
    (r path : List ℕ) (rows whole : List PlanRow) (at : ℕ) (seen : List BallotLine) → rows ≡ whole
    → lines_from path (drop at whole) ≡ seen → is_first r seen ≡ true → 1 ≤ length (take (length rows - at) (drop at rows))
here_some r path rows whole at seen same is first =
    subst (λ (l : List PlanRow). 1 ≤ length l) (sym (cut_is rows whole at same))
    (some_row r path (drop at whole) (ap (is_first r) is ∙ first))

pub here_inside :
    (r path : List ℕ) (rows whole : List PlanRow) (at : ℕ) (seen : List BallotLine) → rows ≡ whole
    → lines_from path (drop at whole) ≡ seen → is_first r seen ≡ true → at + 1 ≤ length rows
here_inside r path rows whole at seen same is first =
    omega (arith, some_row r path (drop at whole) (ap (is_first r) is ∙ first), length-drop at whole, ap length same)

pub next_nodes :
    (rows whole : List PlanRow) (at : ℕ) → rows ≡ whole → IsRest (drop at whole)
    → AreNodes (take (length rows - (at + 1)) (drop (at + 1) rows))
next_nodes rows whole at same is = subst AreNodes (sym (next_is rows whole at same)) (rest_behind (drop at whole) is).nodes

pub next_below :
    (rows whole : List PlanRow) (at : ℕ) → rows ≡ whole → IsRest (drop at whole)
    → All (λ (row : PlanRow). 1 ≤ row.depth) (take (length rows - (at + 1)) (drop (at + 1) rows))
next_below rows whole at same is =
    subst (All (λ (row : PlanRow). 1 ≤ row.depth)) (sym (next_is rows whole at same)) is.below_root

pub next_rest : (whole : List PlanRow) (at : ℕ) → IsRest (drop at whole) → IsRest (drop (at + 1) whole)
next_rest whole at is = subst IsRest (drop-drop 1 at whole) (rest_behind (drop at whole) is)

pub count_taken :
    (r path : List ℕ) (rows whole : List PlanRow) (at n : ℕ) (seen : List BallotLine) (d : PlanRow) → rows ≡ whole
    → lines_from path (drop at whole) ≡ seen → is_first r seen ≡ true
    → n
    ≡ ends_at (get_or (take (length rows - at) (drop at rows)) 0 d)
    (drop 1 (take (length rows - at) (drop at rows))) → n ≡ had r seen
count_taken r path rows whole at n seen d same is first count =
    had_is r path (drop at whole) n d (ap (is_first r) is ∙ first)
    (count ∙ ap (λ (l : List PlanRow). ends_at (get_or l 0 d) (drop 1 l)) (cut_is rows whole at same)) ∙ ap (had r) is

pub left_taken :
    (r path after : List ℕ) (rows whole : List PlanRow) (at : ℕ) (seen : List BallotLine) → rows ≡ whole
    → lines_from path (drop at whole) ≡ seen → is_first r seen ≡ true
    → after ≡ led_to path (take (length rows - (at + 1)) (drop (at + 1) rows))
    → lines_from after (drop (at + 1) whole) ≡ left r seen
left_taken r path after rows whole at seen same is first led =
    ap (λ (p : List ℕ). lines_from p (drop (at + 1) whole)) (led ∙ ap (led_to path) (next_is rows whole at same))
    ∙ (ap (λ (l : List PlanRow). lines_from (led_to path (drop 1 (drop at whole))) l) (sym (drop-drop 1 at whole))
    ∙ (left_is r path (drop at whole) (ap (is_first r) is ∙ first) ∙ ap (left r) is))
