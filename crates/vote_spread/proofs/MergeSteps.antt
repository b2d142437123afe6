-- What is at each step of merging: the nodes that were taken out, and one branch for them.
use Rattle.std.proofs.Common.{◌≡◌, ℕ, ◌+◌, ◌-◌, ◌*◌, ◌<◌, ◌≤◌, List, [], ◌∷◌, ◌++◌, length, map, drop, get_or, set}
use Rattle.std.proofs.Common.{sum_by, arith, ap, sym, subst, ◌∙◌}
use Rattle.std.specs.List.{All, flat_map}
use Rattle.std.proofs.lemmas.List.{length-append, length-map, get_or-map}
use Rattle.frozen_plan.specs.declared.plan_row.PlanRow.{PlanRow}
use Rattle.vote_spread.specs.Stem.{Stem, stem_of_row, closed_stem}
use Rattle.vote_spread.specs.Packed.{HasAdded}
use Rattle.vote_spread.specs.Merged.{front, behind, first_ballots, AreParts, IsAlone, AreAlike, HasMerged}
use Rattle.vote_spread.proofs.MergeLemmas.{IsMerging, merged_one, merged_many, merging-next}
use Rattle.vote_spread.proofs.TailLemmas.{alike_nodes}
use Rattle.vote_spread.proofs.TakenLemmas.{all_taken, fewer_rows, nodes_are_parts, room_below, taken_few}

-- how many rows there are
abbrev pub size : List (List PlanRow) → ℕ
size parts = sum_by (λ (rows : List PlanRow). length rows) parts

-- what stands past the end of rows
abbrev pub no_row : PlanRow
no_row = record { depth = 0; candidate = 0; ballots = 0; skip = 0 }

-- ---- nodes of candidate c are taken out of parts

pub record AreOut (d c : ℕ) (parts nodes left : List (List PlanRow)) : Type 0 where
  pub nodes_are : nodes ≡ flat_map (front c) parts
  pub left_are : left ≡ map (behind c) parts
  pub are : AreParts d nodes
  pub alone : All (IsAlone c) nodes
  pub few : length nodes ≤ length parts
  pub as_many : length left ≡ length parts
  pub as_large : size nodes + size left ≡ size parts
  pub some : 1 ≤ length nodes → 1 ≤ size nodes

pub taken_out :
    {d : ℕ} (c : ℕ) {parts nodes left : List (List PlanRow)} → AreParts d parts → nodes ≡ flat_map (front c) parts
    → left ≡ map (behind c) parts → AreOut d c parts nodes left
taken_out {d = d} c {parts = parts} {nodes = nodes} {left = left} are nodes_are left_are =
    let t = all_taken 250 d c parts are.each in
    let alone : All (IsAlone c) nodes = subst (All (IsAlone c)) (sym nodes_are) t.alone in
    record {
      nodes_are = nodes_are;
      left_are = left_are;
      are = subst (AreParts d) (sym nodes_are) (nodes_are_parts d c parts are);
      alone = alone;
      few = omega (arith, ap (λ (l : List (List PlanRow)). length l) nodes_are, taken_few c parts);
      as_many = ap (λ (l : List (List PlanRow)). length l) left_are ∙ length-map parts (behind c);
      as_large = omega (arith, ap size nodes_are, ap size left_are, t.shorter);
      some = λ some. fewer_rows c nodes some alone;
    }

-- the parts without them are on their way, once they are packed
pub merged_out :
    {d c : ℕ} {all parts nodes left : List (List PlanRow)} {old now next : List Stem}
    → AreOut d c parts nodes left → IsMerging d all parts old now → HasMerged d nodes now next
    → IsMerging d all left old next
merged_out {d = d} {c = c} {all = all} {parts = parts} {old = old} {now = now} {next = next} out so_far has =
    subst (λ (l : List (List PlanRow)). IsMerging d all l old next) (sym out.left_are)
    (merging-next d c all parts old now next so_far
    (subst (λ (l : List (List PlanRow)). HasMerged d l now next) out.nodes_are has))

-- of so many parts some are left, of which so many nodes are taken out
pub room_enough :
    (d all parts nodes room : ℕ) → d ≤ 251 → parts ≡ all → nodes ≤ parts → (252 - d) * all ≤ room
    → (nodes ≤ room) × ((251 - d) * nodes ≤ room - nodes)
room_enough d all parts nodes room deep same few enough =
    let depths : 252 - d ≡ (251 - d) + 1 = omega arith in
    room_below (251 - d) parts nodes room few
    (omega (arith, ap (λ (m : ℕ). m * parts) depths, ap (λ (m : ℕ). (252 - d) * m) same, enough))

-- ---- one branch for the nodes of one candidate

-- a list of one
only : {A : Type 0} (l : List A) (x e : A) → length l ≡ 1 → x ≡ get_or l 0 e → l ≡ x ∷ []
only [] x e one is = absurd (omega arith)
only (y ∷ []) x e one is = ap (λ z. z ∷ []) (sym is)
only (y ∷ z ∷ zs) x e one is = absurd (omega arith)

pub merged_alone :
    {d : ℕ} {nodes : List (List PlanRow)} {rows : List PlanRow} {old new : List Stem} (e : List PlanRow)
    → length nodes ≡ 1 → rows ≡ get_or nodes 0 e → HasAdded d rows old new → HasMerged d nodes old new
merged_alone {d = d} {nodes = nodes} {rows = rows} {old = old} {new = new} e one is has =
    subst (λ (l : List (List PlanRow)). HasMerged d l old new) (sym (only nodes rows e one is))
    (merged_one d rows old new has)

-- nodes that go on alike are one branch with the rows after the first node's first as its tail
pub record IsOneBranch (d c ballots : ℕ) (nodes : List (List PlanRow)) (rows : List PlanRow) : Type 0 where
  pub short : length rows ≤ 250
  pub known : All (λ r. r.candidate ≤ 250) rows
  pub merged :
      (old : List Stem)
      → HasMerged d nodes old
      (old ++ stem_of_row d (record { depth = d; candidate = c; ballots = ballots; skip = 1 }) rows ∷ [])

pub one_branch :
    {d c ballots : ℕ} {nodes opened : List (List PlanRow)} {rows : List PlanRow} (e : List PlanRow) → 1 ≤ d
    → 1 ≤ length nodes → AreParts d nodes → All (IsAlone c) nodes → AreAlike nodes
    → ballots ≡ sum_by first_ballots nodes → opened ≡ map (λ r. drop 1 r) nodes → rows ≡ get_or opened 0 e
    → IsOneBranch d c ballots nodes rows
one_branch {d = d} {c = c} {ballots = ballots} {nodes = nodes} {opened = opened} {rows = rows} e pos some are alone
    alike total low is =
    let tailed = alike_nodes d c ballots nodes no_row [] pos some are.each alone alike total in
    let row : PlanRow = record { depth = d; candidate = c; ballots = ballots; skip = 1 } in
    let same : rows ≡ drop 1 (get_or nodes 0 []) =
    is
    ∙ (ap (λ (l : List (List PlanRow)). get_or l 0 e) low
    ∙ get_or-map (λ (r : List PlanRow). drop 1 r) nodes 0 [] e some) in
    record {
      short = subst (λ (l : List PlanRow). length l ≤ 250) (sym same) tailed.short;
      known = subst (All (λ (r : PlanRow). r.candidate ≤ 250)) (sym same) tailed.known;
      merged =
          λ old. subst (λ (l : List PlanRow). HasMerged d nodes old (old ++ stem_of_row d row l ∷ [])) (sym same)
          (tailed.merged old);
    }

-- A branch for nodes was put after others, at this place, and stems for what is below the nodes after it.
pub record IsOpenBranch (d c ballots : ℕ) (nodes : List (List PlanRow)) (at : ℕ) (old now : List Stem) : Type 0 where
  pub place : at ≡ length old
  pub below :
      HasMerged (d + 1) (map (λ rows. drop 1 rows) nodes)
      (old ++ record { depth = d; candidate = c; ballots = ballots; skip = 1; tail = [] } ∷ []) now

pub open_branch :
    {d c ballots at : ℕ} {nodes opened : List (List PlanRow)} {old pushed now : List Stem} → at ≡ length old
    → pushed ≡ old ++ record { depth = d; candidate = c; ballots = ballots; skip = 1; tail = [] } ∷ []
    → opened ≡ map (λ rows. drop 1 rows) nodes → HasMerged (d + 1) opened pushed now
    → IsOpenBranch d c ballots nodes at old now
open_branch {d = d} {nodes = nodes} {pushed = pushed} {now = now} place put low below = record {
  place = place;
  below =
      subst (λ (l : List Stem). HasMerged (d + 1) (map (λ rows. drop 1 rows) nodes) l now) put
      (subst (λ (l : List (List PlanRow)). HasMerged (d + 1) l pushed now) low below);
}

module _ {d c ballots at : ℕ} {nodes : List (List PlanRow)} {old now : List Stem}
    (branch : IsOpenBranch d c ballots nodes at old now) where
  pub branch_inside : at < length now
  branch_inside =
      let first : Stem = record { depth = d; candidate = c; ballots = ballots; skip = 1; tail = [] } in
      let all = ap (λ (l : List Stem). length l) branch.below.is in
      omega (
        arith,
        all,
        length-append (old ++ first ∷ []) branch.below.added,
        length-append old (first ∷ []),
        branch.place,
      )

  -- it is closed after them
  pub branch_closed :
      (f : Stem) → 1 ≤ d → 1 ≤ length nodes → AreParts d nodes → All (IsAlone c) nodes
      → ballots ≡ sum_by first_ballots nodes
      → HasMerged d nodes old (set now at (closed_stem (get_or now at f) (length now - at)))
  branch_closed f pos some are alone total =
      merged_many d c ballots nodes no_row f old now at pos some are.each alone total branch.place branch.below
