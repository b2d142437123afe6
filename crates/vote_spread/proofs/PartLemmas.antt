-- Siblings of several plans.
use Rattle.std.proofs.Common.{◌≡◌, ℕ, ◌+◌, ◌-◌, ◌<◌, List, [], ◌∷◌, ◌++◌, length, map, take, drop, get_or}
use Rattle.std.proofs.Common.{sum, sum_by, arith, refl, ap, ◌∙◌}
use Rattle.std.specs.List.{All}
use Rattle.std.proofs.lemmas.Grind.{flat_map-append}
use Rattle.std.proofs.lemmas.List.{length-map, length-take-le, get_or-append_right, get_or-drop}
use Rattle.std.proofs.lemmas.List.Elements.{All-nil, All-cons}
use Rattle.std.proofs.lemmas.List.Sums.{sum_by-append, sum_by-cons}
use Rattle.frozen_plan.specs.declared.plan_row.PlanRow.{PlanRow}
use Rattle.frozen_plan.specs.Forest.{ballots_of, nodes_of}
use Rattle.meek_rule.specs.Weights.{given}
use Rattle.vote_spread.specs.Stem.{Stem}
use Rattle.vote_spread.specs.Gain.{gains}
use Rattle.vote_spread.specs.Packed.{StandFor, AreRows}
use Rattle.vote_spread.specs.Merged.{part_ballots, AreOfAll}

pub part-cons :
    (f : List ℕ → ℕ) (rows : List PlanRow) (parts : List (List PlanRow))
    → sum_by f (part_ballots (rows ∷ parts))
    ≡ sum_by f (ballots_of (nodes_of rows)) + sum_by f (part_ballots parts)
part-cons f rows parts = sum_by-append f (ballots_of (nodes_of rows)) (part_ballots parts)

pub part-append :
    (f : List ℕ → ℕ) (some more : List (List PlanRow))
    → sum_by f (part_ballots (some ++ more)) ≡ sum_by f (part_ballots some) + sum_by f (part_ballots more)
part-append f some more =
    ap (sum_by f) (flat_map-append (λ (rows : List PlanRow). ballots_of (nodes_of rows)) some more)
    ∙ sum_by-append f (part_ballots some) (part_ballots more)

pub counted_by : (xs : List (List ℕ)) → length xs ≡ sum_by (λ (x : List ℕ). 1) xs
counted_by [] = refl
counted_by (x ∷ xs) = omega (arith, counted_by xs, sum_by-cons (λ (y : List ℕ). 1) x xs)

-- the same sums are as good
pub stand_same :
    (n d : ℕ) (stems : List Stem) (xs ys : List (List ℕ)) → ((f : List ℕ → ℕ) → sum_by f xs ≡ sum_by f ys)
    → StandFor n d stems xs → StandFor n d stems ys
stand_same n d stems xs ys same stand = record {
  deep = stand.deep;
  from = stand.from;
  walk = stand.walk;
  gives =
      λ s keeps c weights rest is walk long.
      stand.gives s keeps c weights rest is walk long
      ∙ ap (λ m. m + sum (gains s keeps c weights rest)) (same (λ r. given s keeps (get_or weights (d - 1) 0) r c));
}

pub rows_of_all :
    (n d : ℕ) (parts : List (List PlanRow)) → All (AreRows 250 d) parts → All (AreOfAll n d) parts
    → All (AreRows n d) parts
rows_of_all n d parts are all k e inside =
    let some = are k e inside in
    record { preorder = some.preorder; low = (all k e inside).low; grown = (all k e inside).grown; few = some.few }

pub of_all_rows : (n d : ℕ) (parts : List (List PlanRow)) → All (AreRows n d) parts → All (AreOfAll n d) parts
of_all_rows n d parts are k e inside = record { low = (are k e inside).low; grown = (are k e inside).grown }

pub All-one : {X : Type 0} (P : X → Type 0) (x : X) → P x → All P (x ∷ [])
All-one P x holds = All-cons P x [] holds (All-nil P)

-- a loop that changes each part
pub item_is :
    (f : List PlanRow → List PlanRow) (xs ys : List (List PlanRow)) (i : ℕ) (x : List PlanRow) → i < length xs
    → ys ≡ map f (take i xs) ++ drop i xs → x ≡ get_or ys i x → x ≡ get_or xs i x
item_is f xs ys i x inside so_far is =
    let front = map f (take i xs) in
    let size : length front ≡ i = length-map (take i xs) f ∙ length-take-le i xs (omega arith) in
    let here : i + (i - i) ≡ i = omega arith in
    is ∙ (ap (λ (l : List (List PlanRow)). get_or l i x) so_far
    ∙ (get_or-append_right front (drop i xs) i i x size (omega arith)
    ∙ (get_or-drop i xs (i - i) x ∙ ap (λ (j : ℕ). get_or xs j x) here)))
