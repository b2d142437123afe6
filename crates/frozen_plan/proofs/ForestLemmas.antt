-- Siblings put after others.
use Rattle.std.proofs.Common.{◌≡◌, ℕ, ◌+◌, List, [], ◌∷◌, ◌++◌, length, map, replicate, refl, ap, sym, ◌∙◌, append_assoc}
use Rattle.frozen_plan.specs.declared.plan_row.PlanRow.{PlanRow}
use Rattle.frozen_plan.specs.Forest.{Forest, Bare, Grown, ballots_of, through, rows_of, IsGrown}

-- the siblings of one forest and after them those of another
abbrev pub join : Forest → Forest → Forest
join Bare g = g
join (Grown c n inner next) g = Grown c n inner (join next g)

-- the last sibling's candidate, or `low` where there is none
abbrev pub last : (low : ℕ) → Forest → ℕ
last low Bare = low
last low (Grown c n inner next) = last c next

pub rows_of-join : (d : ℕ) (f g : Forest) → rows_of d (join f g) ≡ rows_of d f ++ rows_of d g
rows_of-join d Bare g = refl
rows_of-join d (Grown c n inner next) g =
    let row : PlanRow =
    record {
      depth = d;
      candidate = c;
      ballots = n + through inner;
      skip = length (rows_of (d + 1) inner) + 1;
    } in
    ap (λ (l : List PlanRow). row ∷ (rows_of (d + 1) inner ++ l)) (rows_of-join d next g)
    ∙ ap (λ (l : List PlanRow). row ∷ l) (sym (append_assoc (rows_of (d + 1) inner) (rows_of d next) (rows_of d g)))

pub ballots_of-join : (f g : Forest) → ballots_of (join f g) ≡ ballots_of f ++ ballots_of g
ballots_of-join Bare g = refl
ballots_of-join (Grown c n inner next) g =
    let low : List (List ℕ) = map (λ r. c ∷ r) (replicate n [] ++ ballots_of inner) in
    ap (λ (l : List (List ℕ)). low ++ l) (ballots_of-join next g) ∙ sym (append_assoc low (ballots_of next) (ballots_of g))

-- siblings rise on where the first of the others is above the last of the one
pub IsGrown-join : (n low d : ℕ) (f g : Forest) → IsGrown n low d f → IsGrown n (last low f) d g → IsGrown n low d (join f g)
IsGrown-join n low d Bare g one other = other
IsGrown-join n low d (Grown c k inner next) g one other =
    (one.0, one.1, one.2, one.3, one.4, IsGrown-join n c d next g one.5 other)

pub last-join : (low : ℕ) (f : Forest) (c n : ℕ) (inner : Forest) → last low (join f (Grown c n inner Bare)) ≡ c
last-join low Bare c n inner = refl
last-join low (Grown b m below next) c n inner = last-join b next c n inner
