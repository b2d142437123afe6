-- The candidate that is first in parts.
use Rattle.std.proofs.Common.{◌≡◌, ℕ, ◌+◌, ◌≤◌, true, List, [], ◌∷◌, ◌++◌, length, Option, Some, None, IfSome}
use Rattle.std.proofs.Common.{◌⊎◌, ⊎_elim, arith, ap, sym, subst, ◌∙◌}
use Rattle.std.specs.List.{All, flat_map}
use Rattle.std.specs.Prelude.{IfNone}
use Rattle.std.proofs.lemmas.Bool.{false≢true}
use Rattle.std.proofs.lemmas.Grind.{flat_map-append}
use Rattle.std.proofs.lemmas.List.{append-nil, length-append}
use Rattle.std.proofs.lemmas.List.Elements.{All-nil, All-append}
use Rattle.frozen_plan.specs.declared.plan_row.PlanRow.{PlanRow}
use Rattle.vote_spread.specs.Merged.{begins, front}
use Rattle.vote_spread.proofs.PartLemmas.{All-one}

some_weaker : (o : Option ℕ) (P Q : ℕ → Type 0) → ((c : ℕ) → P c → Q c) → IfSome o P → IfSome o Q
some_weaker None P Q weaker holds = tt
some_weaker (Some c) P Q weaker holds = weaker c holds

begins_front : (c : ℕ) (rows : List PlanRow) → begins c rows ≡ true → 1 ≤ length (front c rows)
begins_front c [] is = absurd (false≢true is)
begins_front c (row ∷ rows) is = rw is (omega arith)

pub record IsFirst (least : Option ℕ) (parts : List (List PlanRow)) : Type 0 where
  pub some : IfSome least (λ c. 1 ≤ length (flat_map (front c) parts))
  pub none : IfNone least (All (λ rows. rows ≡ []) parts)

pub first-none : IsFirst None []
first-none = record { some = tt; none = All-nil (λ (rows : List PlanRow). rows ≡ []) }

front-append :
    (c : ℕ) (parts : List (List PlanRow)) (rows : List PlanRow)
    → length (flat_map (front c) (parts ++ rows ∷ []))
    ≡ length (flat_map (front c) parts) + length (front c rows)
front-append c parts rows =
    ap (λ (l : List (List PlanRow)). length l) (flat_map-append (front c) parts (rows ∷ []))
    ∙ (length-append (flat_map (front c) parts) (front c rows ++ [])
    ∙ ap (λ (l : List (List PlanRow)). length (flat_map (front c) parts) + length l)
    (append-nil (front c rows)))

first_none_more :
    (result one other : Option ℕ) (parts : List (List PlanRow)) (rows : List PlanRow) → IsFirst one parts
    → IfNone other (rows ≡ []) → IfNone result ((one ≡ None) × (other ≡ None))
    → IfNone result (All (λ rs. rs ≡ []) (parts ++ rows ∷ []))
first_none_more (Some c) one other parts rows first ends both = tt
first_none_more None one other parts rows first ends both =
    let E : List PlanRow → Type 0 = λ rs. rs ≡ [] in
    All-append E parts (rows ∷ []) (subst (λ (o : Option ℕ). IfNone o (All E parts)) both.0 first.none)
    (All-one E rows (subst (λ (o : Option ℕ). IfNone o (rows ≡ [])) both.1 ends))

pub first-more :
    (result one other : Option ℕ) (parts : List (List PlanRow)) (rows : List PlanRow) → IsFirst one parts
    → IfSome other (λ c. begins c rows ≡ true) → IfNone other (rows ≡ [])
    → (result ≡ one) ⊎ (result ≡ other) → IfNone result ((one ≡ None) × (other ≡ None)) → IsFirst result (parts ++ rows ∷ [])
first-more result one other parts rows first starts ends either both =
    let Q : ℕ → Type 0 = λ c. 1 ≤ length (flat_map (front c) (parts ++ rows ∷ [])) in
    record {
      some = ⊎_elim
          (λ (is : result ≡ one). subst (λ (o : Option ℕ). IfSome o Q) (sym is)
          (some_weaker one (λ c. 1 ≤ length (flat_map (front c) parts)) Q
          (λ c some. omega (arith, some, front-append c parts rows)) first.some))
          (λ (is : result ≡ other). subst (λ (o : Option ℕ). IfSome o Q) (sym is)
          (some_weaker other (λ c. begins c rows ≡ true) Q
          (λ c begun. omega (arith, begins_front c rows begun, front-append c parts rows)) starts))
          either;
      none = first_none_more result one other parts rows first ends both;
    }
