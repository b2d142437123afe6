-- The ballots of rows.
use Rattle.std.proofs.Common.{◌≡◌, ℕ, List, [], ◌∷◌, ◌++◌, Option, Some, None, All, refl, ap, sym, ◌∙◌}
use Rattle.std.proofs.Common.{subst}
use Rattle.std.specs.List.{flat_map}
use Rattle.std.specs.List.Sorted.{IsPermutation}
use Rattle.std.specs.Option.{option_map, option_and_then, unwrap_or}
use Rattle.std.proofs.lemmas.List.Elements.{All-nil, All-cons, All-head, All-tail}
use Rattle.std.proofs.lemmas.List.Sorted.{All-permutation}
use Rattle.plain_ballots.proofs.PermutationLemmas.{flat_map-IsPermutation}
use Rattle.ballot_marks.specs.declared.treatment.Treatment.{Treatment}
use Rattle.ballot_table.specs.Rows.{Row}
use Rattle.ballot_table.specs.Table.{plain_of, ballots}

-- two lists joined, where both are there
abbrev pub joined : Option (List (List ℕ)) → Option (List (List ℕ)) → Option (List (List ℕ))
joined first rest = option_and_then (λ xs. option_map (λ ys. xs ++ ys) rest) first

-- both of two are there, and joined they are these
pub record IsJoined (first rest : Option (List (List ℕ))) (all : List (List ℕ)) : Type 0 where
  pub front : List (List ℕ)
  pub back : List (List ℕ)
  pub first_is : first ≡ Some front
  pub rest_is : rest ≡ Some back
  pub all_is : front ++ back ≡ all

pub parted : (first rest : Option (List (List ℕ))) (all : List (List ℕ)) → joined first rest ≡ Some all
    → IsJoined first rest all
parted None rest all is = absurd (cc is)
parted (Some front) None all is = absurd (cc is)
parted (Some front) (Some back) all is =
    record { front = front; back = back; first_is = refl; rest_is = refl; all_is = cc is }

-- what a mapped value comes from
pub mapped :
    {X Y : Type 0} (f : X → Y) (o : Option X) (y : Y) → option_map f o ≡ Some y
    → (x : X) × (o ≡ Some x) × (f x ≡ y)
mapped f None y is = absurd (cc is)
mapped f (Some x) y is = (x, refl, cc is)

module _ (t : Treatment) where
  -- the ballots of a row, and none where it is refused
  abbrev pieces : Row → List (List ℕ)
  pieces row = unwrap_or (plain_of t row) []

  -- a row has a ranking
  abbrev IsCounted : Row → Type 0
  IsCounted row = plain_of t row ≡ Some (pieces row)

  counted : (row : Row) (front : List (List ℕ)) → plain_of t row ≡ Some front → IsCounted row
  counted row front is = is ∙ ap (λ o. Some (unwrap_or o [])) (sym is)

  -- where rows have ballots, each has a ranking
  all_counted : (rows : List Row) (all : List (List ℕ)) → ballots t rows ≡ Some all → All IsCounted rows
  all_counted [] all is = All-nil IsCounted
  all_counted (row ∷ rows) all is =
      let parts = parted (plain_of t row) (ballots t rows) all is in
      All-cons IsCounted row rows (counted row parts.front parts.first_is)
      (all_counted rows parts.back parts.rest_is)

  -- and then their ballots are the pieces of all, one after another
  in_pieces : (rows : List Row) → All IsCounted rows → ballots t rows ≡ Some (flat_map pieces rows)
  in_pieces [] all = refl
  in_pieces (row ∷ rows) all =
      ap (λ o. joined o (ballots t rows)) (All-head IsCounted row rows all)
      ∙ ap (λ o. joined (Some (pieces row)) o) (in_pieces rows (All-tail IsCounted row rows all))

  same_Some : (xs ys : List (List ℕ)) → Some xs ≡ Some ys → xs ≡ ys
  same_Some xs ys is = cc is

  pub in_any_order :
      (one other : List Row) (rankings : List (List ℕ)) → IsPermutation one other
      → ballots t one ≡ Some rankings
      → (others : List (List ℕ)) × (ballots t other ≡ Some others) × IsPermutation rankings others
  in_any_order one other rankings moved is =
      let all = all_counted one rankings is in
      let same = same_Some (flat_map pieces one) rankings (sym (in_pieces one all) ∙ is) in (
        flat_map pieces other,
        in_pieces other (All-permutation IsCounted one other moved all),
        subst (λ l. IsPermutation l (flat_map pieces other)) same
            (flat_map-IsPermutation pieces one other moved),
      )
