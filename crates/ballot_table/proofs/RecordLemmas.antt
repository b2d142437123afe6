-- Records in another order below the same head.
use Rattle.std.proofs.Common.{◌≡◌, ℕ, ◌≤◌, ◌++◌, List, [], ◌∷◌, map, take, Option, Some, None, Result, All}
use Rattle.std.proofs.Common.{refl, ap, sym, ◌∙◌, subst, option_to_list}
use Rattle.std.specs.List.{filter_map, cons_option, enumerate_from, flat_map}
use Rattle.std.specs.List.Sorted.{IsPermutation}
use Rattle.plain_ballots.proofs.PermutationLemmas.{flat_map-IsPermutation}
use Rattle.ballot_marks.specs.declared.treatment.Treatment.{Treatment}
use Rattle.ballot_table.specs.declared.column.Column.{Column}
use Rattle.ballot_table.specs.declared.empty.Empty.{Empty}
use Rattle.ballot_table.specs.Asked.{Asked}
use Rattle.ballot_table.specs.declared.table_kind.TableKind.{TableKind}
use Rattle.ballot_table.specs.Faults.{first_fault, sound}
use Rattle.ballot_table.specs.Head.{column_of, columns, columns_of, head_fault, names_of}
use Rattle.ballot_table.specs.Laws.{IsCounted}
use Rattle.ballot_table.specs.Rows.{Row, room_behind, row_fault, row_of}
use Rattle.ballot_table.specs.Table.{ballots, row_faults, rows_of}
use Rattle.ballot_table.proofs.BallotsLemmas.{in_any_order}
use Rattle.ballot_table.proofs.BehindLemmas.{places_are_each}
use Rattle.ballot_table.proofs.FaultLemmas.{IsNothing, or_none}
use Rattle.ballot_table.proofs.OrderLemmas.{judged, sound_in_any_order}
use Rattle.ballot_table.proofs.RoomLemmas.{rows_free}
use Rattle.ballot_table.proofs.WeightLemmas.{IsFine, all_fine, few_weights, weights}

-- what is there of a list in another order
put : {Y : Type 0} (o : Option Y) (ys : List Y) → option_to_list o ++ ys ≡ cons_option o ys
put None ys = refl
put (Some y) ys = refl

as_lists : {X Y : Type 0} (f : X → Option Y) (xs : List X) → flat_map (λ x. option_to_list (f x)) xs ≡ filter_map f xs
as_lists f [] = refl
as_lists f (x ∷ xs) =
    put (f x) (flat_map (λ y. option_to_list (f y)) xs) ∙ ap (cons_option (f x)) (as_lists f xs)

there_moved : {X Y : Type 0} (f : X → Option Y) (one other : List X) → IsPermutation one other
    → IsPermutation (filter_map f one) (filter_map f other)
there_moved f one other moved =
    subst (λ ys. IsPermutation (filter_map f one) ys) (as_lists f other)
    (subst (λ xs. IsPermutation xs (flat_map (λ x. option_to_list (f x)) other)) (as_lists f one)
    (flat_map-IsPermutation (λ x. option_to_list (f x)) one other moved))

-- two steps along a list, made one
in_one_step : {X Y Z : Type 0} (f : Y → Z) (g : X → Y) (xs : List X) → map f (map g xs) ≡ map (λ x. f (g x)) xs
in_one_step f g [] = refl
in_one_step f g (x ∷ xs) = ap (λ ys. f (g x) ∷ ys) (in_one_step f g xs)

module _ (asked : Asked) (empty : Empty) where
  faults_are_judged : (cols : List Column) (rows : List (List (List ℕ)))
      → row_faults asked empty cols rows ≡ judged asked empty cols [] rows
  faults_are_judged cols rows =
      in_one_step (λ (r : ℕ × List (List ℕ)). row_fault asked empty r.0 cols r.1)
      (λ (at : ℕ × List (List ℕ)). (room_behind cols (take at.0 rows), at.1)) (enumerate_from 0 rows)
      ∙ places_are_each (λ before texts. row_fault asked empty (room_behind cols before) cols texts) [] rows

  one_weight : (head : List (List ℕ)) → head_fault asked head ≡ None → weights (columns asked head) ≤ 1
  one_weight head none =
      let same = places_are_each (column_of asked head) [] head in
      let fine = all_fine 1 (columns_of asked head) (or_none (first_fault (columns_of asked head)) _ none).0 in
      let few = (few_weights asked head [] head (subst (All IsFine) same fine)).one in
      subst (λ (rs : List (Result Column TableKind)). weights (sound rs) ≤ 1) (sym same) few

  module _ (t : Treatment) (head : List (List ℕ)) (one other : List (List (List ℕ))) (moved : IsPermutation one other)
    where
      abbrev cols : List Column
      cols = columns asked head

      abbrev row : List (List ℕ) → Option Row
      row texts = row_of asked empty 0 cols texts

      rows_are : (rows : List (List (List ℕ))) → rows_of asked empty cols rows ≡ filter_map row rows
      rows_are rows = rows_free asked empty cols (λ i. room_behind cols (take i rows)) 0 rows

      sound_moved : head_fault asked head ≡ None → All IsNothing (row_faults asked empty cols one)
          → All IsNothing (row_faults asked empty cols other)
      sound_moved head_sound all =
          subst (All IsNothing) (sym (faults_are_judged cols other))
          (sound_in_any_order asked empty cols (one_weight head head_sound) one other moved
          (subst (All IsNothing) (faults_are_judged cols one) all))

      pub counted_in_any_order : (counted : IsCounted asked t empty head one)
          → (again : IsCounted asked t empty head other) × IsPermutation counted.rankings again.rankings
      counted_in_any_order counted =
          let here : ballots t (filter_map row one) ≡ Some counted.rankings =
          ap (ballots t) (sym (rows_are one)) ∙ ap (ballots t) (sym counted.is_table.rows) ∙ counted.ranked in
          let there =
          in_any_order t (filter_map row one) (filter_map row other) counted.rankings
          (there_moved row one other moved) here in (
            record {
              table = record { names = names_of asked head; rows = rows_of asked empty cols other };
              is_table = record {
                head_sound = counted.is_table.head_sound;
                rows_sound = sound_moved counted.is_table.head_sound counted.is_table.rows_sound;
                names = refl;
                rows = refl;
              };
              rankings = there.0;
              ranked = ap (ballots t) (rows_are other) ∙ there.1;
            },
            there.2,
          )
