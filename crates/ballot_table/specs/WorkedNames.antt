-- Names of columns worked by hand: of heads of several records, and of tables without a head.
use Rattle.std.specs.Prelude.{◌≡◌, ℕ, true, List, [], ◌∷◌, codes}
use Rattle.ballot_table.specs.declared.column.Column.TheVariants.{PassedOver, Rank}
use Rattle.ballot_table.specs.declared.layout.Layout.TheVariants.{Ranks}
use Rattle.ballot_table.specs.Asked.{Asked}
use Rattle.ballot_table.specs.ColumnNames.{column_names}
use Rattle.ballot_table.specs.Head.{columns, names_of}
use Rattle.ballot_table.specs.Worked.{ann_ben_cid, choosing, plainly, row3}

-- three candidates, a column for each rank, and no head
abbrev pub unheaded : Asked
unheaded = record choosing { head_is_said = true; heads = 0 }

pub record WorkedNames : Type 0 where
  pub one : column_names 3 (ann_ben_cid ∷ []) ≡ ann_ben_cid
  pub two :
      column_names 3 (row3 (codes "id") (codes "Rank them") [] ∷ row3 [] (codes "Ann") (codes "Ben") ∷ [])
      ≡ codes "id" ∷ codes "Ann" ∷ codes "Ben" ∷ []
  pub three :
      column_names 3
      (row3 (codes "a") (codes "b") (codes "c") ∷ (codes "d" ∷ []) ∷ row3 [] (codes "e") [] ∷ [])
      ≡ codes "d" ∷ codes "e" ∷ codes "c" ∷ []
  pub nowhere : column_names 2 ((codes "sep=" ∷ []) ∷ (codes "Ann" ∷ [] ∷ []) ∷ []) ≡ codes "Ann" ∷ [] ∷ []
  pub narrower : column_names 1 ((codes "sep=" ∷ codes "x" ∷ []) ∷ (codes "Order" ∷ []) ∷ []) ≡ codes "Order" ∷ []
  pub numbers :
      column_names 11 []
      ≡ codes "1" ∷ codes "2" ∷ codes "3" ∷ codes "4" ∷ codes "5" ∷ codes "6" ∷ codes "7" ∷ codes "8" ∷ codes "9"
      ∷ codes "10" ∷ codes "11" ∷ []
  pub numbers_are_names : names_of (plainly Ranks) (column_names 2 []) ≡ codes "1" ∷ codes "2" ∷ []
  -- A column's number says no rank: without the first the others are still ranks 1 and 2.
  pub numbers_are_no_ranks :
      columns (record unheaded { labels = codes "1" ∷ [] }) (column_names 3 []) ≡ PassedOver ∷ Rank 1 ∷ Rank 2 ∷ []
