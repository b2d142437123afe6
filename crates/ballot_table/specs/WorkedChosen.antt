-- Heads of choices whose columns the words name, worked by hand.
use Rattle.std.specs.Prelude.{◌≡◌, ℕ, Some, None, List, [], ◌∷◌, codes}
use Rattle.ballot_marks.specs.Laws.{strict}
use Rattle.ballot_table.specs.declared.column.Column.TheVariants.{PassedOver, Rank, Weight}
use Rattle.ballot_table.specs.declared.empty.Empty.TheVariants.{Refuse}
use Rattle.ballot_table.specs.declared.table_kind.TableKind.TheVariants.{BadColumns, NoColumn, RepeatedColumn}
use Rattle.ballot_table.specs.Asked.{Asked}
use Rattle.ballot_table.specs.Head.{columns, head_fault}
use Rattle.ballot_table.specs.Worked.{ballots_under, choosing, fault, row3}

-- of three candidates the columns of these heads are read
abbrev pub reading : List (List ℕ) → Asked
reading heads = record choosing { labels = heads; chosen = heads }

pub record WorkedChosen : Type 0 where
  pub lone_head : head_fault choosing (codes "vote 2026" ∷ []) ≡ fault BadColumns 1
  pub lone_head_read : head_fault (reading (codes "vote 2026" ∷ [])) (codes "vote 2026" ∷ []) ≡ None
  pub in_order_of_rank :
      columns (reading (codes "then" ∷ codes "first" ∷ []))
      (codes "first" ∷ codes "rank3" ∷ codes "then" ∷ codes "Ben" ∷ [])
      ≡ Rank 2 ∷ PassedOver ∷ Rank 1 ∷ PassedOver ∷ []
  pub beside_a_weight :
      columns
      (record choosing {
        labels = codes "r" ∷ codes "n" ∷ codes "id" ∷ [];
        weight = Some (codes "n");
        chosen = codes "r" ∷ [];
      })
      (codes "id" ∷ codes "n" ∷ codes "r" ∷ [])
      ≡ PassedOver ∷ Weight ∷ Rank 1 ∷ []
  pub passed_over : head_fault (reading (codes "r" ∷ [])) (codes "Ben" ∷ [] ∷ codes "r" ∷ []) ≡ None
  pub nowhere : head_fault (reading (codes "r" ∷ codes "s" ∷ [])) (codes "r" ∷ codes "t" ∷ []) ≡ fault NoColumn 2
  pub again : head_fault (reading (codes "r" ∷ [])) (codes "r" ∷ codes "t" ∷ codes "r" ∷ []) ≡ fault RepeatedColumn 3
  pub ballots :
      ballots_under strict Refuse (reading (codes "then" ∷ codes "first" ∷ []))
      (row3 (codes "first") (codes "rank1") (codes "then"))
      (row3 (codes "Ann") (codes "x") (codes "Cid") ∷ row3 [] (codes "Ann") (codes "Ben") ∷ [])
      ≡ Some ((3 ∷ 1 ∷ []) ∷ (2 ∷ []) ∷ [])
