-- Tables worked by hand.
use Rattle.std.specs.Prelude.{◌≡◌, ◌+◌, ◌/◌, ◌%◌, ℕ, false, true, List, [], ◌∷◌, ◌++◌, map, replicate, Option, Some, None, codes}
use Rattle.std.specs.List.{range_with_len}
use Rattle.ballot_marks.specs.declared.choice.Treat.TheVariants.{Cut, Pass}
use Rattle.ballot_marks.specs.declared.treatment.Treatment.{Treatment}
use Rattle.ballot_marks.specs.Laws.{strict}
use Rattle.ballot_table.specs.declared.column.Column.TheVariants.{Rank}
use Rattle.ballot_table.specs.declared.layout.Layout.{Layout}
use Rattle.ballot_table.specs.declared.layout.Layout.TheVariants.{Ranks, Choices, List as Lists}
use Rattle.ballot_table.specs.declared.empty.Empty.{Empty}
use Rattle.ballot_table.specs.declared.empty.Empty.TheVariants.{Refuse, Keep, Drop}
use Rattle.ballot_table.specs.declared.table_kind.TableKind.{TableKind}
use Rattle.ballot_table.specs.declared.table_kind.TableKind.TheVariants.{NoColumn, RepeatedColumn}
use Rattle.ballot_table.specs.declared.table_kind.TableKind.TheVariants.{ColumnExpected, NameExpected}
use Rattle.ballot_table.specs.declared.table_kind.TableKind.TheVariants.{TooManyColumns, TooLongName, TooManyCandidates}
use Rattle.ballot_table.specs.declared.table_kind.TableKind.TheVariants.{BadName, BadWithdrawn, BadRank}
use Rattle.ballot_table.specs.declared.table_kind.TableKind.TheVariants.{BadWeight, TooManyBallots}
use Rattle.ballot_table.specs.declared.table_kind.TableKind.TheVariants.{UnequalRow, EmptyRow}
use Rattle.ballot_table.specs.declared.table_kind.TableKind.TheVariants.{NoSuchCandidate, EqualRank, BadColumns, HeadExpected}
use Rattle.ballot_table.specs.declared.table_kind.TableKind.TheVariants.{SkippedRank, Repeated}
use Rattle.ballot_table.specs.Asked.{Asked}
use Rattle.ballot_table.specs.declared.fault.Fault.{Fault}
use Rattle.ballot_table.specs.Head.{head_fault, columns, names_of}
use Rattle.ballot_table.specs.Table.{texts_of, row_faults, rows_of, ballots}
use Rattle.ballot_table.specs.Refusals.{TableFault, fault_of_table}

-- nothing is asked but a layout
abbrev pub plainly : Layout → Asked
plainly layout = record {
  layout = layout;
  head_is_said = false;
  heads = 1;
  bracketed = false;
  labels = [];
  chosen = [];
  weight = None;
  blank = [];
  over = [];
  ranks = [];
  candidates = [];
  withdrawn = [];
}

abbrev pub fault : TableKind → ℕ → Option Fault
fault kind place = Some (record { kind = kind; place = place })

-- the ballots of a head and rows
abbrev pub ballots_under :
    Treatment → Empty → Asked → List (List ℕ) → List (List (List ℕ)) → Option (List (List ℕ))
ballots_under treatment empty asked head rows =
    ballots treatment (rows_of asked empty (columns asked (texts_of head)) (map texts_of rows))

-- the faults of rows, each in its form
abbrev pub faults_of : Asked → List (List ℕ) → List (List (List ℕ)) → List (Option Fault)
faults_of asked head rows = row_faults asked Refuse (columns asked (texts_of head)) (map texts_of rows)

abbrev pub ann_ben_cid : List (List ℕ)
ann_ben_cid = codes "Ann" ∷ codes "Ben" ∷ codes "Cid" ∷ []

-- a row of three cells
abbrev pub row3 : List ℕ → List ℕ → List ℕ → List (List ℕ)
row3 a b c = a ∷ b ∷ c ∷ []

-- so many names of two letters, all different
abbrev pub short_names : ℕ → List (List ℕ)
short_names n = map (λ i. (65 + i / 16) ∷ (65 + i % 16) ∷ []) (range_with_len 0 n)

-- three candidates, and a column for each rank
abbrev pub choosing : Asked
choosing = record (plainly Choices) { candidates = ann_ben_cid }

-- heads with and without a fault
pub record WorkedHeads : Type 0 where
  pub sound : head_fault (plainly Ranks) ann_ben_cid ≡ None
  pub no_name : head_fault (plainly Ranks) (codes "Ann" ∷ [] ∷ codes "Cid" ∷ []) ≡ fault NameExpected 2
  pub same_name :
      head_fault (plainly Ranks) (texts_of (codes "Ann" ∷ codes " Ann " ∷ [])) ≡ fault RepeatedColumn 2
  pub quote_in_name : head_fault (plainly Ranks) (codes "Ann" ∷ codes "B\"n" ∷ []) ≡ fault BadName 2
  pub missing :
      head_fault (record (plainly Ranks) { labels = codes "Id" ∷ codes "n" ∷ []; weight = Some (codes "n") })
      (codes "Ann" ∷ codes "Id" ∷ []) ≡ fault NoColumn 2
  pub only_labels :
      head_fault (record (plainly Ranks) { labels = codes "Id" ∷ [] }) (codes "Id" ∷ [])
      ≡ fault ColumnExpected 2
  pub withdrawn :
      head_fault (record (plainly Ranks) { withdrawn = 1 ∷ 3 ∷ [] }) (codes "Ann" ∷ codes "Ben" ∷ [])
      ≡ fault BadWithdrawn 2
  pub withdrawn_of_the_words :
      head_fault (record (plainly Choices) { candidates = codes "Ann" ∷ codes "Ben" ∷ []; withdrawn = 2 ∷ 3 ∷ [] })
      (codes "r1" ∷ codes "r2" ∷ codes "r3" ∷ [])
      ≡ fault BadWithdrawn 2
  pub same_label :
      head_fault (record (plainly Ranks) { labels = codes "Id" ∷ [] })
      (codes "Id" ∷ codes "Ann" ∷ codes "Id" ∷ [])
      ≡ fault RepeatedColumn 3
  pub further_column :
      head_fault (plainly Lists) (codes "Order" ∷ codes "Again" ∷ []) ≡ fault TooManyColumns 2
  pub long_name : head_fault (plainly Ranks) (codes "Ann" ∷ replicate 201 65 ∷ []) ≡ fault TooLongName 2
  pub longest_name : head_fault (plainly Ranks) (codes "Ann" ∷ replicate 200 65 ∷ []) ≡ None
  pub line_end_in_name :
      head_fault (plainly Ranks) (texts_of ((codes "Ann" ++ 10 ∷ []) ∷ [])) ≡ fault BadName 1
  pub most_candidates : head_fault (plainly Ranks) (short_names 250) ≡ None
  pub one_too_many : head_fault (plainly Ranks) (short_names 251) ≡ fault TooManyCandidates 251
  pub in_brackets :
      names_of (record (plainly Ranks) { bracketed = true })
      (codes "Your vote [1 to 2], please [Ben, jr]" ∷ []) ≡ codes "Ben, jr" ∷ []
  pub blanks_in_brackets :
      names_of (record (plainly Ranks) { bracketed = true }) (codes "Vote [ Ann ]" ∷ []) ≡ codes "Ann" ∷ []
  pub by_their_heads :
      columns choosing (codes "1st choice" ∷ codes "rank3" ∷ codes "02" ∷ []) ≡ Rank 1 ∷ Rank 3 ∷ Rank 2 ∷ []
  pub by_their_places :
      columns choosing (codes "rank2" ∷ codes "then" ∷ codes "rank1" ∷ []) ≡ Rank 1 ∷ Rank 2 ∷ Rank 3 ∷ []
  pub two_numbers :
      columns choosing (codes "Q7 rank 2" ∷ codes "Q7 rank 1" ∷ []) ≡ Rank 1 ∷ Rank 2 ∷ []
  pub rank_twice : head_fault choosing (codes "rank1" ∷ codes "rank1" ∷ []) ≡ fault BadColumns 2
  pub rank_above : head_fault choosing (codes "rank2" ∷ codes "rank3" ∷ []) ≡ fault BadColumns 2
  pub rank_of_nought : head_fault choosing (codes "rank0" ∷ codes "rank1" ∷ []) ≡ fault BadColumns 1
  pub candidate_for_head : head_fault choosing (codes "r1" ∷ codes "Ben" ∷ []) ≡ fault HeadExpected 2
  pub blank_for_head : head_fault choosing (codes "r1" ∷ [] ∷ []) ≡ fault HeadExpected 2
  pub list_for_head :
      head_fault (record (plainly Lists) { candidates = ann_ben_cid }) (codes "Ben;Ann;" ∷ []) ≡ fault HeadExpected 1
  pub part_of_no_candidate :
      head_fault (record (plainly Lists) { candidates = ann_ben_cid }) (codes "Ben;Order" ∷ []) ≡ None
  pub ranks_for_head :
      head_fault (record (plainly Ranks) { blank = codes "-" ∷ [] }) (codes "2" ∷ codes "-" ∷ codes "300" ∷ [])
      ≡ fault HeadExpected 1
  pub one_name_among_numbers : head_fault (plainly Ranks) (codes "7" ∷ codes "Ann" ∷ []) ≡ None
  pub said_head : head_fault (record (plainly Ranks) { head_is_said = true }) (codes "1" ∷ codes "2" ∷ []) ≡ None

-- rows, and the ballots that they stand for
pub record WorkedRows : Type 0 where
  pub where_ranks_fall :
      ballots_under strict Refuse choosing (codes "rank3" ∷ codes "rank2" ∷ codes "rank1" ∷ [])
      (row3 (codes "Cid") (codes "Ben") (codes "Ann") ∷ row3 [] (codes "Ann") (codes "Ben") ∷ [])
      ≡ Some ((1 ∷ 2 ∷ 3 ∷ []) ∷ (2 ∷ 1 ∷ []) ∷ [])
  pub ranks :
      ballots_under strict Refuse (plainly Ranks) ann_ben_cid
      (row3 (codes "1") (codes "2") (codes "3") ∷ row3 [] (codes "1") []
      ∷ row3 (codes "2") [] (codes "1") ∷ [])
      ≡ Some ((1 ∷ 2 ∷ 3 ∷ []) ∷ (2 ∷ []) ∷ (3 ∷ 1 ∷ []) ∷ [])
  pub shorter : faults_of (plainly Ranks) ann_ben_cid ((codes "1" ∷ []) ∷ []) ≡ fault UnequalRow 2 ∷ []
  pub no_rank :
      faults_of (plainly Ranks) ann_ben_cid (row3 (codes "1") (codes "0") [] ∷ row3 (codes "1.0") [] [] ∷ [])
      ≡ fault BadRank 2 ∷ fault BadRank 1 ∷ []
  pub greatest_rank :
      faults_of (plainly Ranks) ann_ben_cid (row3 (codes "250") [] [] ∷ row3 (codes "251") [] [] ∷ [])
      ≡ None ∷ fault BadRank 1 ∷ []
  pub choices :
      ballots_under (record strict { repeated = Pass }) Refuse
      (record (plainly Choices) { candidates = ann_ben_cid })
      (codes "r1" ∷ codes "r2" ∷ codes "r3" ∷ []) (row3 (codes "Ben") (codes "Ben") (codes "Ann") ∷ [])
      ≡ Some ((2 ∷ 1 ∷ []) ∷ [])
  pub closed :
      ballots_under (record strict { skipped = Some 250 }) Refuse (plainly Ranks) ann_ben_cid
      (row3 (codes "5") (codes "3") [] ∷ [])
      ≡ Some ((2 ∷ 1 ∷ []) ∷ [])
  pub one_closed :
      ballots_under (record strict { skipped = Some 1 }) Refuse (plainly Ranks) ann_ben_cid
      (row3 (codes "5") (codes "2") [] ∷ [])
      ≡ Some ((2 ∷ []) ∷ [])
  pub none_closed :
      ballots_under (record strict { skipped = Some 0 }) Refuse (plainly Ranks) ann_ben_cid
      (row3 (codes "5") (codes "2") [] ∷ [])
      ≡ Some ([] ∷ [])
  pub cut_again :
      ballots_under (record strict { repeated = Cut }) Refuse
      (record (plainly Choices) { candidates = ann_ben_cid })
      (codes "r1" ∷ codes "r2" ∷ codes "r3" ∷ []) (row3 (codes "Ben") (codes "Ben") (codes "Ann") ∷ [])
      ≡ Some ((2 ∷ []) ∷ [])
  pub dropped_weight :
      ballots_under strict Drop
      (record (plainly Ranks) { labels = codes "n" ∷ []; weight = Some (codes "n") })
      (codes "n" ∷ codes "Ann" ∷ codes "Ben" ∷ [])
      (row3 (codes "2") (codes "1") [] ∷ row3 [] [] [] ∷ row3 (codes "1") [] (codes "1") ∷ [])
      ≡ Some ((1 ∷ []) ∷ (1 ∷ []) ∷ (2 ∷ []) ∷ [])
  pub weights :
      ballots_under (record strict { skipped = Some 9; equal = Cut }) Refuse
      (record (plainly Ranks) { labels = codes "n" ∷ []; weight = Some (codes "n") })
      (codes "n" ∷ codes "Ann" ∷ codes "Ben" ∷ [])
      (row3 (codes "2") (codes "3") (codes "1") ∷ row3 (codes "1") (codes "1") (codes "1")
      ∷ row3 (codes "0") (codes "1") (codes "2") ∷ [])
      ≡ Some ((2 ∷ 1 ∷ []) ∷ (2 ∷ 1 ∷ []) ∷ [] ∷ [])
  pub words :
      ballots_under (record strict { equal = Cut }) Refuse (record (plainly Choices) {
        labels = codes "n" ∷ codes "id" ∷ [];
        weight = Some (codes "n");
        blank = codes "undervote" ∷ [];
        over = codes "overvote" ∷ [];
        candidates = codes "Smith; John" ∷ codes "Doe" ∷ [];
      })
      (codes "id" ∷ codes "n" ∷ codes "r1" ∷ codes "r2" ∷ [])
      ((codes "7" ∷ codes "2" ∷ codes "Doe" ∷ codes "Smith; John" ∷ [])
      ∷ (codes "8" ∷ codes "1" ∷ codes " Doe " ∷ codes "overvote" ∷ [])
      ∷ (codes "9" ∷ codes "0" ∷ codes "Doe" ∷ [] ∷ [])
      ∷ (codes "10" ∷ codes "1" ∷ codes "undervote" ∷ codes "undervote" ∷ []) ∷ [])
      ≡ Some ((2 ∷ 1 ∷ []) ∷ (2 ∷ 1 ∷ []) ∷ (2 ∷ []) ∷ [] ∷ [])
  pub ranks_in_words :
      ballots_under strict Refuse (record (plainly Ranks) {
        labels = codes "Timestamp" ∷ [];
        bracketed = true;
        ranks = codes "1st choice" ∷ codes "2nd choice" ∷ [];
        withdrawn = 2 ∷ [];
      })
      (codes "Timestamp" ∷ codes "Your vote [Ann]" ∷ codes "Your vote [Ben, jr]" ∷ [])
      ((codes "9:00" ∷ codes "1st choice" ∷ codes "2nd choice" ∷ [])
      ∷ (codes "9:01" ∷ [] ∷ codes "1st choice" ∷ []) ∷ [])
      ≡ Some ((1 ∷ 2 ∷ []) ∷ (2 ∷ []) ∷ [])
  pub dropped :
      ballots_under strict Drop (record (plainly Choices) { candidates = ann_ben_cid })
      (codes "r1" ∷ codes "r2" ∷ [])
      ((codes "Cid" ∷ [] ∷ []) ∷ ([] ∷ [] ∷ []) ∷ [])
      ≡ Some ((3 ∷ []) ∷ [])
  pub kept :
      ballots_under strict Keep (record (plainly Choices) { candidates = ann_ben_cid })
      (codes "r1" ∷ codes "r2" ∷ [])
      ((codes "Cid" ∷ [] ∷ []) ∷ ([] ∷ [] ∷ []) ∷ [])
      ≡ Some ((3 ∷ []) ∷ [] ∷ [])
  pub lists :
      ballots_under strict Refuse
      (record (plainly Lists) { labels = codes "Id" ∷ []; candidates = codes "Ann" ∷ codes "Ben" ∷ [] })
      (codes "Id" ∷ codes "Order" ∷ [])
      ((codes "1" ∷ codes "Ben;Ann;" ∷ []) ∷ (codes "2" ∷ codes "Ann" ∷ []) ∷ [])
      ≡ Some ((2 ∷ 1 ∷ []) ∷ (1 ∷ []) ∷ [])
  pub blanks_in_a_list :
      ballots_under strict Refuse (record (plainly Lists) { candidates = codes "Ann" ∷ codes "Ben" ∷ [] })
      (codes "Order" ∷ []) ((codes "Ben ; Ann" ∷ []) ∷ [])
      ≡ Some ((2 ∷ 1 ∷ []) ∷ [])

abbrev pub four : List (List ℕ)
four = codes "Ann" ∷ codes "Ben" ∷ codes "Cid" ∷ codes "Dee" ∷ []

-- the first fault of a head and rows
abbrev pub refusal_under :
    Treatment → Empty → Asked → List (List ℕ) → List (List (List ℕ)) → Option TableFault
refusal_under treatment empty asked head rows =
    fault_of_table asked treatment empty (texts_of head) (map texts_of rows)

abbrev pub at_row : ℕ → TableKind → ℕ → Option TableFault
at_row row kind place = Some (record { row = row; fault = record { kind = kind; place = place } })

-- tables that are refused, at row and column
pub record WorkedRefusals : Type 0 where
  pub where_ranks_fall :
      refusal_under strict Refuse choosing (codes "rank2" ∷ codes "rank1" ∷ []) ((codes "Ben" ∷ codes "Ben" ∷ []) ∷ [])
      ≡ at_row 2 Repeated 1
  pub equal_ranks :
      refusal_under strict Refuse (plainly Ranks) four
      ((codes "1" ∷ codes "2" ∷ codes "2" ∷ codes "3" ∷ []) ∷ [])
      ≡ at_row 2 EqualRank 3
  pub behind_a_passed_rank :
      refusal_under (record strict { equal = Pass }) Refuse (plainly Ranks) four
      ((codes "1" ∷ codes "2" ∷ codes "2" ∷ codes "4" ∷ []) ∷ [])
      ≡ at_row 2 SkippedRank 4
  pub skipped_rank :
      refusal_under strict Refuse (plainly Ranks) ann_ben_cid (row3 (codes "1") (codes "3") [] ∷ [])
      ≡ at_row 2 SkippedRank 2
  pub repeated :
      refusal_under strict Refuse (record (plainly Choices) { candidates = ann_ben_cid })
      (codes "r1" ∷ codes "r2" ∷ codes "r3" ∷ []) (row3 (codes "Ben") (codes "Ben") (codes "Ann") ∷ [])
      ≡ at_row 2 Repeated 2
  pub empty_row :
      refusal_under (record strict { repeated = Pass }) Refuse
      (record (plainly Choices) { candidates = ann_ben_cid })
      (codes "r1" ∷ codes "r2" ∷ codes "r3" ∷ [])
      (row3 (codes "Ben") (codes "Ben") (codes "Ann") ∷ row3 (codes "Cid") [] [] ∷ row3 [] [] [] ∷ [])
      ≡ at_row 4 EmptyRow 1
  pub no_candidate :
      refusal_under strict Refuse (record (plainly Choices) { candidates = ann_ben_cid })
      (codes "r1" ∷ codes "r2" ∷ [])
      ((codes "Ann" ∷ codes "ben" ∷ []) ∷ [])
      ≡ at_row 2 NoSuchCandidate 2
  pub too_many :
      refusal_under strict Refuse
      (record (plainly Ranks) { labels = codes "n" ∷ []; weight = Some (codes "n") })
      (codes "n" ∷ codes "Ann" ∷ [])
      ((codes "999999999" ∷ codes "1" ∷ []) ∷ (codes "1" ∷ codes "1" ∷ []) ∷ [])
      ≡ at_row 3 TooManyBallots 1
  pub no_weight :
      refusal_under strict Refuse
      (record (plainly Ranks) { labels = codes "n" ∷ []; weight = Some (codes "n") })
      (codes "n" ∷ codes "Ann" ∷ []) (([] ∷ codes "1" ∷ []) ∷ [])
      ≡ at_row 2 BadWeight 1
  pub short_blank_row :
      refusal_under strict Drop (record (plainly Choices) { candidates = ann_ben_cid })
      (codes "r1" ∷ codes "r2" ∷ []) (([] ∷ []) ∷ [])
      ≡ at_row 2 UnequalRow 2
  pub behind_another_column :
      refusal_under strict Refuse (record (plainly Choices) { labels = codes "Id" ∷ []; candidates = ann_ben_cid })
      (codes "Id" ∷ codes "r1" ∷ codes "r2" ∷ []) (row3 (codes "7") (codes "Ben") (codes "Ben") ∷ [])
      ≡ at_row 2 Repeated 3
  pub in_a_list :
      refusal_under strict Refuse (record (plainly Lists) { labels = codes "Id" ∷ []; candidates = ann_ben_cid })
      (codes "Id" ∷ codes "Order" ∷ []) ((codes "7" ∷ codes "Ann;Ben;Ben" ∷ []) ∷ [])
      ≡ at_row 2 Repeated 2
  pub skipped_in_a_list :
      refusal_under strict Refuse (record (plainly Lists) { labels = codes "Id" ∷ []; candidates = ann_ben_cid })
      (codes "Id" ∷ codes "Order" ∷ []) ((codes "7" ∷ codes "Ann;;Ben" ∷ []) ∷ [])
      ≡ at_row 2 SkippedRank 2
