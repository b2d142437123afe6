-- Numbers of tables worked by hand.
use Rattle.std.specs.Prelude.{◌≡◌, ℕ, List, [], ◌∷◌, map, Some, codes}
use Rattle.ballot_marks.specs.declared.choice.Treat.TheVariants.{Cut, Pass}
use Rattle.ballot_marks.specs.declared.treatment.Treatment.{Treatment}
use Rattle.ballot_marks.specs.Laws.{strict}
use Rattle.ballot_table.specs.declared.empty.Empty.{Empty}
use Rattle.ballot_table.specs.declared.empty.Empty.TheVariants.{Refuse, Keep, Drop}
use Rattle.ballot_table.specs.declared.layout.Layout.TheVariants.{Ranks, Choices}
use Rattle.ballot_table.specs.declared.tally.Tally.{Tally}
use Rattle.ballot_table.specs.Asked.{Asked}
use Rattle.ballot_table.specs.Head.{columns}
use Rattle.ballot_table.specs.Report.{tally_of}
use Rattle.ballot_table.specs.Table.{texts_of, rows_of}
use Rattle.ballot_table.specs.Worked.{ann_ben_cid, plainly, row3}

-- the numbers of a head and rows
abbrev pub tally_under : Treatment → Empty → Asked → List (List ℕ) → List (List (List ℕ)) → Tally
tally_under treatment empty asked head rows =
    tally_of treatment empty (map texts_of rows)
    (rows_of asked empty (columns asked (texts_of head)) (map texts_of rows))

-- a cell of four
abbrev pub row4 : List ℕ → List ℕ → List ℕ → List ℕ → List (List ℕ)
row4 a b c d = a ∷ b ∷ c ∷ d ∷ []

-- a candidate twice, one alone, and a blank row
abbrev pub three_rows : List (List (List ℕ))
three_rows = row3 (codes "Ben") (codes "Ben") (codes "Ann") ∷ row3 (codes "Cid") [] [] ∷ row3 [] [] [] ∷ []

abbrev pub choices_of_three : Asked
choices_of_three = record (plainly Choices) { candidates = ann_ben_cid }

abbrev pub three_ranks : List (List ℕ)
three_ranks = codes "r1" ∷ codes "r2" ∷ codes "r3" ∷ []

pub record WorkedReports : Type 0 where
  pub kept :
      tally_under (record strict { repeated = Pass }) Keep choices_of_three three_ranks three_rows
      ≡ record { rows = 3; dropped = 0; ballots = 3; empty = 1; closed = 0; passed = 1; cut = 0 }
  pub dropped :
      tally_under (record strict { repeated = Pass }) Drop choices_of_three three_ranks three_rows
      ≡ record { rows = 3; dropped = 1; ballots = 2; empty = 0; closed = 0; passed = 1; cut = 0 }
  pub weighed :
      tally_under (record strict { skipped = Some 250; equal = Cut }) Refuse
      (record (plainly Ranks) { labels = codes "n" ∷ []; weight = Some (codes "n") })
      (row4 (codes "n") (codes "Ann") (codes "Ben") (codes "Cid"))
      (row4 (codes "2") (codes "3") (codes "1") [] ∷ row4 (codes "3") (codes "1") (codes "1") []
      ∷ row4 (codes "4") [] [] (codes "1") ∷ row4 (codes "0") (codes "1") (codes "2") [] ∷ [])
      ≡ record { rows = 4; dropped = 0; ballots = 9; empty = 3; closed = 2; passed = 0; cut = 3 }
  pub nothing_behind_a_cut :
      tally_under (record strict { skipped = Some 1; repeated = Cut }) Refuse choices_of_three three_ranks
      (row3 (codes "Ben") (codes "Ben") [] ∷ row3 [] (codes "Ann") (codes "Ann") ∷ [])
      ≡ record { rows = 2; dropped = 0; ballots = 2; empty = 0; closed = 1; passed = 0; cut = 2 }
