-- Texts of sheets, worked by hand.
use Rattle.std.specs.Prelude.{◌≡◌, ℕ, List, [], ◌∷◌, ◌++◌, codes}
use Rattle.std.specs.List.{flat_map}
use Rattle.candidate_roll.specs.declared.state.State.TheVariants.{Hopeful, Elected, Defeated}
use Rattle.meek_rule.specs.declared.step.Step.TheVariants.{Iterate}
use Rattle.sheet_reader.specs.Values.{SheetList}
use Rattle.sheet_text.specs.Lines.{ended}
use Rattle.sheet_words.specs.Worked.{nobody, row_of, tie_sheet}
use Rattle.sheet_minutes.specs.declared.entry.Entry.TheVariants.{Candidate}
use Rattle.sheet_minutes.specs.Columns.{plain}
use Rattle.sheet_minutes.specs.Minutes.{minutes_text}
use Rattle.sheet_minutes.specs.Table.{label, table_head, table_text}

-- lines one after another, each with its line feed
abbrev pub text : List (List ℕ) → List ℕ
text lines = flat_map ended lines

-- ---- the whole text

-- two candidates with a ballot each and one seat; candidate 2 is first in the lots
abbrev pub ATie : Type 0
ATie =
    minutes_text 9 tie_sheet
    ≡ text (codes "A tie"
    ∷ codes "Seats: 1. Ballots: 2."
    ∷ []
    ∷ codes "Result"
    ∷ codes "End: No more candidates are left than seats."
    ∷ codes "End: Ann Archer (1) is elected: there is a seat for each who remains."
    ∷ codes "Ann Archer (1): elected"
    ∷ codes "Ben Baker (2): defeated"
    ∷ []
    ∷ codes "Votes at the end of each round"
    ∷ codes "Behind each round: H hopeful, E elected, D defeated, W withdrawn"
    ∷ []
    ∷ codes "Round                            1"
    ∷ codes "Quota                  1.000000001"
    ∷ codes "On no candidate        0.000000000"
    ∷ codes "  1 Ann Archer       E 1.000000000"
    ∷ codes "  2 Ben Baker        D 1.000000000"
    ∷ []
    ∷ codes "Decisions"
    ∷ codes "Round 1, iteration 1: Ann Archer (1) with 1.000000000 votes and Ben Baker (2) with 1.000000000 votes are tied: their votes are no further apart than the surplus of 0.000000000."
    ∷ codes "Round 1, iteration 1: The lots decide: Ben Baker (2) stands first of them in the lots and is defeated."
    ∷ [])

-- ---- the table

-- One candidate and five rounds, of which the first has two iterations. At the last one more votes stand than there are ballots: in a
-- sheet of a count they never do.
abbrev pub five_rounds : SheetList
five_rounds = record {
  title = codes "Five rounds";
  seats = 1;
  ballots = 2;
  names = codes "Ann" ∷ [];
  rows =
      row_of 1 1 (Hopeful ∷ []) (500000000 ∷ []) 500000000 1000000009 0 (nobody 1) Iterate
      ∷ row_of 1 2 (Hopeful ∷ []) (1000000002 ∷ []) 1000000002 1000000001 0 (nobody 1) Iterate
      ∷ row_of 2 1 (Hopeful ∷ []) (1000000003 ∷ []) 1000000003 1000000002 0 (nobody 1) Iterate
      ∷ row_of 3 1 (Elected ∷ []) (1000000004 ∷ []) 1000000004 1000000003 0 (nobody 1) Iterate
      ∷ row_of 4 1 (Elected ∷ []) (1000000005 ∷ []) 1000000005 1000000004 0 (nobody 1) Iterate
      ∷ row_of 5 1 (Elected ∷ []) (3000000000 ∷ []) 3000000000 1500000000 0 (nobody 1) Iterate
      ∷ [];
  last = Defeated ∷ [];
}

-- Four rounds fill a block, and the fifth is in one of its own.
abbrev pub FiveRounds : Type 0
FiveRounds =
    table_text 9 five_rounds
    ≡ text ([]
    ∷ codes "Votes at the end of each round"
    ∷ codes "Behind each round: H hopeful, E elected, D defeated, W withdrawn"
    ∷ []
    ∷ codes "Round                            1             2             3             4"
    ∷ codes "Quota                  1.000000001   1.000000002   1.000000003   1.000000004"
    ∷ codes "On no candidate        0.999999998   0.999999997   0.999999996   0.999999995"
    ∷ codes "  1 Ann              H 1.000000002 E 1.000000003 E 1.000000004 E 1.000000005"
    ∷ []
    ∷ codes "Round                            5"
    ∷ codes "Quota                  1.500000000"
    ∷ codes "On no candidate        0.000000000"
    ∷ codes "  1 Ann              D 3.000000000"
    ∷ [])

-- without iterations there is no block
abbrev pub NoRounds : Type 0
NoRounds = table_text 9 (record five_rounds { rows = [] }) ≡ table_head

-- ---- names

-- a name of more columns than there are, and the ninth and the tenth of ten candidates
abbrev pub named : List (List ℕ) → SheetList
named names = record tie_sheet { names = names }

abbrev pub ten : SheetList
ten =
    named (
    codes "A" ∷ codes "B" ∷ codes "C" ∷ codes "D" ∷ codes "E" ∷ codes "F" ∷ codes "G" ∷ codes "H" ∷ codes "I"
    ∷ codes "J" ∷ []
    )

pub record WorkedLabels : Type 0 where
  pub long : label (named (codes "Maximilian von Habsburg" ∷ [])) (Candidate 0) ≡ codes "  1 Maximilian von H"
  pub ninth : label ten (Candidate 8) ≡ codes "  9 I               "
  pub tenth : label ten (Candidate 9) ≡ codes " 10 J               "

-- Escape (27), the control character U+009B in UTF-8 (194, 155), a byte that is none (255) and delete (127): the replacement sign, which is
-- 239, 191, 189 in UTF-8, stands for each.
abbrev pub sign : List ℕ
sign = 239 ∷ 191 ∷ 189 ∷ []

abbrev pub NoControls : Type 0
NoControls =
    plain (codes "a" ++ (27 ∷ codes "[31m" ++ (194 ∷ 155 ∷ 255 ∷ 127 ∷ codes "b")))
    ≡ codes "a" ++ (sign ++ (codes "[31m" ++ (sign ++ (sign ++ (sign ++ codes "b")))))
