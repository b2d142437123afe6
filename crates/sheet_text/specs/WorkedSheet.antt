-- A sheet as it is written.
use Rattle.std.specs.Prelude.{List, ℕ, [], ◌∷◌, codes}
use Rattle.meek_count.specs.Worked.{sample_ballots, sample_roll}
use Rattle.sheet_text.specs.Lines.{text_of_lines}
use Rattle.sheet_text.specs.Sheet.{IsSheet}

abbrev pub sample_lines : List (List ℕ)
sample_lines =
    codes "title Sample"
    ∷ codes "seats 2"
    ∷ codes "candidates 4"
    ∷ codes "ballots 13"
    ∷ codes "round 1 iteration 1"
    ∷ codes "1 hopeful 1.000000000 7.000000000"
    ∷ codes "2 withdrawn 0.000000000 0.000000000"
    ∷ codes "3 hopeful 1.000000000 1.000000000"
    ∷ codes "4 hopeful 1.000000000 4.000000000"
    ∷ codes "total 12.000000000"
    ∷ codes "quota 4.000000001"
    ∷ codes "surplus 2.999999999"
    ∷ codes "elected 1"
    ∷ codes "step elected"
    ∷ codes "round 2 iteration 1"
    ∷ codes "1 elected 1.000000000 7.000000000"
    ∷ codes "2 withdrawn 0.000000000 0.000000000"
    ∷ codes "3 hopeful 1.000000000 1.000000000"
    ∷ codes "4 hopeful 1.000000000 4.000000000"
    ∷ codes "total 12.000000000"
    ∷ codes "quota 4.000000001"
    ∷ codes "surplus 2.999999999"
    ∷ codes "step iterate"
    ∷ codes "round 2 iteration 2"
    ∷ codes "1 elected 0.571428572 4.000000004"
    ∷ codes "2 withdrawn 0.000000000 0.000000000"
    ∷ codes "3 hopeful 1.000000000 3.999999996"
    ∷ codes "4 hopeful 1.000000000 4.000000000"
    ∷ codes "total 12.000000000"
    ∷ codes "quota 4.000000001"
    ∷ codes "surplus 0.000000003"
    ∷ codes "step defeat 3 tied 3"
    ∷ codes "result"
    ∷ codes "1 elected Ann"
    ∷ codes "2 withdrawn Ben"
    ∷ codes "3 defeated Cid"
    ∷ codes "4 elected Dee"
    ∷ codes "end"
    ∷ []

-- the sheet of the sample election at nine places, where omega is 0.000001
abbrev pub SampleSheet : Type 0
SampleSheet = IsSheet 9 1000 sample_ballots sample_roll (1 ∷ 2 ∷ 3 ∷ 4 ∷ []) (text_of_lines sample_lines)
