-- Lines of calls judged by hand: a day of one team, which enters a batch and corrects it.
use Rattle.std.specs.Prelude.{◌≡◌, ℕ, List, [], ◌∷◌, ◌++◌, Some, codes, false}
use Rattle.batch_core.specs.declared.reply.Reply.TheVariants.{Entered, Corrected}
use Rattle.batch_core.specs.declared.entry.Entry.{Entry}
use Rattle.day_reader.specs.declared.day.Day.{Day}
use Rattle.day_lines.specs.DayHistory.{clerk_freeze}
use Rattle.day_replay.specs.Worked.{made_by, enter, correct, entered_line}
use Rattle.day_ballots.specs.declared.ballots_fault.BallotsFault.TheVariants.{False, NoFreeze}
use Rattle.day_ballots.specs.Along.{GoesAlong, IsFreezeAt, IsAtFreeze, IsFalseCall, HasNoFreeze}
use Rattle.day_ballots.specs.Ballots.{IsNoneAt, exports_freezes, exports_two, refusal_line}
use Rattle.day_ballots.specs.Words.{TakesLine}

abbrev pub one_team : Day
one_team = record {
  roll = record { seats = 1; names = codes "A" ∷ codes "B" ∷ []; title = codes "T"; withdrawn = false ∷ false ∷ [] };
  lots = 2 ∷ 1 ∷ [];
  places = 9;
  omega = 1000;
  scripts = record { team = 1; calls = enter ∷ correct ∷ [] } ∷ [];
}

-- its only history
abbrev pub its_history : List Entry
its_history = made_by 1 enter Entered ∷ made_by 1 correct (Corrected 2) ∷ clerk_freeze ∷ []

abbrev pub corrected_line : List ℕ
corrected_line = codes "2 team 1 correct 7 1 corrected 2\n"

-- the lines of its calls
abbrev pub its_text : List ℕ
its_text = entered_line ++ (corrected_line ++ codes "3 clerk freeze frozen\n")

pub record WorkedFreezes : Type 0 where
  pub there : IsAtFreeze one_team its_text 3 its_history
  pub before : ¬ IsFreezeAt its_history 2
  pub behind : ¬ IsFreezeAt its_history 4
  pub line_0 : ¬ IsFreezeAt its_history 0
  pub so_far : GoesAlong one_team (entered_line ++ codes "3\n") 1 its_history
  pub no_further : ¬ GoesAlong one_team (entered_line ++ codes "3\n") 2 its_history
  pub line_2 : HasNoFreeze one_team its_text 2
  pub line_4 : HasNoFreeze one_team its_text 4
  pub not_line_3 : ¬ HasNoFreeze one_team its_text 3
  pub false_there : ¬ HasNoFreeze one_team (entered_line ++ codes "2 clerk freeze frozen\n") 2

-- the first line of a call that is false
pub record WorkedFalseLines : Type 0 where
  pub out_of_order : IsFalseCall one_team (codes "1 team 1 correct 7 1 unknown\n2 team 1 enter 7 entered\n") 1
  pub twice : IsFalseCall one_team (entered_line ++ codes "2 team 1 enter 7 exists 1\n") 2
  pub missing : IsFalseCall one_team (entered_line ++ codes "2 clerk freeze frozen\n") 2
  pub other_revision : IsFalseCall one_team (entered_line ++ codes "2 team 1 correct 7 1 corrected 3\n") 2
  pub no_clerk : IsFalseCall one_team (entered_line ++ (corrected_line ++ codes "sheet 3\n")) 3
  pub ends_early : IsFalseCall one_team entered_line 2
  pub not_before : ¬ IsFalseCall one_team (entered_line ++ codes "2 clerk freeze frozen\n") 1
  pub not_behind : ¬ IsFalseCall one_team (entered_line ++ codes "2 clerk freeze frozen\n3 clerk freeze frozen\n") 3
  pub behind_all : ¬ IsFalseCall one_team (its_text ++ codes "4 team 1 freeze frozen\n") 4

-- what is answered where there is nothing to write
pub record WorkedAnswers : Type 0 where
  pub false_so_far : IsNoneAt one_team (entered_line ++ codes "2 clerk freeze frozen\n") 2 (False 2)
  pub false_before : IsNoneAt one_team (entered_line ++ codes "2 clerk freeze frozen\n") 3 (False 2)
  pub false_behind : ¬ IsNoneAt one_team (entered_line ++ codes "2 clerk freeze frozen\n") 1 (False 2)
  pub no_freeze : IsNoneAt one_team its_text 2 (NoFreeze 2)
  pub at_another_line : ¬ IsNoneAt one_team its_text 2 (NoFreeze 1)
  pub false_line : refusal_line (False 2) ≡ codes "day false at line 2\n"
  pub no_freeze_line : refusal_line (NoFreeze 12) ≡ codes "refused NoFreeze at 12\n"

-- An input may have 2^30 bytes, and a day file of its own 2^24.
pub record LongestInput : Type 0 where
  pub of_both : exports_freezes.limit 4 ≡ Some 1073741824
  pub of_a_text : exports_two.text_limit ≡ 1073741824
  pub of_a_day_file : exports_two.file_limit ≡ 16777216

pub record WorkedLineWords : Type 0 where
  pub first : TakesLine (codes "--at" ∷ codes "1" ∷ []) 1
  pub greatest : TakesLine (codes "--at" ∷ codes "999999999" ∷ []) 999999999
  pub zeros : TakesLine (codes "--at" ∷ codes "004" ∷ []) 4
  pub nought : ¬ TakesLine (codes "--at" ∷ codes "0" ∷ []) 0
  pub nothing : (at : ℕ) → ¬ TakesLine [] at
