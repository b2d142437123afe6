-- Lines of calls worked by hand, and the history that is the nearest to a text.
use Rattle.std.specs.Prelude.{ℕ, List, [], ◌∷◌, ◌++◌, codes}
use Rattle.batch_core.specs.declared.change.Change.TheVariants.{Enter, Correct}
use Rattle.batch_core.specs.declared.call.Call.{Call}
use Rattle.batch_core.specs.declared.call.Call.TheVariants.{Change, Strike}
use Rattle.batch_core.specs.declared.reply.Reply.{Reply}
use Rattle.batch_core.specs.declared.reply.Reply.TheVariants.{Entered, Corrected, Struck}
use Rattle.batch_core.specs.declared.entry.Entry.{Entry}
use Rattle.day_reader.specs.declared.script.Script.{Script}
use Rattle.day_lines.specs.DayHistory.{IsHistoryOf, clerk_freeze}
use Rattle.day_replay.specs.Saying.{Says}
use Rattle.day_replay.specs.Nearest.{BeginsAs, HasFollowed, IsNearest}

abbrev pub made_by : (caller : ℕ) → Call → Reply → Entry
made_by caller asked answer = record { caller = caller; call = asked; reply = answer }

-- three ballots for candidate 1 and then 2, as batch 7
abbrev pub enter : Call
enter = Change (Enter 7 (record { candidates = 2; lines = record { count = 3; ranking = 1 ∷ 2 ∷ [] } ∷ [] }))

-- one ballot for candidate 2 in their place
abbrev pub correct : Call
correct = Change (Correct 7 1 (record { candidates = 2; lines = record { count = 1; ranking = 2 ∷ [] } ∷ [] }))

-- ---- lines

-- team 1 enters a batch and corrects it, team 12 strikes a candidate, and the clerk freezes
abbrev pub morning : List Entry
morning = made_by 1 enter Entered ∷ made_by 1 correct (Corrected 2) ∷ made_by 12 (Strike 2) Struck ∷ clerk_freeze ∷ []

abbrev pub entered_line : List ℕ
entered_line = codes "1 team 1 enter 7 entered\n"

abbrev pub morning_text : List ℕ
morning_text =
    entered_line ++ codes "2 team 1 correct 7 1 corrected 2\n3 team 12 strike 2 struck\n4 clerk freeze frozen\nsheet 4\n"

pub record WorkedLines : Type 0 where
  pub all : BeginsAs 4 morning_text morning
  pub no_more_than_all : BeginsAs 9 morning_text morning
  pub of_the_first : BeginsAs 1 (entered_line ++ codes "2 team 1 correct 7 1 corrected 1\n") morning
  pub other_revision : ¬ BeginsAs 2 (entered_line ++ codes "2 team 1 correct 7 1 corrected 1\n") morning
  pub other_team : ¬ BeginsAs 1 (codes "1 team 2 enter 7 entered\n") morning
  pub other_batch : ¬ BeginsAs 1 (codes "1 team 1 enter 8 entered\n") morning
  pub numbered_from_0 : ¬ BeginsAs 1 (codes "0 team 1 enter 7 entered\n") morning
  pub not_ended : ¬ BeginsAs 1 (codes "1 team 1 enter 7 entered") morning
  pub missing : ¬ BeginsAs 2 entered_line morning

-- who made a call, by its line
pub record WorkedCallers : Type 0 where
  pub team : Says 3 12 (codes "3 team 12 strike 2 struck\n")
  pub clerk : Says 4 0 (codes "4 clerk freeze frozen\n")
  pub whatever_is_said : Says 1 16 (codes "1 team 16 \n")
  pub half_a_number : ¬ Says 3 1 (codes "3 team 12 strike 2 struck\n")
  pub other_number : ¬ Says 2 12 (codes "3 team 12 strike 2 struck\n")
  pub no_call : ¬ Says 1 1 (codes "1 team 1\n")

-- ---- the nearest history

-- each of two teams strikes a candidate
abbrev pub two_teams : List Script
two_teams = record { team = 1; calls = Strike 1 ∷ [] } ∷ record { team = 2; calls = Strike 2 ∷ [] } ∷ []

abbrev pub one_first : List Entry
one_first = made_by 1 (Strike 1) Struck ∷ made_by 2 (Strike 2) Struck ∷ clerk_freeze ∷ []

abbrev pub two_first : List Entry
two_first = made_by 2 (Strike 2) Struck ∷ made_by 1 (Strike 1) Struck ∷ clerk_freeze ∷ []

-- the first line is that of one order, and no second one is
abbrev pub two_teams_text : List ℕ
two_teams_text = codes "1 team 2 strike 2 struck\n2 team 2 strike 1 struck\n"

pub record WorkedOrders : Type 0 where
  pub one : IsHistoryOf two_teams one_first
  pub two : IsHistoryOf two_teams two_first
  pub followed : HasFollowed two_teams_text ((Strike 1 ∷ []) ∷ []) (made_by 2 (Strike 2) Struck ∷ [])
  pub nearest : IsNearest two_teams two_teams_text two_first
  pub not_nearest : ¬ IsNearest two_teams two_teams_text one_first
