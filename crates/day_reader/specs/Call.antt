-- Calls as a day file says them.
use Rattle.std.specs.Prelude.{◌≡◌, ℕ, ⊤, List, [], ◌∷◌, Bool, true, false, sum_by, count_by}
use Rattle.batch_core.specs.declared.limits.TheConstants.{LAST_NUMBER, MOST_OF_BATCH}
use Rattle.plain_ballots.specs.Ballots.{BallotList}
use Rattle.batch_core.specs.declared.change.Change.TheVariants.{Enter, Correct, Withdraw}
use Rattle.batch_core.specs.declared.call.Call.{Call}
use Rattle.batch_core.specs.declared.call.Call.TheVariants.{Change, Freeze, Strike}
use Rattle.input_text.specs.Token.{Item, Number}
use Rattle.input_text.specs.Range.{IsIn}
use Rattle.blt_reader.specs.Blt.{AreLines, ballots}
use Rattle.day_reader.specs.declared.keyword.Keyword.TheVariants as key
use Rattle.day_reader.specs.declared.script.Script.{Script}
use Rattle.day_reader.specs.Keyword.{word}

-- a word, the numbers of a batch and of its revision, ballots; or a word alone, or with a candidate
abbrev pub call_items : Call → List Item
call_items (Change (Enter batch entered)) = word key.Enter ∷ Number batch ∷ ballots entered.lines
call_items (Change (Correct batch revision entered)) = word key.Correct ∷ Number batch ∷ Number revision ∷ ballots entered.lines
call_items (Change (Withdraw batch revision)) = word key.Withdraw ∷ Number batch ∷ Number revision ∷ []
call_items Freeze = word key.Freeze ∷ []
call_items (Strike candidate) = word key.Strike ∷ Number candidate ∷ []

-- at most 100,000 ballots among so many candidates
pub record IsBatch (candidates : ℕ) (entered : BallotList) : Type 0 where
  pub candidates_are : entered.candidates ≡ candidates
  pub lines : AreLines candidates MOST_OF_BATCH entered.lines

-- a call with numbers in range: batches and revisions are numbered from 1 to 9,999
abbrev pub IsCall : ℕ → Call → Type 0
IsCall candidates (Change (Enter batch entered)) = IsIn LAST_NUMBER batch × IsBatch candidates entered
IsCall candidates (Change (Correct batch revision entered)) = IsIn LAST_NUMBER batch × IsIn LAST_NUMBER revision × IsBatch candidates entered
IsCall candidates (Change (Withdraw batch revision)) = IsIn LAST_NUMBER batch × IsIn LAST_NUMBER revision
IsCall candidates Freeze = ⊤
IsCall candidates (Strike candidate) = IsIn candidates candidate

abbrev pub is_freeze : Call → Bool
is_freeze Freeze = true
is_freeze call = false

-- how often these teams freeze
abbrev pub freezes : List Script → ℕ
freezes scripts = sum_by (λ script. count_by is_freeze script.calls) scripts
