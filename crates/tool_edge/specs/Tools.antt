-- Tools over ballot files, and tools over words alone.
use Rattle.std.specs.Prelude.{◌≡◌, ℕ, List, Some, None}
use Rattle.tool_edge.specs.declared.opening.TheConstants.{FILE_LIMIT}
use Rattle.input_text.specs.declared.input_fault.InputFault.{InputFault}
use Rattle.blt_reader.specs.Poll.{Poll}
use Rattle.meek_words.specs.Numerals.{Word}
use Rattle.tool_edge.specs.Words.{TakesNothing, TakesLots}
use Rattle.tool_edge.specs.Contest.{SaysPoll, IsRefusedFile, SaysContest, IsRefusedContest}
use Rattle.tool_edge.specs.Refusals.{file_refusals}
use Rattle.tool_edge.specs.Tool.{Tool, no_history}

abbrev pub IsFile : (input : List ℕ) → Type 0
IsFile input = (poll : Poll) × SaysPoll input poll

abbrev pub IsContestFile : (lots input : List ℕ) → Type 0
IsContestFile lots input = (poll : Poll) × SaysContest lots input poll

-- a tool that takes lots and a ballot file
abbrev pub over_contests : (Owes : (lots input bytes : List ℕ) → Type 0) → Tool (List ℕ) (Unit {0}) InputFault
over_contests Owes = record {
  Takes = TakesLots;
  limit = λ lots. Some FILE_LIMIT;
  Accepts = IsContestFile;
  Refuses = IsRefusedContest;
  refusals = file_refusals;
  Owes = λ lots input history. Owes lots input;
  no_calls = no_history;
}

-- a tool that takes no words and a ballot file
abbrev pub over_files : {A : Type 0} → (Owes : (input bytes : List ℕ) → Type 0) → Tool A (Unit {0}) InputFault
over_files Owes = record {
  Takes = TakesNothing;
  limit = λ asked. Some FILE_LIMIT;
  Accepts = λ asked. IsFile;
  Refuses = λ asked. IsRefusedFile;
  refusals = file_refusals;
  Owes = λ asked input history. Owes input;
  no_calls = no_history;
}

-- a tool that takes words, reads nothing and refuses nothing but words
abbrev pub over_words :
    {A : Type 0} → (Takes : List Word → A → Type 0) → (Owes : A → (bytes : List ℕ) → Type 0)
    → Tool A (Unit {0}) InputFault
over_words Takes Owes = record {
  Takes = Takes;
  limit = λ asked. None;
  Accepts = λ asked input. Unit {0};
  Refuses = λ asked input fault. ⊥;
  refusals = file_refusals;
  Owes = λ asked input history. Owes asked;
  no_calls = no_history;
}

-- ---- laws

-- Words have at most one list of lots.
abbrev pub HaveOneOrder : Type 0
HaveOneOrder = (words : List Word) (one other : List ℕ) → TakesLots words one → TakesLots words other → one ≡ other

-- A file that is accepted is not refused.
abbrev pub FilesAreNotRefused : Type 0
FilesAreNotRefused = (input : List ℕ) (fault : InputFault) → IsFile input → IsRefusedFile input fault → ⊥

-- A file is refused with one fault at most.
abbrev pub FilesAreRefusedOnce : Type 0
FilesAreRefusedOnce =
    (input : List ℕ) (fault other : InputFault) → IsRefusedFile input fault → IsRefusedFile input other → fault ≡ other

-- A file and lots that are accepted are not refused.
abbrev pub ContestsAreNotRefused : Type 0
ContestsAreNotRefused =
    (lots input : List ℕ) (fault : InputFault) → IsContestFile lots input → IsRefusedContest lots input fault → ⊥

-- A file and lots are refused with one fault at most.
abbrev pub ContestsAreRefusedOnce : Type 0
ContestsAreRefusedOnce =
    (lots input : List ℕ) (fault other : InputFault) → IsRefusedContest lots input fault
    → IsRefusedContest lots input other → fault ≡ other
