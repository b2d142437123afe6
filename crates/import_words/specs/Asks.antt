-- What the words ask for.
use Rattle.std.specs.Prelude.{◌≡◌, ◌≤◌, ℕ, true, Option, Some, None, List, [], ◌∷◌, ◌++◌, length, All, IsTrue, nat_eq}
use Rattle.std.specs.List.{slice_split}
use Rattle.candidate_roll.specs.declared.limits.TheConstants.{MOST_NAME_BYTES, MOST_TITLE_BYTES}
use Rattle.meek_words.specs.Numerals.{Word, IsNumeralUpTo, IsLotList, number_of}
use Rattle.candidate_roll.specs.Name.{IsName}
use Rattle.import_words.specs.Options.{is_of, is_named}
use Rattle.import_words.specs.Pairs.{Said, Given, ArePairs, given_of}
use Rattle.import_words.specs.Labels.{IsLabel, AreLabels, AreDifferent}
use Rattle.import_words.specs.Settings.{IsOnce, IsAtMostOnce, IsLayout, IsOutput, IsTreatment, IsForEmpty, IsSeparator, IsForNames, IsForHead}
use Rattle.plain_ballots.specs.declared.limits.TheConstants.{MOST_CANDIDATES}
use Rattle.import_words.specs.declared.layout.Layout.{Layout}
use Rattle.import_words.specs.declared.asked.Asked.{Asked}
use Rattle.import_words.specs.declared.roll_words.RollWords.{RollWords}
use Rattle.import_words.specs.declared.table_words.TableWords.{TableWords}
use Rattle.import_words.specs.declared.cells.CellWords.{CellWords}

-- a number from 1 on, and not too many
abbrev pub IsSeats : List Word → ℕ → Type 0
IsSeats values seats = IsOnce (λ word. IsNumeralUpTo MOST_CANDIDATES word × (seats ≡ number_of word)) values

-- a title of at most 1,000 bytes; where none is said it is empty
abbrev pub IsTitle : List Word → Word → Type 0
IsTitle values title = IsAtMostOnce (title ≡ []) (λ word. (title ≡ word) × IsName MOST_TITLE_BYTES word) values

-- numbers with commas between them; where none are said nobody is withdrawn
abbrev pub AreWithdrawn : List Word → List ℕ → Type 0
AreWithdrawn values withdrawn = IsAtMostOnce (withdrawn ≡ []) (λ word. IsLotList word withdrawn) values

-- each value is a name
abbrev pub AreNames : List Word → List Word → Type 0
AreNames values names = (names ≡ values) × All (IsName MOST_NAME_BYTES) values

pub record SaysRoll (given : Given) (roll : RollWords) : Type 0 where
  pub seats : IsSeats given.seats roll.seats
  pub title : IsTitle given.title roll.title
  pub withdrawn : AreWithdrawn given.withdrawn roll.withdrawn
  pub candidates : AreNames given.candidates roll.candidates

-- one label or none
abbrev pub IsWeight : List Word → Option Word → Type 0
IsWeight values None = values ≡ []
IsWeight values (Some label) = (values ≡ label ∷ []) × IsLabel label

-- the pieces between the commas (44) of a word, not too many, each of them a label
pub record IsRankList (word : Word) (labels : List Word) : Type 0 where
  pub pieces : labels ≡ slice_split (λ b. nat_eq b 44) word
  pub few : length labels ≤ MOST_CANDIDATES
  pub all : All IsLabel labels

-- labels for the ranks from the first on; where none are said there are none
abbrev pub AreRanks : List Word → List Word → Type 0
AreRanks values ranks = IsAtMostOnce (ranks ≡ []) (λ word. IsRankList word ranks) values

-- labels that are values of their own, and others after them
abbrev pub AreFollowed : List Word → List Word → List Word → Type 0
AreFollowed values others labels = (labels ≡ values ++ others) × All IsLabel values

-- The heads of columns of weights and of the ignored ones, in the order of the words, and of those that are read, in order of
-- rank, are different.
pub record SaysTable (given : Given) (table : TableWords) : Type 0 where
  pub separator : IsSeparator given.separator table.separator
  pub names : IsForNames given.names table.names
  pub head : IsForHead given.head table.head
  pub weight : IsWeight given.weight table.weight
  pub ignored : AreLabels given.ignored table.ignored
  pub chosen : AreRanks given.chosen table.chosen
  pub columns : AreFollowed given.columns table.chosen table.columns
  pub different : AreDifferent table.columns

-- where no labels of ranks are said, ranks are numbers
pub record SaysCells (given : Given) (cells : CellWords) : Type 0 where
  pub blanks : AreLabels given.blanks cells.blanks
  pub overs : AreLabels given.overs cells.overs
  pub ranks : AreRanks given.ranks cells.ranks

-- the candidates' names are labels, and different from what else cells may say
pub record AreDistinguished (cells : CellWords) (candidates : List Word) : Type 0 where
  pub labels : All IsLabel candidates
  pub different : AreDifferent (cells.blanks ++ cells.overs ++ candidates ++ cells.ranks)

-- where cells name candidates, there are some, and not too many
abbrev pub AreEnough : Layout → List Word → Type 0
AreEnough layout candidates = is_named layout ≡ true → (1 ≤ length candidates) × (length candidates ≤ MOST_CANDIDATES)

-- the values say this, apart from which options a layout has
pub record Says (given : Given) (asked : Asked) : Type 0 where
  pub layout : IsLayout given.layout asked.layout
  pub output : IsOutput given.output asked.output
  pub empty : IsForEmpty given.empty asked.empty
  pub treatment : IsTreatment given asked.treatment
  pub roll : SaysRoll given asked.roll
  pub table : SaysTable given asked.table
  pub cells : SaysCells given asked.cells
  pub enough : AreEnough asked.layout asked.roll.candidates
  pub distinguished : AreDistinguished asked.cells asked.roll.candidates

-- each option that stands is one of the layout
abbrev pub AreFor : Layout → List Said → Type 0
AreFor layout pairs = All (λ said. IsTrue (is_of layout said.option)) pairs

-- the words are options of the layout with their values, which say this
pub record Asks (words : List Word) (asked : Asked) : Type 0 where
  pub pairs : List Said
  pub are : ArePairs words pairs
  pub fit : AreFor asked.layout pairs
  pub says : Says (given_of pairs) asked
