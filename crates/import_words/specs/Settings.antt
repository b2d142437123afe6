-- Options whose value is one of a few words.
use Rattle.std.specs.Prelude.{◌≡◌, ◌⊎◌, ◌≤◌, ◌-◌, ℕ, Option, Some, None, List, [], ◌∷◌, codes}
use Rattle.meek_words.specs.Numerals.{Word}
use Rattle.ballot_marks.specs.declared.choice.Treat.{Treat}
use Rattle.ballot_marks.specs.declared.choice.Treat.TheVariants as treats
use Rattle.ballot_marks.specs.declared.treatment.Treatment.{Treatment}
use Rattle.ballot_marks.specs.declared.treatment.TheConstants.Treatment.{CLOSE}
use Rattle.import_words.specs.Pairs.{Given}
use Rattle.import_words.specs.declared.layout.Layout.{Layout}
use Rattle.import_words.specs.declared.layout.Layout.TheVariants as layouts
use Rattle.import_words.specs.declared.output.Output.{Output}
use Rattle.import_words.specs.declared.output.Output.TheVariants as outputs
use Rattle.import_words.specs.declared.empty_rows.EmptyRows.{EmptyRows}
use Rattle.import_words.specs.declared.empty_rows.EmptyRows.TheVariants as rows
use Rattle.import_words.specs.declared.separator.Separator.{Separator}
use Rattle.import_words.specs.declared.separator.Separator.TheVariants as separators
use Rattle.import_words.specs.declared.head_names.HeadNames.{HeadNames}
use Rattle.import_words.specs.declared.head_names.HeadNames.TheVariants as heads
use Rattle.import_words.specs.declared.head_words.HeadWords.{HeadWords}
use Rattle.import_words.specs.declared.head_words.HeadWords.TheVariants as head_words

-- just one value, of which P holds
abbrev pub IsOnce : (Word → Type 0) → List Word → Type 0
IsOnce P (word ∷ []) = P word
IsOnce P words = ⊥

-- at most one value, of which P holds; where there is none, it is as by default
abbrev pub IsAtMostOnce : Type 0 → (Word → Type 0) → List Word → Type 0
IsAtMostOnce ByDefault P [] = ByDefault
IsAtMostOnce ByDefault P (word ∷ []) = P word
IsAtMostOnce ByDefault P (word ∷ again ∷ words) = ⊥

abbrev pub layout_word : Layout → Word
layout_word layouts.Ranks = codes "ranks"
layout_word layouts.Choices = codes "choices"
layout_word layouts.List = codes "list"
layout_word layouts.Preflib = codes "preflib"

abbrev pub output_word : Output → Word
output_word outputs.Blt = codes "blt"
output_word outputs.Report = codes "report"

abbrev pub treat_word : Treat → Word
treat_word treats.Refuse = codes "refuse"
treat_word treats.Cut = codes "cut"
treat_word treats.Pass = codes "pass"

abbrev pub rows_word : EmptyRows → Word
rows_word rows.Refuse = codes "refuse"
rows_word rows.Keep = codes "keep"
rows_word rows.LeaveOut = codes "drop"

abbrev pub separator_word : Separator → Word
separator_word separators.Comma = codes "comma"
separator_word separators.Semicolon = codes "semicolon"
separator_word separators.Tab = codes "tab"

abbrev pub head_word : HeadNames → Word
head_word heads.Whole = codes "whole"
head_word heads.Bracketed = codes "bracketed"

abbrev pub IsLayout : List Word → Layout → Type 0
IsLayout values layout = IsOnce (λ word. word ≡ layout_word layout) values

abbrev pub IsOutput : List Word → Output → Type 0
IsOutput values output = IsAtMostOnce (output ≡ outputs.Blt) (λ word. word ≡ output_word output) values

abbrev pub IsTreat : List Word → Treat → Type 0
IsTreat values treat = IsAtMostOnce (treat ≡ treats.Refuse) (λ word. word ≡ treat_word treat) values

abbrev pub IsForEmpty : List Word → EmptyRows → Type 0
IsForEmpty values empty = IsAtMostOnce (empty ≡ rows.Refuse) (λ word. word ≡ rows_word empty) values

-- where none is said, the table's head shows it
abbrev pub IsSeparator : List Word → Option Separator → Type 0
IsSeparator values None = values ≡ []
IsSeparator values (Some separator) = values ≡ separator_word separator ∷ []

abbrev pub IsForNames : List Word → HeadNames → Type 0
IsForNames values names = IsAtMostOnce (names ≡ heads.Whole) (λ word. word ≡ head_word names) values

-- one digit from 1 on (49 to 57) and its number
pub record IsCount (word : Word) (number : ℕ) : Type 0 where
  pub digit : ℕ
  pub alone : word ≡ digit ∷ []
  pub least : 49 ≤ digit
  pub most : digit ≤ 57
  pub value : number ≡ digit - 48

-- there is no head, or so many records are it
abbrev pub SaysHead : Word → HeadWords → Type 0
SaysHead word head_words.Unsaid = ⊥
SaysHead word head_words.Absent = word ≡ codes "none"
SaysHead word (head_words.Records n) = IsCount word n

abbrev pub IsForHead : List Word → HeadWords → Type 0
IsForHead values said = IsAtMostOnce (said ≡ head_words.Unsaid) (λ word. SaysHead word said) values

-- one digit (48 to 57) and its number
pub record IsDigit (word : Word) (number : ℕ) : Type 0 where
  pub digit : ℕ
  pub alone : word ≡ digit ∷ []
  pub least : 48 ≤ digit
  pub most : digit ≤ 57
  pub value : number ≡ digit - 48

-- skipped ranks are refused, all closed, or closed up to so many as a digit says
abbrev pub SaysSkipped : Word → Option ℕ → Type 0
SaysSkipped word None = word ≡ codes "refuse"
SaysSkipped word (Some most) =
    ((word ≡ codes "close") × (most ≡ CLOSE))
    ⊎ IsDigit word most

abbrev pub IsSkipped : List Word → Option ℕ → Type 0
IsSkipped values skipped = IsAtMostOnce (skipped ≡ None) (λ word. SaysSkipped word skipped) values

abbrev pub IsTreatment : Given → Treatment → Type 0
IsTreatment given treatment =
    IsSkipped given.skipped treatment.skipped × IsTreat given.equal treatment.equal
    × IsTreat given.repeated treatment.repeated
