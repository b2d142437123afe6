-- Words by which the values of an enum are told apart.
use Rattle.std.proofs.Common.{◌≡◌, ◌∙◌, refl, sym, ap, cond, Option, Some, None, List, [], ◌∷◌}
use Rattle.std.specs.Str.{bytes_eq}
use Rattle.meek_words.specs.Numerals.{Word}
use Rattle.ballot_marks.specs.declared.choice.Treat.{Treat}
use Rattle.ballot_marks.specs.declared.choice.Treat.TheVariants as treats
use Rattle.import_words.specs.Options.{flag_of}
use Rattle.import_words.specs.Settings.{layout_word, output_word, treat_word, rows_word, separator_word, head_word}
use Rattle.import_words.specs.declared.layout.Layout.{Layout}
use Rattle.import_words.specs.declared.layout.Layout.TheVariants as layouts
use Rattle.import_words.specs.declared.output.Output.{Output}
use Rattle.import_words.specs.declared.output.Output.TheVariants as outputs
use Rattle.import_words.specs.declared.empty_rows.EmptyRows.{EmptyRows}
use Rattle.import_words.specs.declared.empty_rows.EmptyRows.TheVariants as rows
use Rattle.import_words.specs.declared.separator.Separator.{Separator}
use Rattle.import_words.specs.declared.separator.Separator.TheVariants as separators
use Rattle.import_words.specs.declared.head_names.HeadNames.{HeadNames}
use Rattle.import_words.specs.declared.head_names.HeadNames.TheVariants as heads
use Rattle.import_words.specs.declared.import_option.ImportOption.{ImportOption}
use Rattle.import_words.specs.declared.import_option.ImportOption.TheVariants as options

module _ {A : Type 0} (word_of : A → Word) where
  -- the first of some whose word it is
  abbrev pub found : List A → Word → Option A
  found [] word = None
  found (x ∷ xs) word = cond (bytes_eq word (word_of x)) (Some x) (found xs word)

  -- where each is found by its word, words tell them apart
  pub told_apart :
      (all : List A) → ((x : A) → found all (word_of x) ≡ Some x)
      → (one other : A) → word_of one ≡ word_of other
      → one ≡ other
  told_apart all each one other same =
      let e : Some one ≡ Some other = sym (each one) ∙ ap (found all) same ∙ each other in cc

abbrev pub all_options : List ImportOption
all_options =
    options.Layout ∷ options.Seats ∷ options.Title ∷ options.Withdrawn ∷ options.As ∷ options.Equal
    ∷ options.Skipped ∷ options.Empty ∷ options.Separator ∷ options.Weight ∷ options.Ignore ∷ options.Blank
    ∷ options.Names ∷ options.Ranks ∷ options.Candidate ∷ options.Over ∷ options.Repeated ∷ options.Head
    ∷ options.Columns ∷ []

pub each_option : (option : ImportOption) → found flag_of all_options (flag_of option) ≡ Some option
each_option options.Layout = refl
each_option options.Seats = refl
each_option options.Title = refl
each_option options.Withdrawn = refl
each_option options.As = refl
each_option options.Equal = refl
each_option options.Skipped = refl
each_option options.Empty = refl
each_option options.Separator = refl
each_option options.Weight = refl
each_option options.Ignore = refl
each_option options.Blank = refl
each_option options.Names = refl
each_option options.Ranks = refl
each_option options.Candidate = refl
each_option options.Over = refl
each_option options.Repeated = refl
each_option options.Head = refl
each_option options.Columns = refl

pub one_option : (one other : ImportOption) → flag_of one ≡ flag_of other → one ≡ other
one_option one other same = told_apart flag_of all_options each_option one other same

each_layout :
    (layout : Layout)
    → found layout_word (layouts.Ranks ∷ layouts.Choices ∷ layouts.List ∷ layouts.Preflib ∷ [])
    (layout_word layout)
    ≡ Some layout
each_layout layouts.Ranks = refl
each_layout layouts.Choices = refl
each_layout layouts.List = refl
each_layout layouts.Preflib = refl

pub one_layout : (one other : Layout) → layout_word one ≡ layout_word other → one ≡ other
one_layout one other same =
    told_apart layout_word (layouts.Ranks ∷ layouts.Choices ∷ layouts.List ∷ layouts.Preflib ∷ []) each_layout
    one other same

each_output : (output : Output)
    → found output_word (outputs.Blt ∷ outputs.Report ∷ []) (output_word output) ≡ Some output
each_output outputs.Blt = refl
each_output outputs.Report = refl

pub one_output : (one other : Output) → output_word one ≡ output_word other → one ≡ other
one_output one other same =
    told_apart output_word (outputs.Blt ∷ outputs.Report ∷ []) each_output one other same

each_treat : (treat : Treat)
    → found treat_word (treats.Refuse ∷ treats.Cut ∷ treats.Pass ∷ []) (treat_word treat) ≡ Some treat
each_treat treats.Refuse = refl
each_treat treats.Cut = refl
each_treat treats.Pass = refl

pub one_treat : (one other : Treat) → treat_word one ≡ treat_word other → one ≡ other
one_treat one other same =
    told_apart treat_word (treats.Refuse ∷ treats.Cut ∷ treats.Pass ∷ []) each_treat one other same

each_rows : (empty : EmptyRows)
    → found rows_word (rows.Refuse ∷ rows.Keep ∷ rows.LeaveOut ∷ []) (rows_word empty) ≡ Some empty
each_rows rows.Refuse = refl
each_rows rows.Keep = refl
each_rows rows.LeaveOut = refl

pub one_rows : (one other : EmptyRows) → rows_word one ≡ rows_word other → one ≡ other
one_rows one other same =
    told_apart rows_word (rows.Refuse ∷ rows.Keep ∷ rows.LeaveOut ∷ []) each_rows one other same

each_separator : (separator : Separator)
    → found separator_word (separators.Comma ∷ separators.Semicolon ∷ separators.Tab ∷ [])
    (separator_word separator)
    ≡ Some separator
each_separator separators.Comma = refl
each_separator separators.Semicolon = refl
each_separator separators.Tab = refl

pub one_separator : (one other : Separator) → separator_word one ≡ separator_word other → one ≡ other
one_separator one other same =
    told_apart separator_word (separators.Comma ∷ separators.Semicolon ∷ separators.Tab ∷ []) each_separator
    one other same

each_head : (names : HeadNames)
    → found head_word (heads.Whole ∷ heads.Bracketed ∷ []) (head_word names) ≡ Some names
each_head heads.Whole = refl
each_head heads.Bracketed = refl

pub one_head : (one other : HeadNames) → head_word one ≡ head_word other → one ≡ other
one_head one other same = told_apart head_word (heads.Whole ∷ heads.Bracketed ∷ []) each_head one other same
