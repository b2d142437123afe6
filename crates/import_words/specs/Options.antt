-- The options, and which of them words for a layout may have.
use Rattle.std.specs.Prelude.{ℕ, Bool, true, false, nat_eq, codes}
use Rattle.meek_words.specs.Numerals.{Word}
use Rattle.import_words.specs.declared.layout.Layout.{Layout}
use Rattle.import_words.specs.declared.layout.Layout.TheVariants as layouts
use Rattle.import_words.specs.declared.import_option.ImportOption.{ImportOption}
use Rattle.import_words.specs.declared.import_option.ImportOption.TheVariants as options

-- an option's word: two hyphens and its whole name
abbrev pub flag_of : ImportOption → Word
flag_of options.Layout = codes "--layout"
flag_of options.Seats = codes "--seats"
flag_of options.Title = codes "--title"
flag_of options.Withdrawn = codes "--withdrawn"
flag_of options.As = codes "--as"
flag_of options.Equal = codes "--equal"
flag_of options.Skipped = codes "--skipped"
flag_of options.Empty = codes "--empty"
flag_of options.Separator = codes "--separator"
flag_of options.Weight = codes "--weight"
flag_of options.Ignore = codes "--ignore"
flag_of options.Blank = codes "--blank"
flag_of options.Names = codes "--names"
flag_of options.Ranks = codes "--ranks"
flag_of options.Candidate = codes "--candidate"
flag_of options.Over = codes "--over"
flag_of options.Repeated = codes "--repeated"
flag_of options.Head = codes "--head"
flag_of options.Columns = codes "--columns"

-- the places of the options, by which they are told apart
abbrev pub place_of : ImportOption → ℕ
place_of options.Layout = 0
place_of options.Seats = 1
place_of options.Title = 2
place_of options.Withdrawn = 3
place_of options.As = 4
place_of options.Equal = 5
place_of options.Skipped = 6
place_of options.Empty = 7
place_of options.Separator = 8
place_of options.Weight = 9
place_of options.Ignore = 10
place_of options.Blank = 11
place_of options.Names = 12
place_of options.Ranks = 13
place_of options.Candidate = 14
place_of options.Over = 15
place_of options.Repeated = 16
place_of options.Head = 17
place_of options.Columns = 18

abbrev pub same_option : ImportOption → ImportOption → Bool
same_option option other = nat_eq (place_of option) (place_of other)

-- an option whose value is the head of one column
abbrev pub is_column : ImportOption → Bool
is_column options.Weight = true
is_column options.Ignore = true
is_column option = false

-- a table with a column for each candidate
abbrev pub is_ranks : Layout → Bool
is_ranks layouts.Ranks = true
is_ranks layout = false

-- a table with a column for each rank
abbrev pub is_choices : Layout → Bool
is_choices layouts.Choices = true
is_choices layout = false

-- a table whose cells name candidates
abbrev pub is_named : Layout → Bool
is_named layouts.Choices = true
is_named layouts.List = true
is_named layout = false

-- a table of any form
abbrev pub is_table : Layout → Bool
is_table layouts.Preflib = false
is_table layout = true

-- the layouts that an option is for
abbrev pub is_of : Layout → ImportOption → Bool
is_of layout options.Skipped = is_table layout
is_of layout options.Empty = is_table layout
is_of layout options.Separator = is_table layout
is_of layout options.Weight = is_table layout
is_of layout options.Ignore = is_table layout
is_of layout options.Blank = is_table layout
is_of layout options.Head = is_table layout
is_of layout options.Names = is_ranks layout
is_of layout options.Ranks = is_ranks layout
is_of layout options.Columns = is_choices layout
is_of layout options.Candidate = is_named layout
is_of layout options.Over = is_named layout
is_of layout options.Repeated = is_named layout
is_of layout option = true
