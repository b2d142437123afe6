-- Which words of a command name files. 45 is the hyphen, 61 the equals sign; digits are 48 to 57.
use Rattle.std.specs.Prelude.{ℕ, ◌-◌, Bool, true, not, ◌&&◌, ◌||◌, ◌==◌, ltb, List, [], ◌++◌, get_or, take, drop, map, filter, zip, fold, length, slice_index, codes, bytes_eq, leb}

-- a digit
abbrev pub is_digit : ℕ → Bool
is_digit byte = leb 48 byte && leb byte 57

-- It begins with a hyphen that goes on, and not with a digit: -5 is a value.
abbrev pub is_option : List ℕ → Bool
is_option word = ltb 1 (length word) && ((slice_index word 0 == 45) && not (is_digit (slice_index word 1)))

-- It has its value in itself, after an equals sign.
abbrev pub has_value : List ℕ → Bool
has_value word = fold (λ found byte. found || (byte == 61)) (not true) word

-- The next word is its value: so of each option that has none in itself, but for `--mark`, which takes none.
abbrev pub takes_value : List ℕ → Bool
takes_value word = is_option word && (not (bytes_eq word (codes "--mark")) && not (has_value word))

-- of two words in a row, whether the later one names a file
abbrev pub names_file : List ℕ × List ℕ → Bool
names_file pair = not (is_option pair.1) && not (takes_value pair.0)

-- whether the word at a place, from 0, names one; the first never does
abbrev pub is_file_at : List (List ℕ) → ℕ → Bool
is_file_at words at = ltb 0 at && names_file (get_or words (at - 1) [], get_or words at [])

-- each word but the first, with the one before it
abbrev pub in_a_row : List (List ℕ) → List (List ℕ × List ℕ)
in_a_row words = zip words (drop 1 words)

-- the files that the words name
abbrev pub files_of : List (List ℕ) → List (List ℕ)
files_of words = map (λ pair. pair.1) (filter names_file (in_a_row words))

-- the words without them: the command's name, and its options with their values
abbrev pub words_of : List (List ℕ) → List (List ℕ)
words_of words = take 1 words ++ map (λ pair. pair.1) (filter (λ pair. not (names_file pair)) (in_a_row words))
