-- The lines that say what was read. 32 is a space, 46 a point, and 10 ends a line.
use Rattle.std.specs.Prelude.{ℕ, ◌+◌, ◌-◌, ◌*◌, ◌/◌, ◌%◌, ◌==◌, Bool, not, nat_le, nat_lt, if◌then◌else◌, List, [], ◌∷◌, ◌++◌, length, map, take, codes, decimal}
use Rattle.std.specs.List.{filter, flat_map, range_with_len}
use Rattle.candidate_roll.specs.Roll.{RollList, is_withdrawn}
use Rattle.blt_reader.specs.Poll.{Poll}
use Rattle.ballot_findings.specs.Counts.{Figures, figures}
use Rattle.ballot_findings.specs.Names.{have_like_names, have_one_name, name_of, running}
use Rattle.ballot_findings.specs.declared.oddity.Oddity.{Oddity}
use Rattle.ballot_findings.specs.Oddities.{is_odd, name_words, oddities, title_words}
use Rattle.ballot_findings.specs.Places.{column_at, line_at}
use Rattle.ballot_findings.specs.Sites.{name_at, seats_at, title_at, withdrawn_at}

-- a line of words and a number
abbrev pub count_line : (words : List ℕ) → (n : ℕ) → List ℕ
count_line words n = words ++ decimal n ++ 10 ∷ []

-- a line of words and a text
abbrev pub text_line : (words text : List ℕ) → List ℕ
text_line words text = words ++ text ++ 10 ∷ []

-- these numbers, each after a space
abbrev pub numbers_text : (numbers : List ℕ) → List ℕ
numbers_text numbers = flat_map (λ n. 32 ∷ decimal n) numbers

-- a line of words and numbers, of which the last two are the line and the column of a place in the file
abbrev pub place_line : (input words numbers : List ℕ) → (place : ℕ) → List ℕ
place_line input words numbers place =
    words ++ numbers_text (numbers ++ line_at input place ∷ column_at input place ∷ []) ++ 10 ∷ []

-- the text, only where the test holds
abbrev pub only_if : Bool → (text : List ℕ) → List ℕ
only_if test text = if test then text else []

-- what is written for each candidate, by rising number
abbrev pub for_each : (candidates : ℕ) → (ℕ → List ℕ) → List ℕ
for_each candidates text = flat_map text (range_with_len 1 candidates)

-- a line for each of the first hundred of these, and how many more of them there are
unfoldable pub told : {X : Type 0} → (line : X → List ℕ) → List X → List ℕ
told line xs =
    flat_map line (take 100 xs)
    ++ only_if (nat_lt 100 (length xs)) (count_line (codes "look more lines of this kind ") (length xs - 100))

-- ---- what is said of every file

-- the numbers of the withdrawn candidates, each after a space, or that there are none
abbrev pub withdrawn_text : RollList → List ℕ
withdrawn_text roll =
    if running roll == length roll.names then codes " none"
    else for_each (length roll.names) (λ c. only_if (is_withdrawn roll.withdrawn c) (32 ∷ decimal c))

-- a candidate, the ballots that have it first, and its name
abbrev pub first_line : (c ballots : ℕ) → (name : List ℕ) → List ℕ
first_line c ballots name = codes "first " ++ decimal c ++ 32 ∷ decimal ballots ++ 32 ∷ name ++ 10 ∷ []

-- the first preferences of all candidates, withdrawn or not, over all ballots as they stand in the file
abbrev pub first_lines : (names : List (List ℕ)) → (first : ℕ → ℕ) → List ℕ
first_lines names first = for_each (length names) (λ c. first_line c (first c) (name_of names c))

-- hundredths as a number with two decimals
abbrev pub hundredths : ℕ → List ℕ
hundredths n = decimal (n / 100) ++ 46 ∷ decimal (n / 10 % 10) ++ decimal (n % 10)

-- how many candidates a ballot ranks in the mean, rounded down to hundredths; of no ballots there is no mean
abbrev pub mean_text : (ranks ballots : ℕ) → List ℕ
mean_text ranks ballots = if ballots == 0 then codes "none" else hundredths (100 * ranks / ballots)

-- how many ballots there are, on how many lines, and how many of them rank nobody
abbrev pub ballots_text : (ballots lines empty : ℕ) → List ℕ
ballots_text ballots lines empty =
    count_line (codes "ballots ") ballots ++ count_line (codes "lines ") lines ++ count_line (codes "empty ") empty

-- how many candidates and seats there are, who is withdrawn, and the title
abbrev pub roll_text : RollList → List ℕ
roll_text roll =
    count_line (codes "candidates ") (length roll.names)
    ++ count_line (codes "seats ") roll.seats
    ++ text_line (codes "withdrawn") (withdrawn_text roll)
    ++ text_line (codes "title ") roll.title

-- what is counted of the ballots themselves
abbrev pub count_text : RollList → Figures → List ℕ
count_text roll f =
    first_lines roll.names f.first
    ++ text_line (codes "mean ") (mean_text f.ranks f.ballots)
    ++ count_line (codes "equal ") f.repeats

-- the facts of every file
abbrev pub facts_text : RollList → Figures → List ℕ
facts_text roll f = ballots_text f.ballots f.lines f.empty ++ roll_text roll ++ count_text roll f

-- ---- what wants a look

-- a line on a candidate, with the place of its name
abbrev pub candidate_line : (input words : List ℕ) → (c : ℕ) → List ℕ
candidate_line input words c = place_line input words (c ∷ []) (name_at input c)

-- a line on two candidates, with the place of the name of the later one, d
abbrev pub pair_line : (input words : List ℕ) → (c d : ℕ) → List ℕ
pair_line input words c d = place_line input words (c ∷ d ∷ []) (name_at input d)

-- candidate c with each of a greater number, where this holds of both
abbrev pub later_pairs : (candidates : ℕ) → (ℕ → ℕ → Bool) → (c : ℕ) → List (ℕ × ℕ)
later_pairs candidates test c = map (λ d. (c, d)) (filter (test c) (range_with_len (c + 1) (candidates - c)))

-- the lines on each two candidates of whom this holds
abbrev pub pair_lines : (input words : List ℕ) → (candidates : ℕ) → (ℕ → ℕ → Bool) → List ℕ
pair_lines input words candidates test =
    told (λ two. pair_line input words two.0 two.1) (flat_map (later_pairs candidates test) (range_with_len 1 candidates))

-- the lines on each candidate of whom this holds
abbrev pub candidate_lines : (input words : List ℕ) → (candidates : ℕ) → (ℕ → Bool) → List ℕ
candidate_lines input words candidates test =
    told (candidate_line input words) (filter test (range_with_len 1 candidates))

-- two candidates of one name
abbrev pub one_name_lines : (input : List ℕ) → RollList → List ℕ
one_name_lines input roll =
    pair_lines input (codes "look same name") (length roll.names) (have_one_name roll.names)

-- two candidates whose names are alike but for spaces and the case of letters
abbrev pub like_name_lines : (input : List ℕ) → RollList → List ℕ
like_name_lines input roll =
    pair_lines input (codes "look similar name") (length roll.names) (have_like_names roll.names)

-- candidates whose name has this oddity
abbrev pub odd_name_lines : (input : List ℕ) → RollList → Oddity → List ℕ
odd_name_lines input roll oddity =
    candidate_lines input (name_words oddity) (length roll.names) (λ c. is_odd oddity (name_of roll.names c))

-- the title, where it has this oddity
abbrev pub odd_title_lines : (input : List ℕ) → RollList → Oddity → List ℕ
odd_title_lines input roll oddity =
    only_if (is_odd oddity roll.title) (place_line input (title_words oddity) [] (title_at input (length roll.names)))

-- a line on the number of seats, with its place
abbrev pub seats_line : (input words : List ℕ) → List ℕ
seats_line input words = place_line input words [] (seats_at input)

abbrev pub many_seats_lines : (input : List ℕ) → RollList → List ℕ
many_seats_lines input roll =
    only_if (nat_lt (length roll.names) roll.seats) (seats_line input (codes "look more seats than candidates"))

abbrev pub enough_seats_lines : (input : List ℕ) → RollList → List ℕ
enough_seats_lines input roll =
    only_if (nat_le (running roll) roll.seats) (seats_line input (codes "look a seat for everybody who runs"))

-- candidates whom no ballot ranks
abbrev pub unranked_lines : (input : List ℕ) → (candidates : ℕ) → (is_ranked : ℕ → Bool) → List ℕ
unranked_lines input candidates is_ranked =
    candidate_lines input (codes "look on no ballot") candidates (λ c. not (is_ranked c))

-- how many ballots rank withdrawn candidates, where there are any, and where the first of these is on one
abbrev pub withdrawn_lines : (input : List ℕ) → (withdrawn : List Bool) → (ballots : ℕ) → List ℕ
withdrawn_lines input withdrawn ballots =
    only_if (not (ballots == 0))
    (place_line input (codes "look ballots with withdrawn candidates") (ballots ∷ []) (withdrawn_at input withdrawn))

abbrev pub name_warnings : (input : List ℕ) → RollList → List ℕ
name_warnings input roll =
    one_name_lines input roll ++ like_name_lines input roll
    ++ flat_map (odd_name_lines input roll) oddities
    ++ flat_map (odd_title_lines input roll) oddities

abbrev pub count_warnings : (input : List ℕ) → RollList → (is_ranked : ℕ → Bool) → (of_withdrawn : ℕ) → List ℕ
count_warnings input roll is_ranked of_withdrawn =
    many_seats_lines input roll ++ enough_seats_lines input roll
    ++ unranked_lines input (length roll.names) is_ranked
    ++ withdrawn_lines input roll.withdrawn of_withdrawn

-- ---- the whole text

-- what is said of a file's roll and of the figures of its ballots
abbrev pub text_of : (input : List ℕ) → RollList → Figures → List ℕ
text_of input roll f =
    facts_text roll f ++ name_warnings input roll ++ count_warnings input roll f.is_ranked f.of_withdrawn

-- What was read of the file of this election.
abbrev pub look_text : (input : List ℕ) → Poll → List ℕ
look_text input poll = text_of input poll.roll (figures poll.roll.withdrawn poll.lines)
