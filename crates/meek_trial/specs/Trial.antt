-- The text of a day that is made from a number. 32 is a space, 34 a quote, and 10 ends a line.
use Rattle.std.specs.Prelude.{ℕ, ◌+◌, ◌-◌, ◌*◌, ◌/◌, ◌%◌, ◌==◌, List, [], ◌∷◌, ◌++◌, codes, decimal, if◌then◌else◌}
use Rattle.std.specs.List.{flat_map, range_with_len}
use Rattle.meek_trial.specs.Draws.{drawn, ranking}

-- a number and the byte after it
abbrev pub number_then : (s n : ℕ) → List ℕ
number_then s n = decimal n ++ s ∷ []

-- each number and a space after it
abbrev pub spaced : List ℕ → List ℕ
spaced numbers = flat_map (number_then 32) numbers

-- ---- ballots

-- line l of a batch, from 0, by the number drawn for it
abbrev pub ballot : (l x : ℕ) → List ℕ
ballot l x = (number_then 32 (1 + l % 9) ++ spaced (ranking x)) ++ codes "0\n"

-- n ballot lines, of which the first is drawn after the k-th number
unfoldable pub ballots : (number k n : ℕ) → List ℕ
ballots number k n = flat_map (λ l. ballot l (drawn number (k + l + 1))) (range_with_len 0 n)

-- what a batch is entered or corrected with: forty ballot lines, and 0
abbrev pub lines : (number k : ℕ) → List ℕ
lines number k = ballots number k 40 ++ codes "0\n"

-- how many numbers are drawn before batch b: forty for each batch, and forty more for each third one, which is corrected
abbrev pub draws_before : ℕ → ℕ
draws_before b = 40 * (b - 1 + (b - 1) / 3)

-- ---- calls

abbrev pub entering : (number b : ℕ) → List ℕ
entering number b = (codes "enter " ++ number_then 10 b) ++ lines number (draws_before b)

-- every third batch is corrected
abbrev pub correcting : (number b : ℕ) → List ℕ
correcting number b =
    if b % 3 == 0 then ((codes "correct " ++ number_then 32 b) ++ codes "1\n") ++ lines number (draws_before b + 40) else []

-- the revision of a batch after its correction
abbrev pub revision : ℕ → ℕ
revision b = if b % 3 == 0 then 2 else 1

-- every seventh batch is withdrawn
abbrev pub withdrawing : ℕ → List ℕ
withdrawing b = if b % 7 == 0 then (codes "withdraw " ++ number_then 32 b) ++ number_then 10 (revision b) else []

-- the calls of a batch
abbrev pub batch : (number b : ℕ) → List ℕ
batch number b = (entering number b ++ correcting number b) ++ withdrawing b

-- ---- teams

-- the first batch of a team
abbrev pub first : (number team : ℕ) → ℕ
first number team = (team - 1) * number + 1

-- the calls of n batches from the first of a team on
unfoldable pub batches : (number team n : ℕ) → List ℕ
batches number team n = flat_map (batch number) (range_with_len (first number team) n)

-- a team, with as many batches as the day's number says
abbrev pub one_team : (number team : ℕ) → List ℕ
one_team number team = (codes "team " ++ number_then 10 team) ++ batches number team number

-- teams 1 to n
unfoldable pub teams : (number n : ℕ) → List ℕ
teams number n = flat_map (one_team number) (range_with_len 1 n)

-- ---- the day

-- the title, between quotes
abbrev pub title : ℕ → List ℕ
title number = codes "Trial " ++ decimal number

abbrev pub title_line : ℕ → List ℕ
title_line number = 34 ∷ (title number ++ 34 ∷ 10 ∷ [])

-- twelve candidates, four seats, and no ballots
abbrev pub roll_lines : List ℕ
roll_lines = codes "12 4\n0\n\"C1\"\n\"C2\"\n\"C3\"\n\"C4\"\n\"C5\"\n\"C6\"\n\"C7\"\n\"C8\"\n\"C9\"\n\"C10\"\n\"C11\"\n\"C12\"\n"

abbrev pub lots_line : List ℕ
lots_line = codes "lots 12 11 10 9 8 7 6 5 4 3 2 1 0\n"

abbrev pub head : ℕ → List ℕ
head number = (roll_lines ++ title_line number) ++ lots_line

-- the whole day: its head, four teams, and the end
unfoldable pub trial_day : ℕ → List ℕ
trial_day number = (head number ++ teams number 4) ++ codes "end\n"
