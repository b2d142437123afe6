-- Where the numbers, the names and the ranks of a ballot file stand: the places of its tokens, from 0 at the front.
use Rattle.std.specs.Prelude.{◌≡◌, ◌≤◌, ℕ, ◌+◌, ◌-◌, ◌==◌, Bool, true, false, not, ◌&&◌, List, length, map, drop, slice_index, slice_index_or}
use Rattle.std.specs.List.{filter, zip}
use Rattle.input_text.specs.Token.{Item, Number, Text, Placed}
use Rattle.input_text.specs.Scan.{scan}
use Rattle.candidate_roll.specs.Roll.{RollList, is_withdrawn}
use Rattle.ballot_findings.specs.declared.mark.Mark.{Mark}
use Rattle.ballot_findings.specs.Places.{IsMarkOf}

abbrev pub tokens_of : (input : List ℕ) → List Placed
tokens_of input = (scan input false).tokens

abbrev pub places : List Placed → List ℕ
places tokens = map (λ token. token.at) tokens

-- ---- the numbers at the front, and the names

-- The first token is the number of candidates, and the second that of seats.
abbrev pub candidates_at : (input : List ℕ) → ℕ
candidates_at input = slice_index (places (tokens_of input)) 0

abbrev pub seats_at : (input : List ℕ) → ℕ
seats_at input = slice_index (places (tokens_of input)) 1

abbrev pub is_string : Item → Bool
is_string (Text bytes) = true
is_string item = false

abbrev pub strings : List Placed → List Placed
strings tokens = filter (λ token. is_string token.item) tokens

-- The c-th string is the name of candidate c.
abbrev pub name_at : (input : List ℕ) → (c : ℕ) → ℕ
name_at input c = slice_index (places (strings (tokens_of input))) (c - 1)

-- The string after the names of so many candidates is the title.
abbrev pub title_at : (input : List ℕ) → (candidates : ℕ) → ℕ
title_at input candidates = name_at input (candidates + 1)

-- ---- withdrawn candidates on ballots

-- A ballot goes on after this item: it is a count or a candidate, and not the 0 at the end.
abbrev pub goes_on : Item → Bool
goes_on (Number n) = not (n == 0)
goes_on item = false

-- The item is the number of a candidate who was withdrawn.
abbrev pub is_of_withdrawn : (withdrawn : List Bool) → Item → Bool
is_of_withdrawn withdrawn (Number n) = not (n == 0) && is_withdrawn withdrawn n
is_of_withdrawn withdrawn item = false

-- A ballot goes on from the one token to the other, and that is a withdrawn candidate.
abbrev pub ranks_one : (withdrawn : List Bool) → Placed × Placed → Bool
ranks_one withdrawn pair = goes_on pair.0.item && is_of_withdrawn withdrawn pair.1.item

-- of these tokens the withdrawn candidates on ballots: each is right after a count or another candidate
abbrev pub withdrawn_ranks : (withdrawn : List Bool) → List Placed → List Placed
withdrawn_ranks withdrawn tokens = map (λ pair. pair.1) (filter (ranks_one withdrawn) (zip tokens (drop 1 tokens)))

-- where the first withdrawn candidate on a ballot stands; the numbers of candidates and of seats are on none
abbrev pub withdrawn_at : (input : List ℕ) → (withdrawn : List Bool) → ℕ
withdrawn_at input withdrawn = slice_index (places (withdrawn_ranks withdrawn (drop 2 (tokens_of input)))) 0

-- ---- a ballot file as it is looked at

-- its bytes, and the roll that they say
pub record FileList : Type 0 where
  pub input : List ℕ
  pub roll : RollList

-- the marks of the first strings, so many of them: candidate c's is at place c - 1, and the title's after all of these
pub record AreNameMarks (input : List ℕ) (count : ℕ) (marks : List Mark) : Type 0 where
  pub all : length marks ≡ count
  pub each : (c : ℕ) (d : Mark) → 1 ≤ c → c ≤ count
      → IsMarkOf input (name_at input c) (slice_index_or marks (c - 1) d)
