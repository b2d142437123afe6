-- What of a file's text wants a look: parted ballots, strings after the title, and more bytes than a count reads.
use Rattle.std.specs.Prelude.{ℕ, ◌+◌, ◌==◌, Bool, not, nat_lt, ◌&&◌, if◌then◌else◌, List, [], ◌∷◌, ◌++◌, length, drop, codes}
use Rattle.input_text.specs.Token.{Placed}
use Rattle.tool_edge.specs.declared.opening.TheConstants.{FILE_LIMIT}
use Rattle.ballot_findings.specs.Lines.{only_if, place_line, told}
use Rattle.ballot_findings.specs.Places.{line_at}
use Rattle.ballot_findings.specs.Sites.{goes_on, strings, tokens_of}
use Rattle.ballot_findings.specs.Unseen.{apart_lines, far_lines, return_lines}

-- ---- ballots that a line break parts

-- The ballot goes on after the token, but on another line.
abbrev pub is_parted : (input : List ℕ) → (token next : Placed) → Bool
is_parted input token next = goes_on token.item && not (line_at input token.at == line_at input next.at)

-- this token and the further ones, of each of which the next is parted
abbrev pub parted_from : (input : List ℕ) → Placed → List Placed → List Placed
parted_from input token [] = []
parted_from input token (next ∷ tokens) =
    let rest = parted_from input next tokens in if is_parted input token next then token ∷ rest else rest

abbrev pub parted : (input : List ℕ) → List Placed → List Placed
parted input [] = []
parted input (token ∷ tokens) = parted_from input token tokens

-- The numbers of candidates and of seats, with which a file begins, may stand on any lines.
abbrev pub break_lines : (input : List ℕ) → List ℕ
break_lines input =
    told (λ token. place_line input (codes "look line ends within a ballot") [] token.at)
    (parted input (drop 2 (tokens_of input)))

-- ---- strings after the title

abbrev pub string_lines : (input : List ℕ) → List Placed → List ℕ
string_lines input tokens =
    told (λ token. place_line input (codes "look string behind the title") [] token.at) tokens

-- the lines on strings that are neither a name nor the title
abbrev pub further_lines : (input : List ℕ) → (candidates : ℕ) → List ℕ
further_lines input candidates = string_lines input (drop (candidates + 1) (strings (tokens_of input)))

-- ---- a file that is longer than a count reads

-- Where a count reads so many bytes, and the file has more: how many a count reads, and the place of the first after them.
unfoldable pub longer_lines : (most : ℕ) → (input : List ℕ) → List ℕ
longer_lines most input =
    only_if (nat_lt most (length input)) (place_line input (codes "look longer than a count reads") (most ∷ []) most)

-- what of the text of a file wants a look
abbrev pub place_warnings : (input : List ℕ) → (candidates : ℕ) → List ℕ
place_warnings input candidates =
    apart_lines input ++ break_lines input ++ further_lines input candidates ++ far_lines input ++ return_lines input
    ++ longer_lines FILE_LIMIT input
