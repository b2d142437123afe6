-- The table of ballot files accepts each front part of a file, and each front part can go on to a file.
use Rattle.std.proofs.Common.{◌≡◌, ℕ, ◌+◌, ◌-◌, ◌<◌, ◌≤◌, List, [], ◌∷◌, ◌++◌, length, map, Bool, refl, sym}
use Rattle.std.proofs.Common.{◌∙◌, ap, arith, append_assoc, Ok}
use Rattle.std.specs.Prelude.{All, replicate}
use Rattle.std.specs.List.{flat_map}
use Rattle.std.proofs.lemmas.Bool.{le-leb}
use Rattle.std.proofs.lemmas.List.{append-nil, length_push, length-append, length-replicate}
use Rattle.std.proofs.lemmas.List.Elements.{All-head, All-tail, All-replicate}
use Rattle.plain_ballots.specs.declared.ballot_line.BallotLine.{BallotLine}
use Rattle.candidate_roll.specs.declared.limits.TheConstants.{MOST_NAME_BYTES, MOST_TITLE_BYTES}
use Rattle.input_text.specs.Token.{Item, Number, Minus, Text}
use Rattle.blt_reader.specs.Poll.{Poll}
use Rattle.input_text.specs.Range.{IsIn}
use Rattle.blt_reader.specs.Blt.{AreLines, ballot, ballots, IsUpToTitle, IsBlt}
use Rattle.input_text.specs.Judged.{Judged, after, Progress, GoesOn, Ends, going_on, closed}
use Rattle.blt_reader.specs.BallotTable.{Limit, Lines, Between, Within, at_line}
use Rattle.blt_reader.specs.BltTable.{Heading, Expected, Candidates, Seats, Withdrawn, Ballots, Name, Title}
use Rattle.blt_reader.specs.BltTable.{at_token, behind_name, poll_of, behind_title, at_file_token}
use Rattle.blt_reader.specs.Front.{opening_of, begun, AreBegun, IsFront}
use Rattle.input_text.proofs.Judgements.{to_range}
use Rattle.input_text.proofs.Tables.{in_parts, carried_is, place_of, carries}
use Rattle.blt_reader.proofs.NameSteps.{name_expected, title_expected}
use Rattle.blt_reader.proofs.BallotCompleteness.{reads_begun_line, reads_lines, reads_ballots}

short_names : (n : ℕ) → All (λ (name : List ℕ). length name ≤ MOST_NAME_BYTES) (replicate n [])
short_names n = All-replicate (λ (name : List ℕ). length name ≤ MOST_NAME_BYTES) n [] (omega arith)

-- whatever may stand after the title
module _ (limit : Limit) (behind : Poll → Item → Judged (Progress Expected Poll)) where
  abbrev Table : Progress Expected Poll → Item → Judged (Progress Expected Poll)
  Table = going_on (at_token limit) behind

  abbrev Reads : Expected → List Item → Progress Expected Poll → Type 0
  Reads expected items next = after Table (GoesOn expected) items ≡ Ok next

  abbrev Start : ℕ → ℕ → Heading
  Start candidates seats = record { candidates = candidates; seats = seats; withdrawn = [] }

  reads_numbers :
      (candidates seats : ℕ) (rest : List Item) → IsIn 250 candidates → IsIn 250 seats
      → after Table (GoesOn Candidates) (Number candidates ∷ Number seats ∷ rest)
      ≡ after Table (GoesOn (Withdrawn (Start candidates seats))) rest
  unfolding at_token
  reads_numbers candidates seats rest c s = rw (to_range 250 candidates c, to_range 250 seats s) refl

  reads_withdrawn :
      (numbers : List ℕ) (h : Heading) → All (IsIn h.candidates) numbers
      → Reads (Withdrawn h) (map Minus numbers) (GoesOn (Withdrawn (record h { withdrawn = h.withdrawn ++ numbers })))
  unfolding at_token
  reads_withdrawn [] h each =
      ap (λ (w : List ℕ). Ok (GoesOn (Withdrawn (record h { withdrawn = w })))) (sym (append-nil h.withdrawn))
  reads_withdrawn (n ∷ numbers) h each =
      rw (to_range h.candidates n (All-head (IsIn h.candidates) n numbers each))
      (reads_withdrawn numbers (record h { withdrawn = h.withdrawn ++ n ∷ [] }) (All-tail (IsIn h.candidates) n numbers each)
      ∙ ap (λ (w : List ℕ). Ok (GoesOn (Withdrawn (record h { withdrawn = w }))))
      (append_assoc h.withdrawn (n ∷ []) numbers))

  pub reads_opening :
      (h : Heading) → IsIn 250 h.candidates → IsIn 250 h.seats → All (IsIn h.candidates) h.withdrawn
      → Reads Candidates (opening_of h) (GoesOn (Withdrawn h))
  reads_opening h candidates seats each =
      reads_numbers h.candidates h.seats (map Minus h.withdrawn) candidates seats
      ∙ reads_withdrawn h.withdrawn (Start h.candidates h.seats) each

  -- what the table of ballots accepts is accepted within the file
  in_ballots :
      (h : Heading) (items : List Item) (start last : Progress Lines (List BallotLine))
      → after (closed (at_line h.candidates limit)) start items ≡ Ok last
      → after Table (place_of (λ lines. GoesOn (Ballots h lines)) (λ lines. GoesOn (Name h lines [])) start) items
      ≡ Ok (place_of (λ lines. GoesOn (Ballots h lines)) (λ lines. GoesOn (Name h lines [])) last)
  unfolding at_token
  in_ballots h items =
      carries (at_line h.candidates limit) Table (λ lines. GoesOn (Ballots h lines))
      (λ lines. GoesOn (Name h lines []))
      (λ lines item. carried_is (λ more. Ballots h more) (λ all. Name h all [])
      (at_line h.candidates limit lines item)) items

  -- the first count is judged as every count is
  pub first_number :
      (h : Heading) (n : ℕ) (items : List Item) → after Table (GoesOn (Withdrawn h)) (Number n ∷ items)
      ≡ after Table (GoesOn (Ballots h (Between []))) (Number n ∷ items)
  unfolding at_token
  first_number h n items = refl

  first_lines :
      (lines : List BallotLine) (h : Heading) → 0 < length (flat_map ballot lines)
      → after Table (GoesOn (Withdrawn h)) (flat_map ballot lines)
      ≡ after Table (GoesOn (Ballots h (Between []))) (flat_map ballot lines)
  first_lines [] h some = absurd (omega arith)
  first_lines (line ∷ lines) h some = first_number h line.count _

  first_ballots :
      (lines : List BallotLine) (h : Heading) (rest : List Item)
      → after Table (GoesOn (Withdrawn h)) (ballots lines ++ rest)
      ≡ after Table (GoesOn (Ballots h (Between []))) (ballots lines ++ rest)
  first_ballots [] h rest = first_number h 0 _
  first_ballots (line ∷ lines) h rest = first_number h line.count _

  reads_begun :
      (lines : Lines) (h : Heading) → AreBegun h.candidates limit.most lines
      → after (closed (at_line h.candidates limit)) (GoesOn (Between [])) (begun lines) ≡ Ok (GoesOn lines)
  reads_begun (Between lines) h are = reads_lines h.candidates limit lines are
  reads_begun (Within lines count ranks) h are =
      in_parts (closed (at_line h.candidates limit)) (GoesOn (Between [])) (GoesOn (Between lines)) (flat_map ballot lines)
      (Number count ∷ map Number ranks) (reads_lines h.candidates limit lines are.before)
      ∙ reads_begun_line h.candidates limit lines count ranks are.ranking are.counted are.room

  first_begun :
      (lines : Lines) (h : Heading) → 0 < length (begun lines)
      → after Table (GoesOn (Withdrawn h)) (begun lines) ≡ after Table (GoesOn (Ballots h (Between []))) (begun lines)
  first_begun (Between lines) h some = first_lines lines h some
  first_begun (Within [] count ranks) h some = first_number h count _
  first_begun (Within (line ∷ lines) count ranks) h some = first_number h line.count _

  reads_names :
      (more names : List (List ℕ)) (h : Heading) (lines : List BallotLine) → All (λ name. length name ≤ MOST_NAME_BYTES) more
      → length names + length more ≤ h.candidates
      → Reads (behind_name h lines names) (map Text more) (GoesOn (behind_name h lines (names ++ more)))
  unfolding at_token
  reads_names [] names h lines short fewer =
      ap (λ (n : List (List ℕ)). Ok (GoesOn (behind_name h lines n))) (sym (append-nil names))
  reads_names (name ∷ more) names h lines short fewer =
      let one_more : length names < h.candidates = omega (arith, fewer) in
      let counts : length (names ++ name ∷ []) + length more ≤ h.candidates = omega (arith, fewer, length_push names name) in
      rw (
        name_expected h lines names one_more,
        le-leb (length name) MOST_NAME_BYTES (All-head (λ (n : List ℕ). length n ≤ MOST_NAME_BYTES) name more short),
      )
      (reads_names more (names ++ name ∷ []) h lines (All-tail (λ (n : List ℕ). length n ≤ MOST_NAME_BYTES) name more short) counts
      ∙ ap (λ (n : List (List ℕ)). Ok (GoesOn (behind_name h lines n))) (append_assoc names (name ∷ []) more))

  reads_title :
      (h : Heading) (lines : List BallotLine) (names : List (List ℕ)) (title : List ℕ) → length title ≤ MOST_TITLE_BYTES
      → Reads (Title h lines names) (Text title ∷ []) (Ends (poll_of h lines names title))
  unfolding at_token
  reads_title h lines names title short = rw (le-leb (length title) MOST_TITLE_BYTES short) refl

  -- the opening, all ballots and some names
  reads_up_to_names :
      (h : Heading) (lines : List BallotLine) (names : List (List ℕ)) → IsIn 250 h.candidates → IsIn 250 h.seats
      → All (IsIn h.candidates) h.withdrawn → AreLines h.candidates limit.most lines
      → All (λ name. length name ≤ MOST_NAME_BYTES) names → length names ≤ h.candidates
      → Reads Candidates (opening_of h ++ (ballots lines ++ map Text names)) (GoesOn (behind_name h lines names))
  reads_up_to_names h lines names candidates seats each are short fewer =
      let some : 0 < h.candidates = omega (arith, candidates.least) in
      in_parts Table (GoesOn Candidates) (GoesOn (Withdrawn h)) (opening_of h)
      (ballots lines ++ map Text names) (reads_opening h candidates seats each)
      ∙ first_ballots lines h (map Text names)
      ∙ in_parts Table (GoesOn (Ballots h (Between []))) (GoesOn (Name h lines [])) (ballots lines) (map Text names)
      (in_ballots h (ballots lines) (GoesOn (Between [])) (Ends lines) (reads_ballots h.candidates limit lines are))
      ∙ ap (λ (s : Expected). after Table (GoesOn s) (map Text names)) (sym (name_expected h lines [] some))
      ∙ reads_names names [] h lines short (omega (arith, fewer))

  -- each front part is read as such
  pub reads_front :
      (expected : Expected) (items : List Item) → IsFront limit.most expected items
      → Reads Candidates items (GoesOn expected)
  unfolding at_token
  reads_front Candidates items front = ap (λ (l : List Item). after Table (GoesOn Candidates) l) front
  reads_front (Seats candidates) items front =
      ap (λ (l : List Item). after Table (GoesOn Candidates) l) front.1
      ∙ rw (to_range 250 candidates front.0) refl
  reads_front (Withdrawn h) items front =
      ap (λ (l : List Item). after Table (GoesOn Candidates) l) (front.spelled ∙ append-nil (opening_of h))
      ∙ reads_opening h front.numbers.candidates front.numbers.seats front.numbers.each_withdrawn
  reads_front (Ballots h lines) items front =
      ap (λ (l : List Item). after Table (GoesOn Candidates) l) front.0.spelled
      ∙ in_parts Table (GoesOn Candidates) (GoesOn (Withdrawn h)) (opening_of h) (begun lines)
      (reads_opening h front.0.numbers.candidates front.0.numbers.seats front.0.numbers.each_withdrawn)
      ∙ first_begun lines h front.1
      ∙ in_ballots h (begun lines) (GoesOn (Between [])) (GoesOn lines) (reads_begun lines h front.0.so_far)
  reads_front (Name h lines names) items front =
      let is = front.0 in
      ap (λ (l : List Item). after Table (GoesOn Candidates) l) is.spelled
      ∙ reads_up_to_names h lines names is.numbers.candidates is.numbers.seats is.numbers.each_withdrawn
      is.all_lines is.so_far (omega (arith, front.1))
      ∙ ap (λ (s : Expected). Ok (GoesOn s)) (name_expected h lines names front.1)
  reads_front (Title h lines names) items front =
      let is = front.0 in
      ap (λ (l : List Item). after Table (GoesOn Candidates) l) is.spelled
      ∙ reads_up_to_names h lines names is.numbers.candidates is.numbers.seats is.numbers.each_withdrawn
      is.all_lines is.so_far (omega (arith, front.1))
      ∙ ap (λ (s : Expected). Ok (GoesOn s)) (title_expected h lines names front.1)

  -- and so is each file up to its title
  pub reads_up_to_title :
      (items : List Item) (poll : Poll) → IsUpToTitle limit.most items poll → Reads Candidates items (Ends poll)
  reads_up_to_title items poll is =
      let names = poll.roll.names in
      let h : Heading = record { candidates = length names; seats = poll.roll.seats; withdrawn = is.withdrawn } in
      let fewer : length names ≤ length names = omega arith in
      let regrouped :
      items ≡ (opening_of h ++ (ballots poll.lines ++ map Text names)) ++ Text poll.roll.title ∷ [] =
      is.spelled
      ∙ ap (λ (l : List Item). opening_of h ++ l)
      (sym (append_assoc (ballots poll.lines) (map Text names) (Text poll.roll.title ∷ [])))
      ∙ sym (append_assoc (opening_of h) (ballots poll.lines ++ map Text names) (Text poll.roll.title ∷ [])) in
      ap (λ (l : List Item). after Table (GoesOn Candidates) l) regrouped
      ∙ in_parts Table (GoesOn Candidates) (GoesOn (Title h poll.lines names))
      (opening_of h ++ (ballots poll.lines ++ map Text names)) (Text poll.roll.title ∷ [])
      (reads_up_to_names h poll.lines names is.candidates is.seats is.each_withdrawn is.lines is.names fewer
      ∙ ap (λ (s : Expected). Ok (GoesOn s)) (title_expected h poll.lines names refl))
      ∙ reads_title h poll.lines names poll.roll.title is.title
      ∙ ap (λ (marks : List Bool).
      Ok (Ends (record {
        roll = record { seats = poll.roll.seats; names = names; title = poll.roll.title; withdrawn = marks };
        lines = poll.lines;
      }))) (sym is.marks)

  -- ---- lists that can go on to a file

  abbrev CanGoOn : Expected → Type 0
  CanGoOn expected = (more : List Item) × (poll : Poll) × Reads expected more (Ends poll)

  title_missing : (h : Heading) (lines : List BallotLine) (names : List (List ℕ)) → CanGoOn (Title h lines names)
  title_missing h lines names = (Text [] ∷ [], _, reads_title h lines names [] (omega arith))

  names_missing :
      (h : Heading) (lines : List BallotLine) (names : List (List ℕ)) → length names < h.candidates
      → CanGoOn (Name h lines names)
  names_missing h lines names fewer =
      let fill : List (List ℕ) = replicate (h.candidates - length names) [] in
      let counts : length names + length fill ≡ h.candidates =
      omega (arith, fewer, length-replicate {A = List ℕ} (h.candidates - length names) []) in
      let within : length names + length fill ≤ h.candidates = omega (arith, counts) in
      let all : length (names ++ fill) ≡ h.candidates = length-append names fill ∙ counts in (
        map Text fill ++ Text [] ∷ [],
        _,
        ap (λ (s : Expected). after Table (GoesOn s) (map Text fill ++ Text [] ∷ []))
            (sym (name_expected h lines names fewer))
            ∙ in_parts Table (GoesOn (behind_name h lines names)) (GoesOn (Title h lines (names ++ fill)))
            (map Text fill) (Text [] ∷ [])
            (reads_names fill names h lines (short_names (h.candidates - length names)) within
            ∙ ap (λ (s : Expected). Ok (GoesOn s)) (title_expected h lines (names ++ fill) all))
            ∙ reads_title h lines (names ++ fill) [] (omega arith),
      )

  ballots_end : (h : Heading) (lines : List BallotLine) → 0 < h.candidates → CanGoOn (Ballots h (Between lines))
  unfolding at_token
  ballots_end h lines some = let rest = names_missing h lines [] some in (Number 0 ∷ rest.0, rest.1, rest.2)

  no_ballots : (h : Heading) → 0 < h.candidates → CanGoOn (Withdrawn h)
  unfolding at_token
  no_ballots h some = let rest = names_missing h [] [] some in (Number 0 ∷ rest.0, rest.1, rest.2)

  line_ends :
      (h : Heading) (lines : List BallotLine) (count : ℕ) (ranks : List ℕ) → 0 < h.candidates
      → CanGoOn (Ballots h (Within lines count ranks))
  unfolding at_token
  line_ends h lines count ranks some =
      let rest = ballots_end h (lines ++ (record { count = count; ranking = ranks }) ∷ []) some in
      (Number 0 ∷ rest.0, rest.1, rest.2)

  one_seat : (candidates : ℕ) → 0 < candidates → CanGoOn (Seats candidates)
  unfolding at_token
  one_seat candidates some =
      let rest =
      no_ballots (record { candidates = candidates; seats = 1; withdrawn = [] }) some in
      (Number 1 ∷ rest.0, rest.1, rest.2)

  one_candidate : CanGoOn Candidates
  unfolding at_token
  one_candidate = let rest = one_seat 1 (omega arith) in (Number 1 ∷ rest.0, rest.1, rest.2)

  pub can_go_on : (expected : Expected) (items : List Item) → IsFront limit.most expected items → CanGoOn expected
  can_go_on Candidates items front = one_candidate
  can_go_on (Seats candidates) items front = one_seat candidates (omega (arith, front.0.least))
  can_go_on (Withdrawn h) items front = no_ballots h (omega (arith, front.numbers.candidates.least))
  can_go_on (Ballots h (Between lines)) items front = ballots_end h lines (omega (arith, front.0.numbers.candidates.least))
  can_go_on (Ballots h (Within lines count ranks)) items front =
      line_ends h lines count ranks (omega (arith, front.0.numbers.candidates.least))
  can_go_on (Name h lines names) items front = names_missing h lines names front.1
  can_go_on (Title h lines names) items front = title_missing h lines names

-- strings after the title change nothing
reads_further :
    (limit : Limit) (texts : List (List ℕ)) (poll : Poll)
    → after (at_file_token limit) (Ends poll) (map Text texts) ≡ Ok (Ends poll)
reads_further limit [] poll = refl
reads_further limit (text ∷ texts) poll = reads_further limit texts poll

pub reads_blt :
    (limit : Limit) (items : List Item) (poll : Poll) → IsBlt limit.most items poll
    → after (at_file_token limit) (GoesOn Candidates) items ≡ Ok (Ends poll)
reads_blt limit items poll is =
    ap (λ (l : List Item). after (at_file_token limit) (GoesOn Candidates) l) is.spelled
    ∙ in_parts (at_file_token limit) (GoesOn Candidates) (Ends poll) is.front (map Text is.further)
    (reads_up_to_title limit behind_title is.front poll is.up_to_title)
    ∙ reads_further limit is.further poll
