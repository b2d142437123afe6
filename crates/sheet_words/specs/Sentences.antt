-- What an iteration, and the end of a count, decided: a sentence for each decision.
use Rattle.std.specs.Prelude.{ℕ, ◌+◌, ◌-◌, ◌≤◌, ⊤, ◌||◌, nat_eq, nat_le, not, if◌then◌else◌, Bool, false, List, [], ◌∷◌, ◌++◌, length, codes, decimal, slice_index, count_by}
use Rattle.std.specs.List.{flat_map, list_any}
use Rattle.candidate_roll.specs.State.{state_at}
use Rattle.candidate_roll.specs.declared.state.State.{State}
use Rattle.candidate_roll.specs.declared.state.State.TheVariants.{Hopeful, Elected as IsElected, Defeated, Withdrawn}
use Rattle.fixed_place.specs.Text.{text_of}
use Rattle.lot_order.specs.Flags.{mark_at}
use Rattle.meek_rule.specs.Row.{Row}
use Rattle.meek_rule.specs.Situation.{elected_count}
use Rattle.meek_rule.specs.declared.step.Step.{Step}
use Rattle.meek_rule.specs.declared.step.Step.TheVariants.{Elected, Iterate, Defeat}
use Rattle.sheet_reader.specs.Values.{SheetList}
use Rattle.sheet_words.specs.declared.decision.Decision.{Decision}
use Rattle.sheet_words.specs.declared.decision.Decision.TheVariants.{Election, Arrival, Choice, Cap, Defeat as Defeats, Tie, Lot}
use Rattle.sheet_words.specs.declared.group.Group.TheVariants.{Reached, Elected as Winners, LeftOut, LeftByLot, Capped, Tied}
use Rattle.sheet_words.specs.Groups.{all_places, members}
use Rattle.sheet_words.specs.Phrases.{called, listing, for_one_or_more}

-- ---- the decisions of an iteration

-- Somebody is elected: all who have the quota, or some of them, where more have it than seats are left.
abbrev pub elections : Row → List Decision
elections row =
    if nat_eq (members row Winners) 0 then [] else if nat_eq (members row LeftOut) 0 then Election ∷ [] else Arrival ∷ Choice ∷ []

abbrev pub caps : Row → List Decision
caps row = if nat_eq (members row Capped) 0 then [] else Cap ∷ []

-- Two or more are tied for a defeat: the lots decide.
abbrev pub has_tie : Row → Bool
has_tie row = nat_le 2 (members row Tied)

abbrev pub defeats_of : Row → Step → List Decision
defeats_of row Elected = []
defeats_of row Iterate = []
defeats_of row (Defeat c) = if has_tie row then Tie ∷ Lot c ∷ [] else Defeats c ∷ []

abbrev pub decisions_of : Row → List Decision
decisions_of row = elections row ++ (caps row ++ defeats_of row row.step)

-- ---- their sentences

-- the quota, which so many reached, and what is after it
abbrev pub at_quota : (places count quota : ℕ) → (behind : List ℕ) → List (List ℕ)
at_quota places count quota behind =
    for_one_or_more (codes " reaches the quota of ") (codes " reach the quota of ") count ∷ text_of places quota ∷ behind ∷ []

-- who reached the quota, and is elected
abbrev pub seated : (places : ℕ) → Row → List (List ℕ)
seated places row =
    at_quota places (members row Winners) row.quota (for_one_or_more (codes " and is elected.") (codes " and are elected.") (members row Winners))

abbrev pub election : (places : ℕ) → SheetList → Row → List (List ℕ)
election places v row = listing places v row Winners ++ seated places row

-- who reached the quota, where not all of them are elected
abbrev pub arrived : (places : ℕ) → Row → List (List ℕ)
arrived places row = at_quota places (members row Reached) row.quota (codes ".")

abbrev pub arrival : (places : ℕ) → SheetList → Row → List (List ℕ)
arrival places v row = listing places v row Reached ++ arrived places row

-- how those are chosen for whom there are seats: by their votes, and where votes are equal by the lots
abbrev pub reason : Row → List ℕ
reason row =
    if nat_eq (members row LeftByLot) 0 then codes ": a greater vote comes first."
    else codes ": a greater vote comes first, and of equal votes the later in the lots."

-- the seats that are left before an iteration
abbrev pub seats_left : SheetList → Row → ℕ
seats_left v row = v.seats - elected_count row.states

abbrev pub seats_for_them : SheetList → Row → List (List ℕ)
seats_for_them v row = codes "Seats left for them: " ∷ decimal (seats_left v row) ∷ codes ". " ∷ []

-- for whom of them there are seats, and why
abbrev pub chosen : Row → List (List ℕ)
chosen row = for_one_or_more (codes " is elected") (codes " are elected") (members row Winners) ∷ reason row ∷ []

abbrev pub choice : (places : ℕ) → SheetList → Row → List (List ℕ)
choice places v row = seats_for_them v row ++ (listing places v row Winners ++ chosen row)

-- whose keep value would have been more than one whole vote
abbrev pub held : Row → List (List ℕ)
held row =
    for_one_or_more (codes " has its keep value capped at one whole vote.")
    (codes " have their keep values capped at one whole vote.") (members row Capped)
    ∷ []

abbrev pub cap : (places : ℕ) → SheetList → Row → List (List ℕ)
cap places v row = listing places v row Capped ++ held row

-- the defeat of candidate c, which nobody is tied with
abbrev pub with_fewest : (places : ℕ) → Row → (c : ℕ) → List (List ℕ)
with_fewest places row c =
    codes " has the fewest votes, " ∷ text_of places (slice_index row.votes (c - 1)) ∷ codes ", and is defeated." ∷ []

abbrev pub defeat : (places : ℕ) → SheetList → Row → (c : ℕ) → List (List ℕ)
defeat places v row c = called v (c - 1) ++ with_fewest places row c

-- who is tied: whoever has at most the fewest votes and the surplus together
abbrev pub within_surplus : (places : ℕ) → Row → List (List ℕ)
within_surplus places row =
    codes " are tied: their votes are no further apart than the surplus of " ∷ text_of places row.surplus ∷ codes "." ∷ []

abbrev pub tie : (places : ℕ) → SheetList → Row → List (List ℕ)
tie places v row = listing places v row Tied ++ within_surplus places row

-- which of the tied the lots chose; a sheet does not say the order of the others
abbrev pub lot : SheetList → (c : ℕ) → List (List ℕ)
lot v c =
    (codes "The lots decide: " ∷ [])
    ++ (called v (c - 1) ++ codes " stands first of them in the lots and is defeated." ∷ [])

abbrev pub sentence : (places : ℕ) → SheetList → Row → Decision → List (List ℕ)
sentence places v row Election = election places v row
sentence places v row Arrival = arrival places v row
sentence places v row Choice = choice places v row
sentence places v row Cap = cap places v row
sentence places v row (Defeats c) = defeat places v row c
sentence places v row Tie = tie places v row
sentence places v row (Lot c) = lot v c

-- the number of one of n candidates
abbrev pub IsNumber : (n c : ℕ) → Type 0
IsNumber n c = (1 ≤ c) × (c ≤ n)

-- A decision on one candidate names one of n.
abbrev pub IsNamed : (n : ℕ) → Decision → Type 0
IsNamed n Election = ⊤
IsNamed n Arrival = ⊤
IsNamed n Choice = ⊤
IsNamed n Cap = ⊤
IsNamed n (Defeats c) = IsNumber n c
IsNamed n Tie = ⊤
IsNamed n (Lot c) = IsNumber n c

-- ---- the end

-- whether a step defeats the candidate at a place
abbrev pub strikes : Step → (p : ℕ) → Bool
strikes Elected p = false
strikes Iterate p = false
strikes (Defeat c) p = nat_eq c (p + 1)

-- The iteration elects or defeats the candidate at a place.
abbrev pub decides_on : (p : ℕ) → Row → Bool
decides_on p row = mark_at row.elected p || strikes row.step p

-- No iteration decided on the candidate at a place.
abbrev pub is_open : SheetList → (p : ℕ) → Bool
is_open v p = not (list_any (decides_on p) v.rows)

-- Some iteration elected the candidate at a place.
abbrev pub takes_seat : SheetList → (p : ℕ) → Bool
takes_seat v p = list_any (λ row. mark_at row.elected p) v.rows

-- the seats that were taken in iterations
abbrev pub seats_taken : SheetList → ℕ
seats_taken v = count_by (takes_seat v) (all_places (length v.names))

-- why the count ends
abbrev pub ending : SheetList → List ℕ
ending v = if nat_eq (seats_taken v) v.seats then codes "All seats are taken." else codes "No more candidates are left than seats."

-- what becomes at the end of a candidate on whom no iteration decided
abbrev pub late : SheetList → (p : ℕ) → State → List (List (List ℕ))
late v p Hopeful = []
late v p IsElected = (called v p ++ codes " is elected: there is a seat for each who remains." ∷ []) ∷ []
late v p Defeated = (called v p ++ codes " is defeated: no seat is left." ∷ []) ∷ []
late v p Withdrawn = []

abbrev pub late_at : SheetList → (p : ℕ) → List (List (List ℕ))
late_at v p = if is_open v p then late v p (state_at v.last p) else []

-- all sentences of the end
abbrev pub sentences_at_end : SheetList → List (List (List ℕ))
sentences_at_end v = (ending v ∷ []) ∷ flat_map (late_at v) (all_places (length v.names))

-- ---- the result

abbrev pub fate : State → List ℕ
fate Hopeful = codes ": hopeful"
fate IsElected = codes ": elected"
fate Defeated = codes ": defeated"
fate Withdrawn = codes ": withdrawn"

-- what became of a candidate
abbrev pub outcome : SheetList → (p : ℕ) → List (List ℕ)
outcome v p = called v p ++ fate (state_at v.last p) ∷ []
