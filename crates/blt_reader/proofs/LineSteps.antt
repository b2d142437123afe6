-- One number more within ballots.
use Rattle.std.proofs.Common.{◌≡◌, ℕ, ◌+◌, ◌<◌, ◌≤◌, List, [], ◌∷◌, ◌++◌, length, Bool, true, false, ◌==◌}
use Rattle.std.proofs.Common.{◌||◌, refl, sym, ◌∙◌, ap, arith, get_or, set, Ok, Err}
use Rattle.std.specs.List.{list_any}
use Rattle.std.proofs.lemmas.Bool.{eq-eqb, ne_eqb, le-leb, lt-leb}
use Rattle.std.proofs.lemmas.List.Folds.{list_any-append}
use Rattle.std.proofs.lemmas.Grind.{common_steps}
use Rattle.plain_ballots.specs.Ballots.{ballot_count}
use Rattle.plain_ballots.specs.declared.ballot_line.BallotLine.{BallotLine}
use Rattle.input_text.specs.declared.fault_kind.FaultKind.{FaultKind}
use Rattle.input_text.specs.declared.fault_kind.FaultKind.TheVariants.{NoSuchCandidate, Repeated}
use Rattle.input_text.specs.declared.input_fault.InputFault.{InputFault}
use Rattle.input_text.specs.declared.input_stop.InputStop.{InputStop}
use Rattle.input_text.specs.Token.{Item, Number, Minus, Text, Word, Scan, with_front}
use Rattle.input_text.specs.Judged.{reads}
use Rattle.blt_reader.specs.BallotTable.{at_rank, Limit, Lines, Between, Within, with_line, at_line}
use Rattle.input_text.specs.Reads.{Stops, as_number, Reads}
use Rattle.blt_reader.specs.Reads.{Marks}
use Rattle.input_text.proofs.Judgements.{accepted, same_kind}
use Rattle.input_text.proofs.Reading.{goes_on, ends_with, refused_at, stops, inner_read, inner_fails}

-- ---- a candidate or 0

module _ (candidates : ℕ) (ranks : List ℕ) where
  no_number : (item : Item) (kind : FaultKind) → as_number item ≡ Err kind → at_rank candidates ranks item ≡ Err kind
  no_number (Number n) kind e = absurd (accepted e)
  no_number (Minus n) kind e = ap Err (same_kind e)
  no_number (Text bytes) kind e = ap Err (same_kind e)
  no_number (Word letters) kind e = ap Err (same_kind e)

  pub rank_stops :
      (old new : Scan) (fault : InputFault) → Stops as_number old fault new
      → reads (at_rank candidates) ranks old ≡ Err (record { fault = fault; rest = new })
  rank_stops old new fault is = stops (at_rank candidates) ranks old new as_number fault no_number is

  module _ (old new : Scan) (n at : ℕ) (given : old ≡ with_front (record { at = at; item = Number n }) new) where
    pub line_ends : n ≡ 0 → reads (at_rank candidates) ranks old ≡ Ok (ranks, new)
    line_ends none = ends_with (at_rank candidates) ranks old new _ ranks given (rw (eq-eqb n 0 none) refl)

    pub above :
        (n ≡ 0 → ⊥) → candidates < n → reads (at_rank candidates) ranks old
        ≡ Err (record { fault = record { kind = NoSuchCandidate; at = at }; rest = new })
    above some greater =
        refused_at (at_rank candidates) ranks old new _ NoSuchCandidate given
        (rw (ne_eqb n 0 some, lt-leb n candidates greater) refl)

    pub again :
        (n ≡ 0 → ⊥) → n ≤ candidates → list_any (λ r. r == n) ranks ≡ true
        → reads (at_rank candidates) ranks old ≡ Err (record { fault = record { kind = Repeated; at = at }; rest = new })
    again some within twice =
        refused_at (at_rank candidates) ranks old new _ Repeated given
        (rw (ne_eqb n 0 some, le-leb n candidates within, twice) refl)

    pub one_more :
        (n ≡ 0 → ⊥) → n ≤ candidates → list_any (λ r. r == n) ranks ≡ false
        → reads (at_rank candidates) ranks old ≡ reads (at_rank candidates) (ranks ++ n ∷ []) new
    one_more some within once =
        goes_on (at_rank candidates) ranks old new _ (ranks ++ n ∷ []) given
        (rw (ne_eqb n 0 some, le-leb n candidates within, once) refl)

-- ---- marks of the candidates

mark_at :
    (named : List Bool) (ranks : List ℕ) (n m : ℕ) (same : Bool) → (n == m) ≡ same → n < length named
    → get_or named m false ≡ list_any (λ r. r == m) ranks
    → get_or (set named n true) m false ≡ (list_any (λ r. r == m) ranks || (same || false))
mark_at named ranks n m true is inside was = grind (arith, common_steps)
mark_at named ranks n m false is inside was = grind (arith, common_steps)

pub one_marked_more :
    (candidates : ℕ) (named : List Bool) (ranks : List ℕ) (n : ℕ) → n < length named → Marks candidates named ranks
    → Marks candidates (set named n true) (ranks ++ n ∷ [])
one_marked_more candidates named ranks n inside marks m within =
    mark_at named ranks n m (n == m) refl inside (marks m within) ∙ sym (list_any-append (λ r. r == m) ranks (n ∷ []))

-- ---- a count or 0

module _ (candidates : ℕ) (limit : Limit) (lines : List BallotLine) where
  no_count :
      (item : Item) (kind : FaultKind) → as_number item ≡ Err kind → at_line candidates limit (Between lines) item ≡ Err kind
  no_count (Number n) kind e = absurd (accepted e)
  no_count (Minus n) kind e = ap Err (same_kind e)
  no_count (Text bytes) kind e = ap Err (same_kind e)
  no_count (Word letters) kind e = ap Err (same_kind e)

  pub count_stops :
      (old new : Scan) (fault : InputFault) → Stops as_number old fault new
      → reads (at_line candidates limit) (Between lines) old ≡ Err (record { fault = fault; rest = new })
  count_stops old new fault is = stops (at_line candidates limit) (Between lines) old new as_number fault no_count is

  module _ (rest : Scan) (n at : ℕ) where
    abbrev Text_at : Scan
    Text_at = with_front (record { at = at; item = Number n }) rest

    pub all_read : n ≡ 0 → reads (at_line candidates limit) (Between lines) Text_at ≡ Ok (lines, rest)
    all_read none =
        ends_with (at_line candidates limit) (Between lines) Text_at rest _ lines refl
        (rw (eq-eqb n 0 none) refl)

    pub too_many :
        (n ≡ 0 → ⊥) → limit.most < ballot_count lines + n
        → reads (at_line candidates limit) (Between lines) Text_at
        ≡ Err (record { fault = record { kind = limit.refusal; at = at }; rest = rest })
    too_many some greater =
        refused_at (at_line candidates limit) (Between lines) Text_at rest _ limit.refusal refl
        (rw (ne_eqb n 0 some, lt-leb (ballot_count lines + n) limit.most greater) refl)

    pub line_begins :
        (n ≡ 0 → ⊥) → ballot_count lines + n ≤ limit.most
        → reads (at_line candidates limit) (Between lines) Text_at
        ≡ reads (at_line candidates limit) (Within lines n []) rest
    line_begins some room =
        goes_on (at_line candidates limit) (Between lines) Text_at rest _ (Within lines n []) refl
        (rw (ne_eqb n 0 some, le-leb (ballot_count lines + n) limit.most room) refl)

  module _ (count : ℕ) where
    -- the candidates of the line that was begun
    pub line_read :
        (old new : Scan) (ranks : List ℕ) → reads (at_rank candidates) [] old ≡ Ok (ranks, new)
        → reads (at_line candidates limit) (Within lines count []) old
        ≡ reads (at_line candidates limit) (Between (with_line lines count ranks)) new
    line_read old new ranks is =
        inner_read (at_rank candidates) (at_line candidates limit) (λ r. Within lines count r)
        (λ r. Between (with_line lines count r)) (λ r item. refl) [] old ranks new is

    pub line_fails :
        {R Q : Type 0} (found : R → List ℕ) (value : Q → List BallotLine) (begun : Lines)
        (start old new : Scan) (why : InputStop)
        → reads (at_line candidates limit) begun start ≡ reads (at_line candidates limit) (Within lines count []) old
        → Reads (at_rank candidates) [] found old (Err why) new
        → Reads (at_line candidates limit) begun value start (Err why) new
    line_fails found value begun start old new why so_far is =
        inner_fails (at_rank candidates) (at_line candidates limit) (λ r. Within lines count r)
        (λ r. Between (with_line lines count r)) (λ r item. refl) [] old found value begun start new why so_far is

-- a count, its candidates and 0
pub one_line :
    (candidates : ℕ) (limit : Limit) (lines more : List BallotLine) (count at : ℕ) (rest new : Scan) (ranks : List ℕ)
    → (count ≡ 0 → ⊥) → ballot_count lines + count ≤ limit.most → reads (at_rank candidates) [] rest ≡ Ok (ranks, new)
    → more ≡ with_line lines count ranks → reads (at_line candidates limit) (Between lines)
    (with_front (record { at = at; item = Number count }) rest) ≡ reads (at_line candidates limit) (Between more) new
one_line candidates limit lines more count at rest new ranks some room is all =
    line_begins candidates limit lines rest count at some room
    ∙ line_read candidates limit lines count rest new ranks is
    ∙ ap (λ (l : List BallotLine). reads (at_line candidates limit) (Between l) new) (sym all)
