-- Lines that are read into a store: the table goes on after the lines that it holds.
use Rattle.std.proofs.Common.{◌≡◌, ℕ, ◌+◌, ◌-◌, ◌<◌, ◌≤◌, List, [], ◌∷◌, ◌++◌, sym, ◌∙◌, ap, subst, arith, Ok, Err}
use Rattle.std.proofs.Common.{append_assoc, inl, inr}
use Rattle.std.specs.Prelude.{Result, IfOk}
use Rattle.std.proofs.lemmas.List.{append-nil}
use Rattle.std.proofs.lemmas.List.Sums.{sum_by-append, sum_by_push}
use Rattle.plain_ballots.specs.Ballots.{ballot_count}
use Rattle.plain_ballots.specs.Ranking.{IsRanking}
use Rattle.plain_ballots.specs.declared.ballot_line.BallotLine.{BallotLine}
use Rattle.input_text.specs.declared.input_fault.InputFault.{InputFault}
use Rattle.input_text.specs.declared.input_stop.InputStop.{InputStop}
use Rattle.input_text.specs.declared.input_stop.InputStop.TheVariants as stop
use Rattle.input_text.specs.Token.{Item, Number, Scan, with_front}
use Rattle.input_text.specs.Judged.{Judged, Progress, reads}
use Rattle.input_text.specs.Reads.{Stops, as_number, OnFault, Reads}
use Rattle.blt_reader.specs.declared.line_bounds.LineBounds.{LineBounds}
use Rattle.blt_reader.specs.Blt.{AreLines}
use Rattle.blt_reader.specs.BallotTable.{at_rank, Limit, Between, with_line, at_line}
use Rattle.blt_reader.specs.Stored.{ReadsHeld, HoldsLines}
use Rattle.blt_reader.specs.Pieces.{ReadsPiece, RefusesPiece, ReadsOn, IsEndOrBehind}
use Rattle.blt_reader.proofs.BallotSoundness.{one_line_more}
use Rattle.blt_reader.proofs.LineSteps.{count_stops, all_read, too_many, line_begins, line_fails, one_line}

count_both : (lines more : List BallotLine) → ballot_count (lines ++ more) ≡ ballot_count lines + ballot_count more
count_both lines more = sum_by-append (λ (l : BallotLine). l.count) lines more

count_one_more :
    (lines : List BallotLine) (count : ℕ) (ranks : List ℕ)
    → ballot_count (with_line lines count ranks) ≡ ballot_count lines + count
count_one_more lines count ranks =
    sum_by_push (λ (l : BallotLine). l.count) lines (record { count = count; ranking = ranks })

-- at no place after this one, it is the 0
pub is_end : (place : ℕ) (last : ℕ × ℕ) → IsEndOrBehind place last → last.1 ≤ place → last.0 ≡ 0
is_end place last (inl none) within = none
is_end place last (inr behind) within = absurd (omega (arith, behind, within))

module _ {B : Type 0} (holds : B → List BallotLine → Type 0) (bounds : LineBounds) (old : B) (start : Scan) where
  abbrev limit : Limit
  limit = record { most = bounds.most; refusal = bounds.refusal }

  -- the store holds lines more, after which the table goes on as at the start
  abbrev pub HeldSoFar : B → Scan → Type 0
  HeldSoFar store text = ReadsPiece holds bounds old start store text

  -- the store's number of ballots is that of any lines that it holds
  abbrev pub Counts : B → ℕ → Type 0
  Counts store total = (lines : List BallotLine) → holds store lines → total ≡ ballot_count lines

  abbrev Refused : InputStop → Scan → Type 0
  Refused why new = OnFault why (λ fault. RefusesPiece holds bounds old start fault new)

  pub none_held : HeldSoFar old start
  none_held = record {
    lines = [];
    held = λ before h. subst (holds old) (sym (append-nil before)) h;
    are = λ before h are. subst (AreLines bounds.candidates bounds.most) (sym (append-nil before)) are;
    same =
        λ before few.
        ap (λ (l : List BallotLine). reads (at_line bounds.candidates limit) (Between l) start) (sym (append-nil before));
  }

  module _ (store : B) (text : Scan) (so : HeldSoFar store text) where
    -- what the table makes of the start, after lines that the store held there
    goes_so :
        (before : List BallotLine) → holds old before → AreLines bounds.candidates bounds.most before
        → reads (at_line bounds.candidates limit) (Between before) start
        ≡ reads (at_line bounds.candidates limit) (Between (before ++ so.lines)) text
    goes_so before h are =
        so.same before (omega (arith, (so.are before h are).bounded, count_both before so.lines))

    pub next_fails :
        (new : Scan) (fault : InputFault) → Stops as_number text fault new → Refused (stop.Fault fault) new
    next_fails new fault is before h are =
        goes_so before h are ∙ count_stops bounds.candidates limit (before ++ so.lines) text new fault is

    module _ (some_held : HoldsLines holds bounds.candidates bounds.most old) where
      pub lines_held : HoldsLines holds bounds.candidates bounds.most store
      lines_held =
          (some_held.0 ++ so.lines, so.held some_held.0 some_held.1, so.are some_held.0 some_held.1 some_held.2)

      pub within_limit : (total : ℕ) → Counts store total → total ≤ bounds.most
      within_limit total counts =
          omega (arith, counts lines_held.0 lines_held.1, lines_held.2.bounded)

  pub stopped_on : (why : InputStop) (new : Scan) → Refused why new → ReadsOn holds bounds old start (Err why) new
  stopped_on (stop.Fault fault) new is before h are = (before, tt, is before h are)
  stopped_on stop.NoMemory new is before h are = (before, tt, tt)

  module _ (store : B) (rest : Scan) (count at : ℕ) (so : HeldSoFar store (with_front (record { at = at; item = Number count }) rest)) where
    pub all_held : count ≡ 0 → ReadsOn holds bounds old start (Ok store) rest
    all_held none before h are = (
      before ++ so.lines,
      so.held before h,
      goes_so store _ so before h are ∙ all_read bounds.candidates limit (before ++ so.lines) rest count at none,
    )

    module _ (total : ℕ) (counts : Counts store total) where
      total_is : (before : List BallotLine) → holds old before → total ≡ ballot_count (before ++ so.lines)
      total_is before h = counts (before ++ so.lines) (so.held before h)

      pub too_many_held :
          (count ≡ 0 → ⊥) → bounds.most - total < count
          → Refused (stop.Fault (record { kind = bounds.refusal; at = at })) rest
      too_many_held some greater before h are =
          goes_so store _ so before h are
          ∙ too_many bounds.candidates limit (before ++ so.lines) rest count at some
          (omega (arith, greater, (so.are before h are).bounded, total_is before h))

      module _ (some : count ≡ 0 → ⊥) (few : count ≤ bounds.most - total) (fits : total ≤ bounds.most) where
        -- there is room in the store too, whatever lines it holds
        pub room_in_store :
            (most : ℕ) → bounds.most ≤ most → (lines : List BallotLine) → holds store lines → ballot_count lines + count ≤ most
        room_in_store most within lines held = omega (arith, within, few, counts lines held, fits)

        pub ranks_fail :
            {R : Type 0} (found : R → List ℕ) (new : Scan) (why : InputStop)
            → Reads (at_rank bounds.candidates) [] found rest (Err why) new → Refused why new
        ranks_fail found new stop.NoMemory is = tt
        ranks_fail found new (stop.Fault fault) is =
            λ before h are.
            line_fails bounds.candidates limit (before ++ so.lines) count found (λ (store : B). before) (Between before)
            start rest new (stop.Fault fault)
            (goes_so store _ so before h are
            ∙ line_begins bounds.candidates limit (before ++ so.lines) rest count at some
            (omega (arith, few, fits, total_is before h))) is

        pub one_more_held :
            (more : B) (ranks : List ℕ) (new : Scan) → reads (at_rank bounds.candidates) [] rest ≡ Ok (ranks, new)
            → IsRanking bounds.candidates ranks
            → ((lines : List BallotLine) → holds store lines → holds more (with_line lines count ranks))
            → HeldSoFar more new
        one_more_held more ranks new is ranking holds_more =
            let line : BallotLine = record { count = count; ranking = ranks } in
            let behind : (before : List BallotLine) → before ++ with_line so.lines count ranks
            ≡ with_line (before ++ so.lines) count ranks =
            λ before. sym (append_assoc before so.lines (line ∷ [])) in
            record {
              lines = with_line so.lines count ranks;
              held =
                  λ before h.
                  subst (holds more) (sym (behind before)) (holds_more (before ++ so.lines) (so.held before h));
              are =
                  λ before h are.
                  subst (AreLines bounds.candidates bounds.most) (sym (behind before))
                  (one_line_more bounds.candidates bounds.most (before ++ so.lines) line (so.are before h are) ranking
                  (omega (arith, some)) (omega (arith, few, fits, total_is before h)));
              same =
                  λ before room.
                  let all : ballot_count before + (ballot_count so.lines + count) ≤ bounds.most =
                  omega (arith, room, count_one_more so.lines count ranks) in
                  so.same before (omega (arith, all))
                  ∙ one_line bounds.candidates limit (before ++ so.lines) (before ++ with_line so.lines count ranks) count
                  at rest new ranks some (omega (arith, all, count_both before so.lines)) is (behind before);
            }

-- ---- a store that has the lines themselves

module _ {S V R : Type 0} (table : S → Item → Judged (Progress S V)) (expected : S) (old new : Scan) where
  -- a reading that stopped says nothing of a value
  pub stopped_so :
      {Q : Type 0} (value : R → V) (other : Q → V) (why : InputStop) → Reads table expected value old (Err why) new
      → Reads table expected other old (Err why) new
  stopped_so value other (stop.Fault fault) is = is
  stopped_so value other stop.NoMemory is = tt

  pub held_itself :
      (lines_of : R → List BallotLine) (value : R → List BallotLine → V) (result : Result R InputStop)
      → ReadsHeld (λ found lines. lines_of found ≡ lines) table expected value old result new
      → Reads table expected (λ found. value found (lines_of found)) old result new
  held_itself lines_of value (Ok found) is = is.2 ∙ ap (λ (l : List BallotLine). Ok (value found l, new)) (sym is.1)
  held_itself lines_of value (Err (stop.Fault fault)) is = is.2
  held_itself lines_of value (Err stop.NoMemory) is = tt

pub lines_itself :
    {R : Type 0} (lines_of : R → List BallotLine) (candidates most : ℕ) (result : Result R InputStop)
    → IfOk result (HoldsLines (λ found lines. lines_of found ≡ lines) candidates most)
    → IfOk result (λ found. AreLines candidates most (lines_of found))
lines_itself lines_of candidates most (Ok found) is = subst (AreLines candidates most) (sym is.1) is.2
lines_itself lines_of candidates most (Err why) is = tt
