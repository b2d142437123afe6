-- A sheet under way. The rows so far lead from where the count was begun to where it stands, and their lines were written.
-- Whatever rows lead on from there to the end, with them the lines are those of the whole sheet: so a writing that stops
-- has written a front of the sheet, and one that ends with the result has written all of it.
use Rattle.std.proofs.Common.{◌≡◌, ℕ, List, [], ◌∷◌, ◌++◌, length, Option, Result, Ok, Err, IsErr, refl, sym}
use Rattle.std.proofs.Common.{ap, subst, ◌∙◌, append_assoc, append-nil, inl, inr}
use Rattle.std.specs.Prelude.{OnOk, OnErr, true}
use Rattle.std.specs.List.{flat_map}
use Rattle.std.proofs.lemmas.List.Concat.{flat_map-append}
use Rattle.byte_edge.specs.Faults.{CountsFault}
use Rattle.fixed_place.specs.Rounding.{scale}
use Rattle.candidate_roll.specs.Roll.{RollList}
use Rattle.candidate_roll.specs.declared.state.State.{State}
use Rattle.meek_rule.specs.Situation.{Situation, is_complete, final_states}
use Rattle.meek_rule.specs.Row.{Row}
use Rattle.meek_rule.specs.Rule.{Rule}
use Rattle.meek_count.specs.Rows.{Rows, IsCountUnder}
use Rattle.meek_count.specs.Progress.{Progress, HasJustBegun, HasRest, RowsLead}
use Rattle.meek_count.specs.declared.turn.Turn.{Turn}
use Rattle.meek_count.specs.declared.turn.Turn.TheVariants.{Iterated, Finished}
use Rattle.meek_count.proofs.Leading.{leads_none, leads_more}
use Rattle.sheet_text.specs.Lines.{head_lines, row_lines, result_lines}
use Rattle.sheet_text.specs.Sheet.{lines_up_to, sheet_lines, AppendsSheet, AppendsFrontOfSheet, HasEnded}
use Rattle.sheet_text.specs.Sheet.{StandsWhereItStopped}
use Rattle.sheet_text.specs.Writing.{Wrote, Stopped, Writes}
use Rattle.sheet_text.proofs.WritingLemmas.{later, stops, wrote_later, stopped_later}

-- THE LINES OF A SHEET

module _ (places : ℕ) (roll : RollList) (ballots : ℕ) (done : List Row) where
  -- up to further rows
  lines_up_to-append :
      (more : List Row)
      → lines_up_to places roll ballots (done ++ more)
      ≡ lines_up_to places roll ballots done ++ flat_map (row_lines places) more
  lines_up_to-append more =
      ap (λ (l : List (List ℕ)). head_lines roll ballots ++ l) (flat_map-append (row_lines places) done more)
      ∙ sym (append_assoc (head_lines roll ballots) (flat_map (row_lines places) done) (flat_map (row_lines places) more))

  -- up to one row more
  lines_up_to-one :
      (row : Row)
      → lines_up_to places roll ballots (done ++ row ∷ []) ≡ lines_up_to places roll ballots done ++ row_lines places row
  lines_up_to-one row =
      lines_up_to-append (row ∷ [])
      ∙ ap (λ (l : List (List ℕ)). lines_up_to places roll ballots done ++ l) (append-nil (row_lines places row))

  -- all of them
  sheet_lines-append :
      (more : List Row) (last : List State)
      → sheet_lines places roll ballots (done ++ more) last
      ≡ lines_up_to places roll ballots done ++ (flat_map (row_lines places) more ++ result_lines roll.names last)
  sheet_lines-append more last =
      ap (λ (l : List (List ℕ)). l ++ result_lines roll.names last) (lines_up_to-append more)
      ∙ append_assoc (lines_up_to places roll ballots done) (flat_map (row_lines places) more) (result_lines roll.names last)

-- THE WHOLE SHEET

-- what a call that writes the sheet of a count owes
pub record OwesSheet {S T E : Type 0} (w : S → Option (List ℕ)) (f : S → ℕ) (a b : S) (rule : Rule)
    (places : ℕ) (count : Progress) (r : Result T E) : Type 0 where
  pub all : OnOk r (AppendsSheet rule places count (w a) (w b))
  pub front : OnErr r (AppendsFrontOfSheet rule places count (w a) (w b))
  pub faults : CountsFault (f a) (f b) r

module _ {S T E : Type 0} {w : S → Option (List ℕ)} {f : S → ℕ} {a b : S} (rule : Rule) (places : ℕ)
    (start : Progress) (begun : HasJustBegun (scale places) start) (r : Result T E) where
  -- What wrote the lines of all rows and of the result wrote the sheet: these rows are those of the count.
  owes_sheet :
      (rows : List Row) (last : List State)
      → Rows rule (scale places) start.ballots start.lots start.situation rows last
      → Writes w f a b (sheet_lines places start.roll (length start.ballots) rows last) r
      → OwesSheet w f a b rule places start r
  owes_sheet rows last whole = by r
    where
      counted : IsCountUnder rule places start.situation.omega start.ballots start.roll start.lots rows last
      counted =
          subst (λ (now : Situation). Rows rule (scale places) start.ballots start.lots now rows last) begun whole

      by :
          (r : Result T E) → Writes w f a b (sheet_lines places start.roll (length start.ballots) rows last) r
          → OwesSheet w f a b rule places start r
      by (Ok x) did = record { all = (_, (rows, last, counted, refl), did.whole); front = tt; faults = did.calm }
      by (Err e) did = record { all = tt; front = (_, (rows, last, counted, refl), did.part); faults = did.rose }

  -- The writing stopped within the lines of rows that lead on to the end.
  stopped_in_sheet :
      (now : Progress) (done : List Row) → RowsLead rule (scale places) start done now
      → HasRest rule (scale places) now → IsErr r
      → Stopped w f a b (lines_up_to places start.roll (length start.ballots) done)
      → OnErr r (AppendsFrontOfSheet rule places start (w a) (w b))
  stopped_in_sheet now done leads rest failed stopped =
      let writes : Writes w f a b (sheet_lines places start.roll (length start.ballots) (done ++ rest.0) rest.1) r =
      rw sheet_lines-append (stops _ r failed stopped) in
      (owes_sheet (done ++ rest.0) rest.1 (leads.onward rest.0 rest.1 rest.2) writes).front

-- UNDER WAY

-- The count has come from where it was begun to here, and the lines so far were written.
pub record IsUnderWay {S : Type 0} (w : S → Option (List ℕ)) (f : S → ℕ) (a b : S) (rule : Rule) (places : ℕ)
    (start now : Progress) : Type 0 where
  pub done : List Row
  pub leads : RowsLead rule (scale places) start done now
  pub wrote : Wrote w f a b (lines_up_to places start.roll (length start.ballots) done)

-- a stop at which a fact holds
on_err : {T E P : Type 0} (r : Result T E) → P → OnErr r P
on_err (Ok x) p = tt
on_err (Err e) p = p

-- at the head nothing of the count was made yet
module _ {S : Type 0} {w : S → Option (List ℕ)} {f : S → ℕ} {a b : S} (rule : Rule) (places : ℕ)
    (start : Progress) where
  -- the head was written
  pub under_way :
      Wrote w f a b (head_lines start.roll (length start.ballots)) → IsUnderWay w f a b rule places start start
  under_way wrote = record { done = []; leads = leads_none rule (scale places) start; wrote = rw append-nil wrote }

  module _ {T E : Type 0} (r : Result T E) (stopped : Stopped w f a b (head_lines start.roll (length start.ballots))) where
    -- the writing stopped there
    pub stopped_in_head :
        HasJustBegun (scale places) start → HasRest rule (scale places) start → IsErr r
        → OnErr r (AppendsFrontOfSheet rule places start (w a) (w b))
    stopped_in_head begun rest failed =
        let none : Stopped w f a b (lines_up_to places start.roll (length start.ballots) []) = rw append-nil stopped in
        stopped_in_sheet rule places start begun r start [] (leads_none rule (scale places) start) rest failed none

    -- and so the count is where it was begun
    pub stands_in_head : OnErr r (StandsWhereItStopped rule places start start (w a) (w b))
    stands_in_head = on_err r (inl (refl, stopped.part))

module _ {S : Type 0} {w : S → Option (List ℕ)} {f : S → ℕ} {a b : S} (rule : Rule) (places : ℕ)
    (start now : Progress) (so_far : IsUnderWay w f a b rule places start now) where
  -- one iteration more was made, and its row is being written
  module _ (next : Progress) (row : Row) (leads : RowsLead rule (scale places) now (next.row ∷ []) next)
      (is : row ≡ next.row) where
    led : RowsLead rule (scale places) start (so_far.done ++ next.row ∷ []) next
    led = leads_more rule (scale places) start now next so_far.done (next.row ∷ []) so_far.leads leads

    -- the row was written
    pub one_more : {c : S} → Wrote w f b c (row_lines places row) → IsUnderWay w f a c rule places start next
    one_more {c} wrote =
        let own = subst (λ (r : Row). Wrote w f b c (row_lines places r)) is wrote in
        record { done = so_far.done ++ next.row ∷ []; leads = led; wrote = rw lines_up_to-one (wrote_later so_far.wrote own) }

    module _ {T E : Type 0} {c : S} (r : Result T E) (stopped : Stopped w f b c (row_lines places row)) where
      own_row : Stopped w f b c (row_lines places next.row)
      own_row = subst (λ (r : Row). Stopped w f b c (row_lines places r)) is stopped

      -- the writing stopped there
      pub stopped_in_row :
          HasJustBegun (scale places) start → HasRest rule (scale places) next → IsErr r
          → OnErr r (AppendsFrontOfSheet rule places start (w a) (w c))
      stopped_in_row begun rest failed =
          let lines = lines_up_to places start.roll (length start.ballots) (so_far.done ++ next.row ∷ []) in
          let up_to : Stopped w f a c lines = rw lines_up_to-one (stopped_later so_far.wrote own_row) in
          stopped_in_sheet rule places start begun r next (so_far.done ++ next.row ∷ []) led rest failed up_to

      -- and so the count is after the iteration of that row
      pub stands_in_row : OnErr r (StandsWhereItStopped rule places start next (w a) (w c))
      stands_in_row =
          on_err r (inr (inl (record {
            done = so_far.done;
            leads = led;
            written = (w b, so_far.wrote.whole, own_row.part);
          })))

  -- The count was complete, and its result was written or the writing stopped there.
  pub at_end :
      {T E : Type 0} {c : S} (r : Result T E) (names : List (List ℕ)) (last : List State)
      → HasJustBegun (scale places) start
      → is_complete now.situation ≡ true → last ≡ final_states now.situation → names ≡ start.roll.names
      → Writes w f b c (result_lines names last) r → OwesSheet w f a c rule places start r
  at_end {c = c} r names last begun complete is same writes =
      let whole : Rows rule (scale places) start.ballots start.lots start.situation so_far.done last =
      subst (λ (rows : List Row). Rows rule (scale places) start.ballots start.lots start.situation rows last)
      (append-nil so_far.done) (so_far.leads.onward [] last (complete, is)) in
      let result = subst (λ (n : List (List ℕ)). Writes w f b c (result_lines n last) r) same writes in
      owes_sheet rule places start begun r so_far.done last whole (later c _ r so_far.wrote result)

-- a stop after the last iteration
pub stands_ended :
    {T E : Type 0} (rule : Rule) (places : ℕ) (start now : Progress) (old new : Option (List ℕ))
    (r : Result T E) → HasEnded now → OnErr r (StandsWhereItStopped rule places start now old new)
stands_ended rule places start now old new r ended = on_err r (inr (inr ended))

-- a turn is an iteration or the end
pub not_iterated : (turn : Turn) → (turn ≡ Iterated → ⊥) → turn ≡ Finished
not_iterated Iterated other = absurd (other refl)
not_iterated Finished other = refl
