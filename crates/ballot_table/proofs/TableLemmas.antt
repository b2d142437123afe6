-- A whole table, from its head and what is left after it.
use Rattle.std.proofs.Common.{◌≡◌, ℕ, ◌+◌, ◌-◌, List, [], ◌∷◌, ◌++◌, map, take, length, Option, Some, None, Result, Ok, Err}
use Rattle.std.specs.Prelude.{IfErr, IfOk, OnOk}
use Rattle.std.proofs.Common.{refl, ap, sym, subst, ◌∙◌, arith, append_assoc}
use Rattle.std.specs.List.{filter_map, enumerate_from, cons_option, slice_get}
use Rattle.std.specs.Option.{option_or, option_map}
use Rattle.std.proofs.Math.Seq.{take-append_seam}
use Rattle.std.proofs.lemmas.List.{length-append}
use Rattle.std.proofs.lemmas.List.Sums.{sum_by_push}
use Rattle.plain_ballots.specs.declared.limits.TheConstants.{MOST_BALLOTS}
use Rattle.table_text.specs.Reading as text
use Rattle.ballot_table.specs.declared.column.Column.{Column}
use Rattle.ballot_table.specs.declared.fault.Fault.{Fault}
use Rattle.ballot_table.specs.declared.head.Head.{Head}
use Rattle.ballot_table.specs.declared.imported.Imported.{Imported}
use Rattle.ballot_table.specs.declared.table_asked.TableAsked.{TableAsked}
use Rattle.ballot_table.specs.declared.table_stop.TableStop.{TableStop}
use Rattle.ballot_table.specs.declared.table_stop.TableStop.TheVariants as stop
use Rattle.ballot_table.specs.Head.{head_fault, columns, names_of}
use Rattle.ballot_table.specs.Imported.{Headed, headed, texts_in, stops, stop_at, stop_under, text_stop, separator, stop_by, reading_stop}
use Rattle.ballot_table.specs.Imported.{record_stop, refusal, IsTableStop, IsImported}
use Rattle.ballot_table.specs.Left.{Reads, ReadsRows, rooms, stop_left, ballots_left, tally_left}
use Rattle.ballot_table.specs.Report.{tally_of}
use Rattle.ballot_table.specs.Asked.{asked_of}
use Rattle.ballot_table.specs.Finding.{IsHead}
use Rattle.ballot_table.specs.Refusals.{whole_fault}
use Rattle.ballot_table.specs.Rows.{weight_at, row_of, with_room, room_behind}
use Rattle.ballot_table.specs.Sheets.{Opened, Turns}
use Rattle.ballot_table.specs.Table.{ballots, rows_of}
use Rattle.ballot_table.proofs.LeftLemmas.{same_stop}

abbrev Texts : Type 0
Texts = List (List ℕ)

module _ (cols : List Column) where
  abbrev roomy : List Texts → ℕ × Texts → ℕ × Texts
  roomy all at = (room_behind cols (take at.0 all), at.1)

  less_room : (done : List Texts) (row : Texts)
      → room_behind cols (done ++ row ∷ []) ≡ room_behind cols done - weight_at cols row
  less_room done row = let sum = sum_by_push (weight_at cols) done row in omega (arith, sum)

  rooms_behind : (done rest : List Texts)
      → map (λ (at : ℕ × Texts). (room_behind cols (take at.0 (done ++ rest)), at.1)) (enumerate_from (length done) rest)
      ≡ rooms cols (room_behind cols done) rest
  rooms_behind done [] = refl
  rooms_behind done (row ∷ rest) =
      let next : map (roomy (done ++ row ∷ rest)) (enumerate_from (length done + 1) rest)
      ≡ rooms cols (room_behind cols done - weight_at cols row) rest =
      ap (λ (all : List Texts). map (roomy all) (enumerate_from (length done + 1) rest))
      (sym (append_assoc done (row ∷ []) rest))
      ∙ ap (λ (n : ℕ). map (roomy ((done ++ row ∷ []) ++ rest)) (enumerate_from n rest))
      (sym (length-append done (row ∷ [])))
      ∙ rooms_behind (done ++ row ∷ []) rest
      ∙ ap (λ (n : ℕ). rooms cols n rest) (less_room done row) in
      ap (λ (d : List Texts). (room_behind cols d, row)
      ∷ map (roomy (done ++ row ∷ rest)) (enumerate_from (length done + 1) rest))
      (take-append_seam done (row ∷ rest))
      ∙ ap (λ l. (room_behind cols done, row) ∷ l) next

  pub with_room_is : (rows : List Texts) → with_room cols rows ≡ rooms cols MOST_BALLOTS rows
  with_room_is rows = rooms_behind [] rows

-- a text that is read with this separator comes to what its records come to
by_reading : (a : TableAsked) (bytes : List ℕ) (byte : ℕ) → separator a.separator bytes ≡ Ok byte
    → (reading : text.Reading) → reading ≡ text.read_text byte bytes → refusal a bytes ≡ reading_stop a reading
by_reading a bytes byte separated reading is = ap (stop_by a bytes) separated ∙ ap (reading_stop a) (sym is)

-- What the records of a text come to is what the text comes to.
module _ (a : TableAsked) (bytes : List ℕ) (byte : ℕ) (separated : separator a.separator bytes ≡ Ok byte)
    (reading : text.Reading) (is : reading ≡ text.read_text byte bytes)
  where
    pub stop_read : (r : Result Imported TableStop) → Reads a reading r → IfErr r (IsTableStop (refusal a bytes))
    stop_read (Ok imported) read = tt
    stop_read (Err found) read =
        subst (λ (o : Option TableStop). IsTableStop o found) (sym (by_reading a bytes byte separated reading is)) read

    pub sound_read : (r : Result Imported TableStop) → Reads a reading r → OnOk r (refusal a bytes ≡ None)
    sound_read (Ok imported) read = by_reading a bytes byte separated reading is ∙ read.sound
    sound_read (Err found) read = tt

    pub imported_read : (r : Result Imported TableStop) → Reads a reading r → IfOk r (IsImported a bytes)
    imported_read (Ok imported) read = record {
      byte = byte;
      separated = separated;
      head = read.head;
      records = ap (λ (r : text.Reading). headed a.heads r.rows) (sym is) ∙ read.records;
      names = read.names;
      candidates = read.candidates;
      ballots_are = read.ballots_are;
      tally_is = read.tally_is;
    }
    imported_read (Err found) read = tt

-- where no record is to come there is no head
pub stops_there : (a : TableAsked) (old new : Opened) (stop : TableStop) → Turns old (Err stop) new
    → IsTableStop (reading_stop a old.records.rest) stop
stops_there a old new (stop.Text fault) is = ap (reading_stop a) is
stops_there a old new stop.NoMemory is = tt
stops_there a old new (stop.Word _ _) is = elim is [ ]
stops_there a old new (stop.Record _ _ _ _) is = elim is [ ]

-- What a head comes to, and the rows below it.
module _ (a : TableAsked) (head : Headed) (ending : text.Ending) where
  abbrev below : List (List (List ℕ))
  below = map texts_in head.below

  abbrev cols : List Column
  cols = columns (asked_of a) head.names

  abbrev left : text.Reading
  left = record { rows = head.below; ending = ending }

  abbrev faults : List (ℕ × List (List ℕ)) → List (Option Fault)
  faults rs = map (λ (r : ℕ × List (List ℕ)). whole_fault (asked_of a) a.treatment a.empty r.0 cols r.1) rs

  abbrev by_stop : Option TableStop → Option TableStop
  by_stop o = option_or (slice_get (cons_option o (stops head.below (faults (with_room cols below)))) 0) (text_stop ending)

  abbrev by_head : Option Fault → Option TableStop
  by_head o = by_stop (option_map (stop_at head.told) o)

  pub stopped_head : (found : TableStop) → option_map (stop_at head.told) (head_fault (asked_of a) head.names) ≡ Some found
      → option_or (record_stop a head) (text_stop ending) ≡ Some found
  stopped_head found some = ap by_stop some

  pub stopped_below : (found : List Column) → head_fault (asked_of a) head.names ≡ None
      → found ≡ columns (asked_of a) head.names
      → option_or (record_stop a head) (text_stop ending) ≡ stop_left a found MOST_BALLOTS left
  stopped_below found none found_are =
      ap by_head none
      ∙ ap (λ (rs : List (ℕ × List (List ℕ))). option_or (slice_get (stops head.below (faults rs)) 0) (text_stop ending))
      (with_room_is cols below)
      ∙ ap (λ (cs : List Column). stop_left a cs MOST_BALLOTS left) (sym found_are)

  pub same_ballots : (found : List Column) → found ≡ columns (asked_of a) head.names
      → ballots a.treatment (rows_of (asked_of a) a.empty cols below) ≡ ballots_left a found MOST_BALLOTS head.below
  same_ballots found found_are =
      ap (λ (rs : List (ℕ × List (List ℕ))). ballots a.treatment
      (filter_map (λ (r : ℕ × List (List ℕ)). row_of (asked_of a) a.empty r.0 cols r.1) rs)) (with_room_is cols below)
      ∙ ap (λ (cs : List Column). ballots_left a cs MOST_BALLOTS head.below) (sym found_are)

  pub same_tally : (found : List Column) → found ≡ columns (asked_of a) head.names
      → tally_left a found MOST_BALLOTS head.below
      ≡ tally_of a.treatment a.empty below (rows_of (asked_of a) a.empty cols below)
  same_tally found found_are =
      ap (λ (cs : List Column). tally_left a cs MOST_BALLOTS head.below) found_are
      ∙ sym (ap (λ (rs : List (ℕ × List (List ℕ))). tally_of a.treatment a.empty below
      (filter_map (λ (r : ℕ × List (List ℕ)). row_of (asked_of a) a.empty r.0 cols r.1) rs)) (with_room_is cols below))

-- Records come to what their head and the rows below it come to.
module _ (a : TableAsked) (reading : text.Reading) (head : Headed) (is : headed a.heads reading.rows ≡ Some head) where
  pub head_refused : (found : TableStop)
      → IsTableStop (option_map (stop_at head.told) (head_fault (asked_of a) head.names)) found
      → IsTableStop (reading_stop a reading) found
  head_refused found =
      same_stop (option_map (stop_at head.told) (head_fault (asked_of a) head.names)) (reading_stop a reading) found
      (λ some. ap (stop_under a reading) is ∙ stopped_head a head reading.ending found some)

  module _ (rest : text.Reading) (rest_is : rest ≡ record { rows = head.below; ending = reading.ending })
      (found : List Column) (none : head_fault (asked_of a) head.names ≡ None)
      (found_are : found ≡ columns (asked_of a) head.names) (names : List (List ℕ))
      (names_are : names ≡ names_of (asked_of a) head.names)
    where
      whole : reading_stop a reading ≡ stop_left a found MOST_BALLOTS rest
      whole =
          ap (stop_under a reading) is ∙ stopped_below a head reading.ending found none found_are
          ∙ ap (stop_left a found MOST_BALLOTS) (sym rest_is)

      pub rows_below : (r : Result Imported TableStop) → ReadsRows a found names rest r → Reads a reading r
      rows_below (Ok imported) read = record {
        sound = whole ∙ read.sound;
        head = head;
        records = is;
        names = read.names_are ∙ names_are;
        candidates = read.candidates;
        ballots_are =
            same_ballots a head reading.ending found found_are
            ∙ ap (λ (r : text.Reading). ballots_left a found MOST_BALLOTS r.rows) (sym rest_is) ∙ read.ballots_are;
        tally_is =
            read.tally_is ∙ ap (λ (r : text.Reading). tally_left a found MOST_BALLOTS r.rows) rest_is
            ∙ same_tally a head reading.ending found found_are;
      }
      rows_below (Err stop) read =
          same_stop (stop_left a found MOST_BALLOTS rest) (reading_stop a reading) stop (λ some. whole ∙ some) read

-- The same of a head whose texts were found.
module _ (a : TableAsked) (reading : text.Reading) (head : Headed) (is : headed a.heads reading.rows ≡ Some head)
    (texts : List (List ℕ)) (same : texts ≡ head.names)
  where
    pub found_refused : (found : TableStop)
        → IsTableStop (option_map (stop_at head.told) (head_fault (asked_of a) texts)) found
        → IsTableStop (reading_stop a reading) found
    found_refused found stops =
        head_refused a reading head is found
        (subst (λ (ts : List (List ℕ)). IsTableStop (option_map (stop_at head.told) (head_fault (asked_of a) ts)) found) same
        stops)

    pub found_read : (rest : text.Reading) → rest ≡ record { rows = head.below; ending = reading.ending }
        → (found : Head) → head_fault (asked_of a) texts ≡ None → IsHead (asked_of a) texts found
        → (names : List (List ℕ)) → names ≡ names_of (asked_of a) texts
        → (r : Result Imported TableStop) → ReadsRows a found.columns.items names rest r → Reads a reading r
    found_read rest rest_is found none found_is names names_are r =
        rows_below a reading head is rest rest_is found.columns.items (sym (ap (head_fault (asked_of a)) same) ∙ none)
        (found_is.columns_are ∙ ap (columns (asked_of a)) same) names (names_are ∙ ap (names_of (asked_of a)) same) r
