-- Records in another order have the same ballot file.
use Rattle.std.proofs.Common.{◌≡◌, ◌∙◌, sym, ap, refl, subst, ℕ, ◌+◌, suc, Option, Some, None, List, [], ◌∷◌, map, take, length}
use Rattle.std.specs.Prelude.{IsPermutation, Ok}
use Rattle.std.specs.List.{enumerate_from, filter_map, slice_get, zip}
use Rattle.std.specs.Option.{option_map, option_or}
use Rattle.std.proofs.lemmas.List.{length-map}
use Rattle.std.proofs.lemmas.List.FromFn.{length-enumerate_from}
use Rattle.plain_ballots.specs.Ballots.{BallotList, plain}
use Rattle.table_text.specs.Reading as text
use Rattle.ballot_table.specs.declared.table_asked.TableAsked.{TableAsked}
use Rattle.ballot_table.specs.declared.table_stop.TableStop.{TableStop}
use Rattle.ballot_table.specs.Asked.{asked_of}
use Rattle.ballot_table.specs.Head.{columns, names_of}
use Rattle.ballot_table.specs.Imported.{Headed, headed, IsImported, faults_in, reading_stop, record_stop, refusal, separator}
use Rattle.ballot_table.specs.Imported.{stop_at, stop_by, stop_under, text_stop, texts_in}
use Rattle.ballot_table.specs.declared.imported.Imported.{Imported}
use Rattle.ballot_table.specs.Laws.{FaultOrTable, IsCounted, RecordsHaveNoOrder}
use Rattle.ballot_table.specs.Refusals.{fault_of_table, whole_fault}
use Rattle.ballot_table.specs.Rows.{room_behind, with_room}
use Rattle.ballot_table.specs.Table.{ballots, rows_of}
use Rattle.blt_writer.specs.Laws.{OneBagHasOneText}
use Rattle.blt_writer.specs.Text.{IsBltText}
use Rattle.import_words.specs.declared.asked.Asked.{Asked}
use Rattle.import_words.specs.declared.output.Output.{Output}
use Rattle.import_words.specs.declared.output.Output.TheVariants.{Blt}
use Rattle.import_words.specs.declared.roll_words.RollWords.{RollWords}
use Rattle.blt_import.specs.declared.read.Read.{Read}
use Rattle.blt_import.specs.Forms.{Form, Table, TableForm, form_of}
use Rattle.blt_import.specs.Laws.{HasRecords, RecordsHaveOneText}
use Rattle.blt_import.specs.Owed.{HasNoFault, IsTextOf, OwesText, Says, roll_of}
use Rattle.blt_import.proofs.OneText.{one_byte, one_some}

-- Where none of some faults, each with its record, is found, none is found with its number.
none_found : {F S T : Type 0} (stop : text.Row → F → S) (place : ℕ → F → T) (rows : List text.Row)
    (faults : List (Option F)) (n : ℕ) → length faults ≡ length rows
    → slice_get (filter_map (λ p. option_map (stop p.0) p.1) (zip rows faults)) 0 ≡ None
    → slice_get (filter_map (λ at. option_map (λ fault. place at.0 fault) at.1) (enumerate_from n faults)) 0 ≡ None
none_found stop place rows [] n same none = refl
none_found stop place [] (fault ∷ faults) n same none = cc
none_found stop place (row ∷ rows) (None ∷ faults) n same none =
    none_found stop place rows faults (n + 1) (let it = same in cc) none
none_found stop place (row ∷ rows) (Some fault ∷ faults) n same none = cc

module _ (asked : TableAsked) where
  -- as many faults are judged as there are rows, and one for the head
  as_many : (head : Headed) → length (faults_in asked head) ≡ length (head.told ∷ head.below)
  as_many head =
      let all = asked_of asked in
      let cols = columns all head.names in
      let rows = map texts_in head.below in
      ap suc
      (length-map (with_room cols rows)
      (λ (r : ℕ × List (List ℕ)). whole_fault all asked.treatment asked.empty r.0 cols r.1)
      ∙ length-map (enumerate_from 0 rows) (λ (at : ℕ × List (List ℕ)). (room_behind cols (take at.0 rows), at.1))
      ∙ length-enumerate_from 0 rows
      ∙ length-map head.below texts_in)

  first_none : (one other : Option TableStop) → option_or one other ≡ None → one ≡ None
  first_none None other none = refl
  first_none (Some stop) other none = cc

  -- a text that is not refused has a table without a fault
  no_fault : (input : List ℕ) (byte : ℕ) (head : Headed) → refusal asked input ≡ None
      → separator asked.separator input ≡ Ok byte → headed asked.heads (text.read_text byte input).rows ≡ Some head
      → fault_of_table (asked_of asked) asked.treatment asked.empty head.names (map texts_in head.below) ≡ None
  no_fault input byte head sound separated records =
      let reading = text.read_text byte input in
      let read : reading_stop asked reading ≡ None = ap (stop_by asked input) (sym separated) ∙ sound in
      let judged : record_stop asked head ≡ None =
      first_none (record_stop asked head) (text_stop reading.ending) (ap (stop_under asked reading) (sym records) ∙ read) in
      none_found stop_at (λ row fault. record { row = row; fault = fault }) (head.told ∷ head.below) (faults_in asked head)
      1
      (as_many head) judged

  -- the ballots of an input's table, by its texts
  record IsCountedAs (head : List (List ℕ)) (below : List (List (List ℕ))) (imported : Imported) : Type 0 where
    names : imported.names ≡ names_of (asked_of asked) head
    sound : fault_of_table (asked_of asked) asked.treatment asked.empty head below ≡ None
    ballots_are :
        ballots asked.treatment (rows_of (asked_of asked) asked.empty (columns (asked_of asked) head) below)
        ≡ Some (plain imported.ballots.lines)

  counted_as : (input : List ℕ) (head : List (List ℕ)) (below : List (List (List ℕ))) (imported : Imported)
      → refusal asked input ≡ None → HasRecords asked input head below → IsImported asked input imported
      → IsCountedAs head below imported
  counted_as input head below imported sound records is =
      let byte = one_byte is.byte records.byte _ is.separated records.separated in
      let same : is.head ≡ records.parts = one_some is.head records.parts
      (sym is.records ∙ ap (λ n. headed asked.heads (text.read_text n input).rows) byte ∙ records.records) in
      let head_is : is.head.names ≡ head = ap (λ (h : Headed). h.names) same ∙ records.head_is in
      let below_is : map texts_in is.head.below ≡ below =
      ap (λ (h : Headed). map texts_in h.below) same ∙ records.below_is in
      let found = no_fault input is.byte is.head sound is.separated is.records in
      subst (λ hs. IsCountedAs hs below imported) head_is
      (subst (λ bs. IsCountedAs is.head.names bs imported) below_is
      record { names = is.names; sound = found; ballots_are = is.ballots_are })

  -- the ballots of records in another order are the same, in another order
  moved_ballots : FaultOrTable → RecordsHaveNoOrder → (head : List (List ℕ)) (below moved : List (List (List ℕ)))
      → IsPermutation below moved → (one other : Imported) → IsCountedAs head below one → IsCountedAs head moved other
      → IsPermutation (plain one.ballots.lines) (plain other.ballots.lines)
  moved_ballots judged unordered head below moved order one other a b =
      let all = asked_of asked in
      let counted : IsCounted all asked.treatment asked.empty head below =
      (judged all asked.treatment asked.empty head below).0 a.sound in
      let found = unordered all asked.treatment asked.empty head below moved order counted in
      let here : counted.rankings ≡ plain one.ballots.lines =
      one_some counted.rankings (plain one.ballots.lines)
      (sym counted.ranked ∙ ap (ballots asked.treatment) counted.is_table.rows ∙ a.ballots_are) in
      let there : found.0.rankings ≡ plain other.ballots.lines =
      one_some found.0.rankings (plain other.ballots.lines)
      (sym found.0.ranked ∙ ap (ballots asked.treatment) found.0.is_table.rows ∙ b.ballots_are) in
      subst (λ bs. IsPermutation (plain one.ballots.lines) bs) there
      (subst (λ bs. IsPermutation bs found.0.rankings) here found.1)

-- what is owed as a ballot file of a table
record OwesFile (form : TableForm) (words : RollWords) (input bytes : List ℕ) : Type 0 where
  sound : refusal form.table input ≡ None
  table : Imported
  is : IsImported form.table input table
  text : IsBltText (plain table.ballots.lines) (roll_of words table.names form.title) bytes

owes_file : (form : TableForm) (words : RollWords) (input bytes : List ℕ) (read : Read)
    → HasNoFault (Table form) input → Says (Table form) input read → IsTextOf Blt words read bytes
    → OwesFile form words input bytes
owes_file form words input bytes read none (table, is, names, title, ballots, tally) text = record {
  sound = none;
  table = table;
  is = is;
  text =
      subst (λ (ns : List (List ℕ)). IsBltText (plain table.ballots.lines) (roll_of words ns form.title) bytes) names
      (subst (λ (t : List ℕ). IsBltText (plain table.ballots.lines) (roll_of words read.names t) bytes) title
      (subst (λ (bs : BallotList). IsBltText (plain bs.lines) (roll_of words read.names read.title) bytes) ballots text));
}

file_owed : (asked : Asked) (form : TableForm) (input bytes : List ℕ) → form_of asked ≡ Table form
    → asked.output ≡ Blt → OwesText asked input bytes → OwesFile form asked.roll input bytes
file_owed asked form input bytes is_table is_file owed =
    owes_file form asked.roll input bytes owed.read
    (subst (λ (f : Form). HasNoFault f input) is_table owed.sound)
    (subst (λ (f : Form). Says f input owed.read) is_table owed.says)
    (subst (λ (o : Output). IsTextOf o asked.roll owed.read bytes) is_file owed.text)

pub records_have_one_text : FaultOrTable → RecordsHaveNoOrder → OneBagHasOneText → RecordsHaveOneText
records_have_one_text judged unordered once asked form one other head below moved text again is_table is_file records
    others order owed also =
    let a = file_owed asked form one text is_table is_file owed in
    let b = file_owed asked form other again is_table is_file also in
    let here = counted_as form.table one head below a.table a.sound records a.is in
    let there = counted_as form.table other head moved b.table b.sound others b.is in
    let names : a.table.names ≡ b.table.names = here.names ∙ sym there.names in
    once (roll_of asked.roll b.table.names form.title) (plain a.table.ballots.lines) (plain b.table.ballots.lines) text
    again (moved_ballots form.table judged unordered head below moved order a.table b.table here there)
    (subst (λ (ns : List (List ℕ)). IsBltText (plain a.table.ballots.lines) (roll_of asked.roll ns form.title) text) names
    a.text)
    b.text
