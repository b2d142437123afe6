-- What is accepted where all is refused, under other treatments.
use Rattle.std.proofs.Common.{◌≡◌, ℕ, Bool, true, false, cond, List, [], ◌∷◌, length, map, replicate}
use Rattle.std.proofs.Common.{Option, Some, None, All, refl, ap, sym, ◌∙◌}
use Rattle.std.specs.List.{filter_map, cons_option}
use Rattle.std.specs.Option.{option_map, option_or}
use Rattle.std.proofs.lemmas.List.Elements.{All-nil, All-cons, All-head, All-tail}
use Rattle.ballot_marks.specs.Ballot.{ranked}
use Rattle.ballot_marks.specs.Laws.{strict, TreatmentsOnlyMend as MarksAreOnlyMended}
use Rattle.ballot_marks.specs.declared.treatment.Treatment.{Treatment}
use Rattle.ballot_table.specs.declared.column.Column.{Column}
use Rattle.ballot_table.specs.declared.empty.Empty.{Empty}
use Rattle.ballot_table.specs.declared.empty.Empty.TheVariants.{Refuse, Keep, Drop}
use Rattle.ballot_table.specs.Asked.{Asked}
use Rattle.ballot_table.specs.declared.fault.Fault.{Fault}
use Rattle.ballot_table.specs.Faults.{first_fault}
use Rattle.ballot_table.specs.Head.{columns}
use Rattle.ballot_table.specs.Rows.{Row, all_blank, is_dropped, cells_of, length_fault, empty_fault}
use Rattle.ballot_table.specs.Rows.{row_fault}
use Rattle.ballot_table.specs.Rows.{ballots_in, said_in, marks_of, row_of, with_room}
use Rattle.ballot_table.specs.Table.{Table, IsTable, plain_of, ballots}
use Rattle.ballot_table.proofs.BallotsLemmas.{joined, parted, mapped}
use Rattle.ballot_table.proofs.FaultLemmas.{IsNothing, or_none}

-- where rows of blank fields are refused, a row that isn't has none
not_blank :
    (blank : Bool) (cells : Option Fault) → cond blank (empty_fault Refuse cells) cells ≡ None
    → (blank ≡ false) × (cells ≡ None)
not_blank true cells is = absurd (cc is)
not_blank false cells is = (refl, is)

not_dropped : (empty : Empty) (texts : List (List ℕ)) → all_blank texts ≡ false
    → is_dropped empty texts ≡ false
not_dropped Refuse texts is = refl
not_dropped Keep texts is = refl
not_dropped Drop texts is = is

module _ (asked : Asked) (empty : Empty) (cols : List Column) where
  abbrev form : Empty → ℕ × List (List ℕ) → Option Fault
  form e r = row_fault asked e r.0 cols r.1

  abbrev row : Empty → ℕ × List (List ℕ) → Option Row
  row e r = row_of asked e r.0 cols r.1

  mended_row : (r : ℕ × List (List ℕ)) → form Refuse r ≡ None
      → (form empty r ≡ None) × (row Refuse r ≡ row empty r)
  mended_row r is =
      let cells = first_fault (cells_of asked r.0 cols r.1) in
      let rest = λ (e : Empty). cond (all_blank r.1) (empty_fault e cells) cells in
      let both = or_none (length_fault (length r.1) (length cols)) (rest Refuse) is in
      let parts = not_blank (all_blank r.1) cells both.1 in
      let stood : Row = record {
        count = ballots_in cols r.1;
        marks = marks_of (said_in asked r.0 cols r.1);
      } in (
        ap (λ o. option_or o (rest empty)) both.0
            ∙ (ap (λ b. cond b (empty_fault empty cells) cells) parts.0 ∙ parts.1),
        sym (ap (λ b. cond b None (Some stood)) (not_dropped empty r.1 parts.0)),
      )

  mended_rows : (rs : List (ℕ × List (List ℕ))) → All IsNothing (map (form Refuse) rs)
      → All IsNothing (map (form empty) rs)
      × (filter_map (row Refuse) rs ≡ filter_map (row empty) rs)
  mended_rows [] all = (All-nil IsNothing, refl)
  mended_rows (r ∷ rs) all =
      let one = mended_row r (All-head IsNothing (form Refuse r) (map (form Refuse) rs) all) in
      let rest = mended_rows rs (All-tail IsNothing (form Refuse r) (map (form Refuse) rs) all) in (
        All-cons IsNothing (form empty r) (map (form empty) rs) one.0 rest.0,
        ap (λ o. cons_option o (filter_map (row Refuse) rs)) one.1 ∙ ap (cons_option (row empty r)) rest.1,
      )

pub mended_table :
    (asked : Asked) (empty : Empty) (head : List (List ℕ)) (below : List (List (List ℕ))) (t : Table)
    → IsTable asked Refuse head below t → IsTable asked empty head below t
mended_table asked empty head below t is =
    let cols = columns asked head in
    let rows = mended_rows asked empty cols (with_room cols below) is.rows_sound in
    record { head_sound = is.head_sound; rows_sound = rows.0; names = is.names; rows = is.rows ∙ rows.1 }

module _ (mends : MarksAreOnlyMended) (treatment : Treatment) where
  mended_ballots_of : (row : Row) (all : List (List ℕ)) → plain_of strict row ≡ Some all
      → plain_of treatment row ≡ Some all
  mended_ballots_of row all is =
      let from = mapped (replicate row.count) (ranked strict row.marks) all is in
      ap (option_map (replicate row.count)) (mends treatment row.marks from.0 from.1).ranked_are
      ∙ ap Some from.2

  pub mended_ballots : (rows : List Row) (all : List (List ℕ)) → ballots strict rows ≡ Some all
      → ballots treatment rows ≡ Some all
  mended_ballots [] all is = is
  mended_ballots (row ∷ rows) all is =
      let parts = parted (plain_of strict row) (ballots strict rows) all is in
      ap (λ o. joined o (ballots treatment rows)) (mended_ballots_of row parts.front parts.first_is)
      ∙ (ap (joined (Some parts.front)) (mended_ballots rows parts.back parts.rest_is) ∙ ap Some parts.all_is)
