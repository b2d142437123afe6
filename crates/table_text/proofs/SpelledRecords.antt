-- Records that are spelled are read.
use Rattle.std.proofs.Common.{◌≡◌, ◌≢◌, ℕ, ◌+◌, ◌<◌, ◌≤◌, List, [], ◌∷◌, ◌++◌, length, true, false, ◌==◌, inl}
use Rattle.std.proofs.Common.{inr, refl, sym, ◌∙◌, ap, subst, arith, add-zero}
use Rattle.std.proofs.lemmas.Bool.{ne_eqb, eq-eqb}
use Rattle.table_text.specs.declared.mark.Mark.{Mark}
use Rattle.table_text.specs.Spelling.{EndsRecord, Begins, Spelled}
use Rattle.table_text.specs.Reading.{Field, Row, Reading, AtEnd, ends, with_row, texts_of, Plain, Stand}
use Rattle.table_text.specs.Reading.{first_field, fields_with_last, next_count, is_empty, with_record}
use Rattle.table_text.specs.Reading.{by_mark, moved, read}
use Rattle.table_text.specs.Reader.{in_field, closes}
use Rattle.table_text.specs.Laws.{IsSeparator}
use Rattle.table_text.proofs.Marks.{mark_feed, mark_return}
use Rattle.table_text.proofs.Steps.{Parted}
use Rattle.table_text.proofs.Forward.{Gone, fields_over}

-- a later row is not the first
pub later : (row : ℕ) → 1 ≤ row → 1 < next_count row
later row some = omega arith

-- the record that ends after these fields
abbrev pub row_of : Stand → Row
row_of stand = record {
  row = stand.row;
  at = stand.start;
  end = stand.from + length stand.bytes;
  fields = fields_with_last stand;
}

pub with_row_of :
    (stand : Stand) (behind : Reading) → is_empty stand ≡ false
    → with_record stand behind ≡ with_row (row_of stand) behind
with_row_of stand behind some = rw some refl

-- a text is read as these records, up to its end
pub record IsReadFrom (s row at : ℕ) (records : List (List (List ℕ))) (text : List ℕ) : Type 0 where
  pub texts : texts_of (read s (first_field row at) at text).rows ≡ records
  pub ending : (read s (first_field row at) at text).ending ≡ AtEnd

pub nothing_left : (s row at : ℕ) → 1 < row → read s (first_field row at) at [] ≡ ends AtEnd
unfolding read
nothing_left s row at later_row =
    let place : (at + 0 == at) ≡ true = eq-eqb (at + 0) at (add-zero at) in
    let not_first : (row == 1) ≡ false = ne_eqb row 1 (λ e. absurd (omega (arith, e))) in
    rw (place, not_first) refl

module _ (s : ℕ) (fit : IsSeparator s) where
  module _ (row start : ℕ) (before : List Field) (from : ℕ) (last : List ℕ) where
    abbrev behind_last : Stand
    behind_last = in_field row start before from last Plain

    pub over_feed :
        (at : ℕ) (rest : List ℕ)
        → read s (in_field row start before from last Plain) at (10 ∷ rest)
        ≡ with_record (in_field row start before from last Plain)
        (read s (first_field (next_count row) (at + 1)) (at + 1) rest)
    unfolding read
    over_feed at rest =
        ap (λ (m : Mark). moved behind_last at 10 (by_mark Plain m) (λ next. read s next (at + 1) rest))
        (mark_feed s fit rest)

    pub over_return :
        (at : ℕ) (rest : List ℕ)
        → read s (in_field row start before from last Plain) at (13 ∷ 10 ∷ rest)
        ≡ with_record (in_field row start before from last Plain)
        (read s (first_field (next_count row) (at + 1 + 1)) (at + 1 + 1) rest)
    unfolding read
    over_return at rest =
        ap
        (λ (m : Mark). moved behind_last at 13 (by_mark Plain m) (λ next. read s next (at + 1) (10 ∷ rest)))
        (mark_return s fit rest)

    pub at_last :
        (at : ℕ) → is_empty behind_last ≡ false
        → read s (in_field row start before from last Plain) at []
        ≡ with_record (in_field row start before from last Plain) (ends AtEnd)
    unfolding read
    at_last at some = rw some refl

  nonempty : (front : List ℕ) → front ≢ [] → 0 < length front
  nonempty [] some = absurd (some refl)
  nonempty (b ∷ front) some = omega arith

  module _ (row at : ℕ) (texts : List (List ℕ)) (records : List (List (List ℕ))) (front end rest : List ℕ)
      (some : front ≢ []) (gone : Gone s fit row at [] at texts front (end ++ rest)) where
    abbrev last_stand : Stand
    last_stand = in_field row at gone.before gone.from gone.last Plain

    has_bytes : is_empty last_stand ≡ false
    has_bytes =
        ne_eqb (gone.from + length gone.last) at
        (λ e. absurd (omega (arith, e, gone.place, nonempty front some)))

    -- the record, and then what is read after it
    joined :
        (behind : Reading)
        → read s (in_field row at gone.before gone.from gone.last Plain) (at + length front) (end ++ rest)
        ≡ with_record (in_field row at gone.before gone.from gone.last Plain) behind
        → texts_of behind.rows ≡ records → behind.ending ≡ AtEnd
        → IsReadFrom s row at (texts ∷ records) (front ++ (end ++ rest))
    joined behind over rows ending =
        let whole :
        read s (first_field row at) at (front ++ (end ++ rest)) ≡ with_row (row_of last_stand) behind =
        gone.same ∙ (over ∙ with_row_of last_stand behind has_bytes) in
        record {
          texts =
              ap (λ (r : Reading). texts_of r.rows) whole
              ∙ (ap (λ (t : List (List ℕ)). t ∷ texts_of behind.rows) gone.texts_are
              ∙ ap (λ (ts : List (List (List ℕ))). texts ∷ ts) rows);
          ending = ap (λ (r : Reading). r.ending) whole ∙ ending;
        }

  parted_end :
      (records : List (List (List ℕ))) (end rest : List ℕ) → EndsRecord records end → Spelled s records rest
      → Parted s (end ++ rest)
  parted_end records end rest (inl (inl is)) spelled =
      subst (λ (e : List ℕ). Parted s (e ++ rest)) (sym is) (ap closes (mark_feed s fit rest))
  parted_end records end rest (inl (inr is)) spelled =
      subst (λ (e : List ℕ). Parted s (e ++ rest)) (sym is) (ap closes (mark_return s fit rest))
  parted_end records end rest (inr is) spelled =
      let none : rest ≡ [] = subst (λ (r : List (List (List ℕ))). Spelled s r rest) is.1 spelled in
      subst (λ (l : List ℕ). Parted s l)
      (sym (ap (λ (e : List ℕ). e ++ rest) is.0 ∙ none)) tt

  by_end :
      (row at : ℕ) (texts : List (List ℕ)) (records : List (List (List ℕ))) (front end rest : List ℕ)
      → front ≢ []
      → Gone s fit row at [] at texts front (end ++ rest) → EndsRecord records end → Spelled s records rest
      → ((next : ℕ) → IsReadFrom s (next_count row) next records rest)
      → IsReadFrom s row at (texts ∷ records) (front ++ (end ++ rest))
  by_end row at texts records front end rest some gone (inl (inl is)) spelled behind =
      let p : ℕ = at + length front in
      let next : IsReadFrom s (next_count row) (p + 1) records rest = behind (p + 1) in
      joined row at texts records front end rest some gone
      (read s (first_field (next_count row) (p + 1)) (p + 1) rest)
      (ap (λ (e : List ℕ). read s (in_field row at gone.before gone.from gone.last Plain) p (e ++ rest)) is
      ∙ over_feed row at gone.before gone.from gone.last p rest)
      next.texts next.ending
  by_end row at texts records front end rest some gone (inl (inr is)) spelled behind =
      let p : ℕ = at + length front in
      let next : IsReadFrom s (next_count row) (p + 1 + 1) records rest = behind (p + 1 + 1) in
      joined row at texts records front end rest some gone
      (read s (first_field (next_count row) (p + 1 + 1)) (p + 1 + 1) rest)
      (ap (λ (e : List ℕ). read s (in_field row at gone.before gone.from gone.last Plain) p (e ++ rest)) is
      ∙ over_return row at gone.before gone.from gone.last p rest)
      next.texts next.ending
  by_end row at texts records front end rest some gone (inr is) spelled behind =
      let p : ℕ = at + length front in
      let none : rest ≡ [] = subst (λ (r : List (List (List ℕ))). Spelled s r rest) is.1 spelled in
      joined row at texts records front end rest some gone (ends AtEnd)
      (ap (λ (l : List ℕ). read s (in_field row at gone.before gone.from gone.last Plain) p l)
      (ap (λ (e : List ℕ). e ++ rest) is.0 ∙ none)
      ∙ at_last row at gone.before gone.from gone.last p
      (has_bytes row at texts records front end rest some gone))
      (sym is.1) refl

  pub spelled_read :
      (records : List (List (List ℕ))) (text : List ℕ) (row at : ℕ) → 1 ≤ row → (records ≡ [] → 1 < row)
      → Spelled s records text → IsReadFrom s row at records text
  spelled_read [] text row at some late spelled =
      let none : read s (first_field row at) at text ≡ ends AtEnd =
      ap (read s (first_field row at) at) spelled ∙ nothing_left s row at (late refl) in
      record
      { texts = ap (λ (r : Reading). texts_of r.rows) none; ending = ap (λ (r : Reading). r.ending) none }
  spelled_read (texts ∷ records) text row at some late spelled =
      let rest : List ℕ = spelled.0 in
      let begins : Begins s texts records text rest = spelled.1 in
      let gone : Gone s fit row at [] at texts begins.front (begins.end ++ rest) =
      fields_over s fit row at texts begins.front [] at (begins.end ++ rest) begins.spelled
      (parted_end records begins.end rest begins.ended spelled.2) in
      subst (IsReadFrom s row at (texts ∷ records)) (sym begins.parts)
      (by_end row at texts records begins.front begins.end rest begins.some gone begins.ended spelled.2
      (λ next. spelled_read records rest (next_count row) next (omega arith) (λ e. later row some) spelled.2))
