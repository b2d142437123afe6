-- How the reader of csv reads a table.
use Rattle.std.proofs.Common.{◌≡◌, refl, sym, subst, ◌∙◌, ℕ, true, false, eqb, List, [], ◌∷◌, ◌++◌, Some, None, drop}
use Rattle.std.proofs.Common.{inl, inr, ◌⊎◌}
use Rattle.std.proofs.lemmas.Bool.{ne_eqb}
use Rattle.std.proofs.lemmas.Bool.Decides.{eqb_tells}
use Rattle.csv.specs.Machine.{next_record}
use Rattle.csv.specs.Reading.{AreRecords, Reached, strip_bom}
use Rattle.csv.specs.declared.parser.State.{State}
use Rattle.csv.specs.declared.parser.State.TheVariants.{AfterCr, StartRecord}
use Rattle.table_text.specs.Reading.{mark_len}
use Rattle.table_text.specs.Spelling.{Begins, EndsRecord, Spelled}
use Rattle.other_readers.specs.Laws.{CsvReadsAlike, parted_by}
use Rattle.other_readers.proofs.Bytes.{IsApart, apart}
use Rattle.other_readers.proofs.CsvSteps.{at_end, at_feed, at_return, behind_return, no_more}
use Rattle.other_readers.proofs.CsvFields.{whole_record}

-- a record, and then all others
one_more :
    (separator : ℕ) (state next : State) (text left : List ℕ) (fields : List (List ℕ))
    (records : List (List (List ℕ)))
    → next_record (parted_by separator) state [] [] text ≡ Some (fields, next, left)
    → AreRecords (parted_by separator) next left records
    → AreRecords (parted_by separator) state text (fields ∷ records)
unfolding Reached
one_more separator state next text left fields records reads others =
    (others.0, others.1, ((fields, next, left), reads, refl, others.2), others.3)

-- after a carriage return a line feed is passed over
past_feed :
    (separator : ℕ) (text : List ℕ) (records : List (List (List ℕ)))
    → AreRecords (parted_by separator) StartRecord text records
    → AreRecords (parted_by separator) AfterCr (10 ∷ text) records
unfolding Reached
past_feed separator text [] are =
    let same : next_record (parted_by separator) StartRecord [] [] text ≡ None =
    subst (λ (s : State). next_record (parted_by separator) s [] [] text ≡ None) (sym are.2.0)
    (subst (λ (t : List ℕ). next_record (parted_by separator) are.0 [] [] t ≡ None) (sym are.2.1) are.3) in
    (AfterCr, 10 ∷ text, (refl, refl), behind_return separator text ∙ same)
past_feed separator text (fields ∷ records) are =
    let first = are.2 in
    (are.0, are.1, (first.0, behind_return separator text ∙ first.1, first.2, first.3), are.3)

nothing_left : (separator : ℕ) → AreRecords (parted_by separator) StartRecord [] []
unfolding Reached
nothing_left separator = (StartRecord, [], (refl, refl), no_more separator)

module _ (separator : ℕ) (is : IsApart separator) where
  -- the text is a record, and then all others
  begun :
      (fields : List (List ℕ)) (records : List (List (List ℕ))) (text rest : List ℕ)
      → (begins : Begins separator fields records text rest)
      → AreRecords (parted_by separator) StartRecord rest records
      → Spelled separator records rest
      → AreRecords (parted_by separator) StartRecord text (fields ∷ records)
  begun fields records text rest begins others spelled =
      subst (λ (t : List ℕ). AreRecords (parted_by separator) StartRecord t (fields ∷ records)) (sym begins.parts)
      (by_end begins.end begins.ended)
    where
      by_end :
          (end : List ℕ) → EndsRecord records end
          → AreRecords (parted_by separator) StartRecord (begins.front ++ (end ++ rest)) (fields ∷ records)
      by_end end (inl (inl feed)) =
          subst (λ (e : List ℕ). AreRecords (parted_by separator) StartRecord (begins.front ++ (e ++ rest)) (fields ∷ records))
          (sym feed)
          (one_more separator StartRecord StartRecord (begins.front ++ 10 ∷ rest) rest fields records
          (whole_record separator is (10 ∷ rest) StartRecord rest
          (λ before field. at_feed separator before field rest is.feed_parts) refl fields begins.front begins.spelled
          begins.some)
          others)
      by_end end (inl (inr return)) =
          subst (λ (e : List ℕ). AreRecords (parted_by separator) StartRecord (begins.front ++ (e ++ rest)) (fields ∷ records))
          (sym return)
          (one_more separator StartRecord AfterCr (begins.front ++ 13 ∷ 10 ∷ rest) (10 ∷ rest) fields records
          (whole_record separator is (13 ∷ 10 ∷ rest) AfterCr (10 ∷ rest)
          (λ before field. at_return separator before field (10 ∷ rest) is.return_parts) refl fields begins.front
          begins.spelled begins.some)
          (past_feed separator rest records others))
      by_end end (inr last) =
          let none : rest ≡ [] = subst (λ (rs : List (List (List ℕ))). Spelled separator rs rest) last.1 spelled in
          subst (λ (e : List ℕ). AreRecords (parted_by separator) StartRecord (begins.front ++ (e ++ rest)) (fields ∷ records))
          (sym last.0)
          (subst (λ (r : List ℕ). AreRecords (parted_by separator) StartRecord (begins.front ++ r) (fields ∷ records))
          (sym none)
          (one_more separator StartRecord StartRecord (begins.front ++ []) [] fields records
          (whole_record separator is [] StartRecord [] (λ before field. at_end separator before field) tt fields
          begins.front begins.spelled begins.some)
          (subst (λ (r : List ℕ). AreRecords (parted_by separator) StartRecord r records) none others)))

  all_records :
      (records : List (List (List ℕ))) (text : List ℕ) → Spelled separator records text
      → AreRecords (parted_by separator) StartRecord text records
  all_records [] text spelled =
      subst (λ (t : List ℕ). AreRecords (parted_by separator) StartRecord t []) (sym spelled) (nothing_left separator)
  all_records (fields ∷ records) text spelled =
      begun fields records text spelled.0 spelled.1 (all_records records spelled.0 spelled.2) spelled.2

-- ---- a byte order mark

-- a byte is another one, or it isn't, whichever is named first
told :
    (b n : ℕ)
    → ((eqb b n ≡ true) × (eqb n b ≡ true)) ⊎ ((eqb b n ≡ false) × (eqb n b ≡ false))
told b n =
    elim (eqb_tells b n) [
      | inl same ↦ inl (same.0, subst (λ (m : ℕ). eqb n m ≡ true) (sym same.1) (subst (λ (m : ℕ). eqb m n ≡ true) same.1 same.0))
      | inr other ↦ inr (other.0, ne_eqb n b (λ e. other.1 (sym e)))
    ]

-- both readers pass over a byte order mark
mark_passed : (input : List ℕ) → drop (mark_len input) input ≡ strip_bom input
unfolding strip_bom
mark_passed [] = refl
mark_passed (a ∷ []) = elim (told a 239) [ inl e ↦ rw e.1 refl | inr e ↦ rw e.1 refl ]
mark_passed (a ∷ b ∷ []) =
    elim (told a 239) [
      | inl e ↦ elim (told b 187) [ inl f ↦ rw (e.1, f.1) refl | inr f ↦ rw (e.1, f.1) refl ]
      | inr e ↦ rw e.1 refl
    ]
mark_passed (a ∷ b ∷ c ∷ rest) =
    elim (told a 239) [
      | inl e ↦
          elim (told b 187) [
            | inl f ↦
                elim (told c 191) [
                  | inl g ↦ rw (e.0, e.1, f.0, f.1, g.0, g.1) refl
                  | inr g ↦ rw (e.0, e.1, f.0, f.1, g.0, g.1) refl
                ]
            | inr f ↦ rw (e.0, e.1, f.0, f.1) refl
          ]
      | inr e ↦ rw (e.0, e.1) refl
    ]

pub csv_reads_alike : CsvReadsAlike
csv_reads_alike separator records input is spelled =
    subst (λ (t : List ℕ). AreRecords (parted_by separator) StartRecord t records) (mark_passed input)
    (all_records separator (apart separator is) records (drop (mark_len input) input) spelled)
