-- How the reader of csv_text reads a table.
use Rattle.std.proofs.Common.{◌≡◌, ◌≢◌, refl, sym, ap, subst, ◌∙◌, ℕ, List, [], ◌∷◌, ◌++◌, append-nil, inl, inr}
use Rattle.csv_text.specs.Reading.{Outside, read}
use Rattle.table_text.specs.Spelling.{Begins, EndsRecord, Spelled}
use Rattle.other_readers.specs.Laws.{CsvTextReadsAlike}
use Rattle.other_readers.proofs.LastBytes.{fields_last, last_behind, last_of}
use Rattle.other_readers.proofs.OwnSteps.{record_read}

-- what is after a line feed ends as the whole does
behind_feed :
    (front rest : List ℕ) → last_of 10 (front ++ 10 ∷ rest) ≡ 10 → last_of 10 rest ≡ 10
behind_feed front rest ends = sym (last_behind 10 front 10 rest) ∙ ends

behind_return :
    (front rest : List ℕ) → last_of 10 (front ++ 13 ∷ 10 ∷ rest) ≡ 10 → last_of 10 rest ≡ 10
behind_return front rest ends = sym (last_behind 10 front 13 (10 ∷ rest)) ∙ ends

-- the byte before some bytes makes no difference to the last of them
same_last : (before other : ℕ) (bytes : List ℕ) → bytes ≢ [] → last_of before bytes ≡ last_of other bytes
same_last before other [] some = absurd (some refl)
same_last before other (b ∷ bytes) some = refl

begun :
    (fields : List (List ℕ)) (records : List (List (List ℕ))) (text rest : List ℕ)
    → (begins : Begins 44 fields records text rest)
    → (last_of 10 rest ≡ 10 → read [] (Outside []) rest ≡ records)
    → last_of 10 text ≡ 10 → Spelled 44 records rest
    → read [] (Outside []) text ≡ fields ∷ records
begun fields records text rest begins others ends spelled =
    ap (λ (t : List ℕ). read [] (Outside []) t) begins.parts
    ∙ by_end begins.end begins.ended (subst (λ (t : List ℕ). last_of 10 t ≡ 10) begins.parts ends)
  where
    by_end :
        (end : List ℕ) → EndsRecord records end → last_of 10 (begins.front ++ (end ++ rest)) ≡ 10
        → read [] (Outside []) (begins.front ++ (end ++ rest)) ≡ fields ∷ records
    by_end end (inl (inl feed)) last =
        let left = others (behind_feed begins.front rest
        (subst (λ (e : List ℕ). last_of 10 (begins.front ++ (e ++ rest)) ≡ 10) feed last)) in
        ap (λ (e : List ℕ). read [] (Outside []) (begins.front ++ (e ++ rest))) feed
        ∙ record_read (10 ∷ rest) records
        (λ before field. ap (λ (rs : List (List (List ℕ))). (before ++ field ∷ []) ∷ rs) left) refl [] fields
        begins.front begins.spelled
    by_end end (inl (inr return)) last =
        let left = others (behind_return begins.front rest
        (subst (λ (e : List ℕ). last_of 10 (begins.front ++ (e ++ rest)) ≡ 10) return last)) in
        ap (λ (e : List ℕ). read [] (Outside []) (begins.front ++ (e ++ rest))) return
        ∙ record_read (13 ∷ 10 ∷ rest) records
        (λ before field. ap (λ (rs : List (List (List ℕ))). (before ++ field ∷ []) ∷ rs) left) refl [] fields
        begins.front begins.spelled
    by_end end (inr none) last =
        let no_rest : rest ≡ [] = subst (λ (rs : List (List (List ℕ))). Spelled 44 rs rest) none.1 spelled in
        let whole : begins.front ++ (end ++ rest) ≡ begins.front =
        ap (λ (e : List ℕ). begins.front ++ (e ++ rest)) none.0
        ∙ ap (λ (r : List ℕ). begins.front ++ r) no_rest ∙ append-nil begins.front in
        absurd (fields_last 0 fields begins.front (λ e. absurd cc) begins.spelled
        (same_last 0 10 begins.front begins.some ∙ subst (λ (t : List ℕ). last_of 10 t ≡ 10) whole last))

all_read :
    (records : List (List (List ℕ))) (text : List ℕ) → last_of 10 text ≡ 10 → Spelled 44 records text
    → read [] (Outside []) text ≡ records
all_read [] text ends spelled = ap (λ (t : List ℕ). read [] (Outside []) t) spelled
all_read (fields ∷ records) text ends spelled =
    begun fields records text spelled.0 spelled.1 (λ last. all_read records spelled.0 last spelled.2) ends spelled.2

pub csv_text_reads_alike : CsvTextReadsAlike
csv_text_reads_alike records front spelled =
    all_read records (front ++ 10 ∷ []) (last_behind 10 front 10 []) spelled
