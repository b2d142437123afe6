-- Fields and records as they are read.
use Rattle.std.proofs.Common.{◌≡◌, refl, sym, ap, subst, ◌∙◌, ℕ, ◌≤◌, Bool, true, false, cond, eqb, List, []}
use Rattle.std.proofs.Common.{◌∷◌, ◌++◌, length, ◌||◌, inl, inr, arith, append_assoc, append-nil, map}
use Rattle.std.specs.Prelude.{All}
use Rattle.std.specs.List.{flat_map, list_any, join_with_byte}
use Rattle.std.proofs.lemmas.Bool.{cases_Bool}
use Rattle.std.proofs.lemmas.Bool.Decides.{eqb_tells}
use Rattle.std.proofs.lemmas.List.Elements.{All-head, All-tail}
use Rattle.csv_text.specs.Csv.{is_mark, within_quotes, quoted, field_text, record_text, csv_text}
use Rattle.csv_text.specs.Reading.{Outside, Within, BehindQuote, read}

or_parts : (a b : Bool) → (a || b) ≡ false → (a ≡ false) × (b ≡ false)
or_parts true b h = absurd (cc)
or_parts false b h = (refl, h)

-- a field without marks is read byte by byte
read-plain :
    (fields : List (List ℕ)) (field xs rest : List ℕ) → list_any is_mark xs ≡ false
    → read fields (Outside field) (xs ++ rest) ≡ read fields (Outside (field ++ xs)) rest
read-plain fields field [] rest none = ap (λ (f : List ℕ). read fields (Outside f) rest) (sym (append-nil field))
read-plain fields field (x ∷ xs) rest none =
    let parts = or_parts (is_mark x) (list_any is_mark xs) none in
    let first = or_parts (eqb x 44 || eqb x 34 || eqb x 13) (eqb x 10) parts.0 in
    let second = or_parts (eqb x 44 || eqb x 34) (eqb x 13) first.0 in
    let third = or_parts (eqb x 44) (eqb x 34) second.0 in
    let comma : eqb x 44 ≡ false = third.0 in
    let quote : eqb x 34 ≡ false = third.1 in
    let carriage : eqb x 13 ≡ false = second.1 in
    let feed : eqb x 10 ≡ false = first.1 in
    rw (quote, comma, carriage, feed) (read-plain fields (field ++ x ∷ []) xs rest parts.1
    ∙ ap (λ (f : List ℕ). read fields (Outside f) rest) (append_assoc field (x ∷ []) xs))

-- within quotes up to the last of them
read-quoted :
    (fields : List (List ℕ)) (field xs rest : List ℕ)
    → read fields (Within field) (flat_map within_quotes xs ++ 34 ∷ rest)
    ≡ read fields (BehindQuote (field ++ xs)) rest
read-quoted fields field [] rest = ap (λ (f : List ℕ). read fields (BehindQuote f) rest) (sym (append-nil field))
read-quoted fields field (x ∷ xs) rest =
    let others = flat_map within_quotes xs in
    let next =
    read-quoted fields (field ++ x ∷ []) xs rest
    ∙ ap (λ (f : List ℕ). read fields (BehindQuote f) rest) (append_assoc field (x ∷ []) xs) in
    ap (λ (l : List ℕ). read fields (Within field) l) (append_assoc (within_quotes x) others (34 ∷ rest))
    ∙ read-byte fields field x (others ++ 34 ∷ rest) ∙ next
  where
    read-byte :
        (fields : List (List ℕ)) (field : List ℕ) (x : ℕ) (rest : List ℕ)
        → read fields (Within field) (within_quotes x ++ rest) ≡ read fields (Within (field ++ x ∷ [])) rest
    read-byte fields field x rest =
        elim (eqb_tells x 34) [
          | inl quote ↦
              subst (λ (q : ℕ). read fields (Within field) (within_quotes q ++ rest)
              ≡ read fields (Within (field ++ q ∷ [])) rest) (sym quote.1) refl
          | inr other ↦ rw other.0 (rw other.0 refl)
        ]

-- a field with a comma after it
read-field :
    (fields : List (List ℕ)) (field rest : List ℕ)
    → read fields (Outside []) (field_text field ++ 44 ∷ rest) ≡ read (fields ++ field ∷ []) (Outside []) rest
read-field fields field rest =
    elim (cases_Bool (list_any is_mark field)) [
      | inl marked ↦
          ap (λ b. read fields (Outside []) (cond b (quoted field) field ++ 44 ∷ rest)) marked
          ∙ ap (λ (l : List ℕ). read fields (Within []) l)
          (append_assoc (flat_map within_quotes field) (34 ∷ []) (44 ∷ rest))
          ∙ read-quoted fields [] field (44 ∷ rest)
      | inr plain ↦
          ap (λ b. read fields (Outside []) (cond b (quoted field) field ++ 44 ∷ rest)) plain
          ∙ read-plain fields [] field (44 ∷ rest) plain
    ]

-- the last field of a record
read-last :
    (fields : List (List ℕ)) (field rest : List ℕ)
    → read fields (Outside []) (field_text field ++ 13 ∷ 10 ∷ rest)
    ≡ (fields ++ field ∷ []) ∷ read [] (Outside []) rest
read-last fields field rest =
    elim (cases_Bool (list_any is_mark field)) [
      | inl marked ↦
          ap (λ b. read fields (Outside []) (cond b (quoted field) field ++ 13 ∷ 10 ∷ rest)) marked
          ∙ ap (λ (l : List ℕ). read fields (Within []) l)
          (append_assoc (flat_map within_quotes field) (34 ∷ []) (13 ∷ 10 ∷ rest))
          ∙ read-quoted fields [] field (13 ∷ 10 ∷ rest)
      | inr plain ↦
          ap (λ b. read fields (Outside []) (cond b (quoted field) field ++ 13 ∷ 10 ∷ rest)) plain
          ∙ read-plain fields [] field (13 ∷ 10 ∷ rest) plain
    ]

read-record :
    (fields : List (List ℕ)) (field : List ℕ) (others : List (List ℕ)) (rest : List ℕ)
    → read fields (Outside []) (record_text (field ∷ others) ++ rest)
    ≡ (fields ++ field ∷ others) ∷ read [] (Outside []) rest
read-record fields field [] rest =
    ap (read fields (Outside [])) (append_assoc (field_text field) (13 ∷ 10 ∷ []) rest) ∙ read-last fields field rest
read-record fields field (next ∷ others) rest =
    let joined = join_with_byte 44 (map field_text (next ∷ others)) in
    ap (read fields (Outside [])) (regroup (field_text field) joined (13 ∷ 10 ∷ []) rest)
    ∙ read-field fields field (record_text (next ∷ others) ++ rest)
    ∙ read-record (fields ++ field ∷ []) next others rest
    ∙ ap (λ (l : List (List ℕ)). l ∷ read [] (Outside []) rest) (append_assoc fields (field ∷ []) (next ∷ others))
  where
    regroup :
        (first joined end rest : List ℕ)
        → ((first ++ 44 ∷ joined) ++ end) ++ rest ≡ first ++ 44 ∷ ((joined ++ end) ++ rest)
    regroup first joined end rest =
        append_assoc (first ++ 44 ∷ joined) end rest ∙ append_assoc first (44 ∷ joined) (end ++ rest)
        ∙ ap (λ (l : List ℕ). first ++ 44 ∷ l) (sym (append_assoc joined end rest))

pub records-read_back :
    (records : List (List (List ℕ))) → All (λ fields. 1 ≤ length fields) records
    → read [] (Outside []) (csv_text records) ≡ records
records-read_back [] some = refl
records-read_back (line ∷ records) some =
    first line records (All-head (λ (fields : List (List ℕ)). 1 ≤ length fields) line records some)
    (records-read_back records (All-tail (λ (fields : List (List ℕ)). 1 ≤ length fields) line records some))
  where
    first :
        (fields : List (List ℕ)) (records : List (List (List ℕ))) → 1 ≤ length fields
        → read [] (Outside []) (csv_text records) ≡ records
        → read [] (Outside []) (csv_text (fields ∷ records)) ≡ fields ∷ records
    first [] records some others = absurd (omega (arith, some))
    first (field ∷ fields) records some others =
        read-record [] field fields (csv_text records) ∙ ap (λ (l : List (List (List ℕ))). (field ∷ fields) ∷ l) others
