-- A record as it is written.
use Rattle.std.proofs.Common.{◌≡◌, sym, ap, ◌∙◌, ℕ, List, [], ◌∷◌, ◌++◌, append_assoc, append-nil, map}
use Rattle.std.specs.List.{flat_map, join_with_byte}
use Rattle.std.specs.Borrow.{Bor}
use Rattle.csv_text.specs.Csv.{behind_comma, field_text, record_text}

joined :
    (field : List ℕ) (others : List (Bor (List ℕ)))
    → field_text field ++ flat_map (λ f. behind_comma f.now) others
    ≡ join_with_byte 44 (map field_text (field ∷ map (λ f. f.now) others))
joined field [] = append-nil (field_text field)
joined field (other ∷ others) = ap (λ (l : List ℕ). field_text field ++ 44 ∷ l) (joined other.now others)

-- the first field, the others and the end of the line
pub record-parts :
    (field : List ℕ) (others : List (Bor (List ℕ)))
    → field_text field ++ (flat_map (λ f. behind_comma f.now) others ++ 13 ∷ 10 ∷ [])
    ≡ record_text (field ∷ map (λ f. f.now) others)
record-parts field others =
    sym (append_assoc (field_text field) (flat_map (λ f. behind_comma f.now) others) (13 ∷ 10 ∷ []))
    ∙ ap (λ (l : List ℕ). l ++ 13 ∷ 10 ∷ []) (joined field others)
