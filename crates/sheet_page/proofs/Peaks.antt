-- The greatest of amounts, one more at a time.
use Rattle.std.proofs.Common.{◌≡◌, ◌∙◌, refl, sym, ap, ℕ, ◌+◌, ◌<◌, List, length, take, get_or}
use Rattle.std.specs.Prelude.{max}
use Rattle.std.proofs.lemmas.List.{take_more}
use Rattle.std.proofs.lemmas.List.Recursion.{max_push}
use Rattle.meek_rule.specs.Row.{Row}
use Rattle.sheet_page.specs.Picture.{greatest, full_of}

pub greatest_more :
    (xs : List ℕ) (i x : ℕ) → x ≡ get_or xs i x → i < length xs
    → greatest (take (i + 1) xs) ≡ max (greatest (take i xs)) x
greatest_more xs i x is below =
    ap greatest (take_more xs i x below)
    ∙ max_push greatest (λ y. y) refl (λ y ys. refl) (take i xs) (get_or xs i x)
    ∙ ap (λ (y : ℕ). max (greatest (take i xs)) y) (sym is)

pub full_more :
    (rows : List Row) (i : ℕ) (row : Row) → row ≡ get_or rows i row → i < length rows
    → full_of (take (i + 1) rows) ≡ max (full_of (take i rows)) (max row.quota (greatest row.votes))
full_more rows i row is below =
    ap full_of (take_more rows i row below)
    ∙ max_push full_of (λ (r : Row). max r.quota (greatest r.votes)) refl (λ r rs. refl) (take i rows) (get_or rows i row)
    ∙ ap (λ (r : Row). max (full_of (take i rows)) (max r.quota (greatest r.votes))) (sym is)
