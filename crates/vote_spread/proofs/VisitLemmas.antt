-- A walk over rows, row by row.
use Rattle.std.proofs.Common.{◌≡◌, ℕ, ◌+◌, ◌<◌, List, [], ◌∷◌, length, get_or, drop, sum, ap, ◌∙◌}
use Rattle.std.specs.List.{All}
use Rattle.std.proofs.lemmas.List.{at_drop_more, get_or-map, length-map}
use Rattle.std.proofs.lemmas.List.Sums.{sum_by-cons}
use Rattle.vote_spread.specs.declared.row.Row.{Row}
use Rattle.vote_spread.specs.Stem.{Stem}
use Rattle.vote_spread.specs.Gain.{gain, past, gains}
use Rattle.vote_spread.specs.Rows.{row_stem, seen, IsRow}

-- what stands past the end of rows
none : Stem
none = record { depth = 0; candidate = 0; ballots = 0; skip = 0; tail = [] }

-- the row at a place
abbrev pub row_at : List Row → ℕ → Row → Stem
row_at rows i d = row_stem (get_or rows i d).depth (get_or rows i d).candidate (get_or rows i d).ballots

seen_at : (rows : List Row) (i : ℕ) (d : Row) (e : Stem) → i < length rows → get_or (seen rows) i e ≡ row_at rows i d
seen_at rows i d e lt = get_or-map (λ (r : Row). row_stem r.depth r.candidate r.ballots) rows i d e lt

pub length-seen : (rows : List Row) → length (seen rows) ≡ length rows
length-seen rows = length-map rows (λ (r : Row). row_stem r.depth r.candidate r.ballots)

pub row_sound :
    (n : ℕ) (rows : List Row) (i : ℕ) (d : Row) → i < length rows → All (IsRow n) (seen rows)
    → IsRow n (row_at rows i d)
row_sound n rows i d lt all = rw (← seen_at rows i d none lt) (all i none (rw length-seen lt))

pub rows_more :
    (s : ℕ) (keeps : List ℕ) (c : ℕ) (ws : List ℕ) (rows : List Row) (i : ℕ) (d : Row) → i < length rows
    → sum (gains s keeps c ws (drop i (seen rows)))
    ≡ gain s keeps c ws (row_at rows i d)
    + sum (gains s keeps c (past s keeps ws (row_at rows i d)) (drop (i + 1) (seen rows)))
rows_more s keeps c ws rows i d lt =
    let row = row_at rows i d in
    at_drop_more (λ (l : List Stem). sum (gains s keeps c ws l)) (seen rows) i none (rw length-seen lt)
    ∙ (ap (λ (x : Stem). sum (gains s keeps c ws (x ∷ drop (i + 1) (seen rows)))) (seen_at rows i d none lt)
    ∙ sum_by-cons (λ x. x) (gain s keeps c ws row) (gains s keeps c (past s keeps ws row) (drop (i + 1) (seen rows))))
