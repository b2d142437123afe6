-- The widest of amounts, one more at a time, and how wide it is at most.
use Rattle.std.proofs.Common.{◌≡◌, ◌∙◌, refl, sym, ap, arith, ℕ, zero, suc, ◌+◌, ◌*◌, ◌/◌, ◌%◌, ◌<◌, ◌≤◌, All, List, [], ◌∷◌, length, take, get_or}
use Rattle.std.specs.Prelude.{max}
use Rattle.std.proofs.Math.Nat.{mul-le-mul_right}
use Rattle.std.proofs.lemmas.List.{take_more}
use Rattle.std.proofs.lemmas.List.Elements.{All-cons, All-head, All-tail}
use Rattle.std.proofs.lemmas.List.Recursion.{max_push}
use Rattle.fixed_place.specs.Rounding.{most, scale}
use Rattle.fixed_place.specs.Text.{text_of}
use Rattle.fixed_place.proofs.RoundingLemmas.{most_votes}
use Rattle.line_text.proofs.Lengths.{length-text_of}
use Rattle.meek_rule.specs.Row.{Row}
use Rattle.plain_ballots.specs.declared.limits.TheConstants.{MOST_BALLOTS}
use Rattle.sheet_reader.specs.Form.{IsPrintableRow}
use Rattle.sheet_minutes.specs.declared.columns.TheConstants.{MARK_COLUMNS, ROUND_COLUMNS}
use Rattle.sheet_minutes.specs.Rounds.{left_over}
use Rattle.sheet_minutes.specs.Table.{widest, widest_of}

-- the columns of an amount
abbrev pub columns : (places : ℕ) → ℕ → ℕ
columns places a = length (text_of places a)

-- the columns of the widest amount of an iteration
abbrev pub widest_in : (places ballots : ℕ) → Row → ℕ
widest_in places ballots row = widest places (row.quota ∷ left_over places ballots row ∷ row.votes)

pub widest_more :
    (places : ℕ) (xs : List ℕ) (i x : ℕ) → x ≡ get_or xs i x → i < length xs
    → widest places (take (i + 1) xs) ≡ max (widest places (take i xs)) (columns places x)
widest_more places xs i x is below =
    ap (widest places) (take_more xs i x below)
    ∙ max_push (widest places) (columns places) refl (λ y ys. refl) (take i xs) (get_or xs i x)
    ∙ ap (λ (y : ℕ). max (widest places (take i xs)) (columns places y)) (sym is)

pub widest_of_more :
    (places ballots : ℕ) (rows : List Row) (i : ℕ) (row : Row) → row ≡ get_or rows i row → i < length rows
    → widest_of places ballots (take (i + 1) rows) ≡ max (widest_of places ballots (take i rows)) (widest_in places ballots row)
widest_of_more places ballots rows i row is below =
    ap (widest_of places ballots) (take_more rows i row below)
    ∙ max_push (widest_of places ballots) (widest_in places ballots) refl (λ r rs. refl) (take i rows) (get_or rows i row)
    ∙ ap (λ (r : Row). max (widest_of places ballots (take i rows)) (widest_in places ballots r)) (sym is)

-- ---- at most 20 columns

max-le : (a b m : ℕ) → a ≤ m → b ≤ m → max a b ≤ m
max-le a b m low high = omega arith

widest_small : (places : ℕ) (xs : List ℕ) → places ≤ 9 → All (λ x. x ≤ most places) xs → widest places xs ≤ 20
widest_small places [] to all = omega arith
widest_small places (x ∷ xs) to all =
    max-le (columns places x) (widest places xs) 20 (length-text_of places x to (All-head (λ y. y ≤ most places) x xs all))
    (widest_small places xs to (All-tail (λ y. y ≤ most places) x xs all))

left_small : (places ballots : ℕ) (row : Row) → ballots ≤ MOST_BALLOTS → left_over places ballots row ≤ most places
left_small places ballots row few =
    let within : ballots * scale places ≤ 1000000000 * scale places = mul-le-mul_right (scale places) (omega (arith, few)) in
    omega (arith, within, most_votes places)

-- the amounts of an iteration are at most a thousand million votes
pub amounts_small :
    (places ballots n : ℕ) (row : Row) → ballots ≤ MOST_BALLOTS → IsPrintableRow places n row
    → All (λ x. x ≤ most places) (row.quota ∷ left_over places ballots row ∷ row.votes)
amounts_small places ballots n row few fits =
    All-cons (λ x. x ≤ most places) row.quota (left_over places ballots row ∷ row.votes) fits.quota
    (All-cons (λ x. x ≤ most places) (left_over places ballots row) row.votes (left_small places ballots row few) fits.votes)

pub narrow :
    (places ballots n : ℕ) (rows : List Row) → places ≤ 9 → ballots ≤ MOST_BALLOTS → All (IsPrintableRow places n) rows → widest_of places ballots rows ≤ 20
narrow places ballots n [] to few all = omega arith
narrow places ballots n (row ∷ rows) to few all =
    max-le (widest_in places ballots row) (widest_of places ballots rows) 20
    (widest_small places (row.quota ∷ left_over places ballots row ∷ row.votes) to
    (amounts_small places ballots n row few (All-head (IsPrintableRow places n) row rows all)))
    (narrow places ballots n rows to few (All-tail (IsPrintableRow places n) row rows all))

-- ---- none is wider than the widest

pub widest_of_all : (places : ℕ) (xs : List ℕ) → All (λ x. columns places x ≤ widest places xs) xs
widest_of_all places [] = λ k d below. absurd (omega arith)
widest_of_all places (x ∷ xs) =
    let rest = widest_of_all places xs in
    All-cons (λ y. columns places y ≤ max (columns places x) (widest places xs)) x xs (omega arith) (λ k d below. let here = rest k d below in omega arith)

pub widest_of_rows :
    (places ballots : ℕ) (rows : List Row) → All (λ row. widest_in places ballots row ≤ widest_of places ballots rows) rows
widest_of_rows places ballots [] = λ k d below. absurd (omega arith)
widest_of_rows places ballots (row ∷ rows) =
    let rest = widest_of_rows places ballots rows in
    All-cons (λ r. widest_in places ballots r ≤ max (widest_in places ballots row) (widest_of places ballots rows)) row rows (omega arith)
    (λ k d below. let here = rest k d below in omega arith)

-- ---- how many rounds a block has

-- a quotient of 60 by at most 23
quotient_some : (q n r : ℕ) → n * q + r ≡ 60 → r < n → n ≤ 23 → 0 < q
quotient_some zero n r whole below few = absurd (omega arith)
quotient_some (suc q) n r whole below few = omega arith

-- a block has room for a round
pub some_room : (width : ℕ) → width ≤ 20 → 0 < ROUND_COLUMNS / (width + MARK_COLUMNS)
some_room width few =
    quotient_some (ROUND_COLUMNS / (width + MARK_COLUMNS)) (width + MARK_COLUMNS) (ROUND_COLUMNS % (width + MARK_COLUMNS))
    (omega arith) (omega arith) (omega arith)
