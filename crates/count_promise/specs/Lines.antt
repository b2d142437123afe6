-- The lines of what a count promises.
use Rattle.std.specs.Prelude.{ℕ, if◌then◌else◌, List, [], ◌∷◌, ◌++◌, length, codes, decimal, Option, Some, None}
use Rattle.std.specs.List.{flat_map, list_any}
use Rattle.fixed_place.specs.Rounding.{scale}
use Rattle.fixed_place.specs.Text.{text_of}
use Rattle.meek_rule.specs.Places.{each_place}
use Rattle.meek_rule.specs.Row.{Row}
use Rattle.sheet_text.specs.Lines.{ended, listed, number_line}
use Rattle.sheet_reader.specs.Values.{SheetList}
use Rattle.count_promise.specs.declared.group.Group.{Group}
use Rattle.count_promise.specs.declared.group.Group.TheVariants.{Tied, Seated, Left}
use Rattle.count_promise.specs.Lots.{defeat_is_by_lot, election_is_by_lot, is_by_lot, is_in}
use Rattle.count_promise.specs.Left.{defeated, first_defeat, greatest_lack, greatest_surplus, slack}
use Rattle.count_promise.specs.Quota.{promised_quota}

-- the numbers of a group by rising number, each after a space
abbrev pub numbers_in : Row → Group → List ℕ
numbers_in row group = listed 1 (each_place (length row.states) (is_in row group))

-- who was defeated by lot, and who were tied
abbrev pub lot_defeat_line : Row → List ℕ
lot_defeat_line row =
    number_line row ++ codes " defeats " ++ decimal (defeated row.step) ++ codes " by lot of" ++ numbers_in row Tied

-- whom a lot gave a seat, and whom it left without one
abbrev pub lot_election_line : Row → List ℕ
lot_election_line row =
    number_line row ++ codes " elects" ++ numbers_in row Seated ++ codes " and not" ++ numbers_in row Left ++ codes " by lot"

-- the lines of an iteration in which a lot decided
abbrev pub defeat_lots : Row → List ℕ
defeat_lots row = if defeat_is_by_lot row.step row then ended (lot_defeat_line row) else []

abbrev pub election_lots : Row → List ℕ
election_lots row = if election_is_by_lot row then ended (lot_election_line row) else []

abbrev pub lots_of : Row → List ℕ
lots_of row = defeat_lots row ++ election_lots row

abbrev pub no_lot : List ℕ
no_lot = codes "no lot decided anything"

-- what lots decided, iteration by iteration, or that they decided nothing
abbrev pub lots_text : List Row → List ℕ
lots_text rows = if list_any is_by_lot rows then flat_map lots_of rows else ended no_lot

-- the defeat with the greatest surplus
abbrev pub greatest_line : Option Row → List ℕ
greatest_line None = codes "nobody was defeated in an iteration"
greatest_line (Some row) =
    codes "greatest surplus at a defeat " ++ text_of 9 row.surplus ++ codes " " ++ number_line row
    ++ codes " candidate " ++ decimal (defeated row.step)

-- an amount between words
abbrev pub amount_line : (words : List ℕ) → (units : ℕ) → (more : List ℕ) → List ℕ
amount_line words units more = words ++ (text_of 9 units ++ more)

-- of which ballots a quota is: a sheet without an iteration doesn't tell the ballots that rank somebody who runs
abbrev pub whose_quota : List Row → List ℕ
whose_quota [] = codes " of all ballots"
whose_quota (row ∷ rows) = codes " of the ballots that rank somebody who runs"

-- what is promised
abbrev pub within_line : (over : ℕ) → List ℕ
within_line over = amount_line (codes "proportional within ") over []

-- what that says to voters
abbrev pub bound_texts : (quota over : List ℕ) → List (List ℕ)
bound_texts quota over =
    codes "Any voters who rank the same candidates, in any order, above all others who run, and are at least k quotas of "
    ∷ quota ∷ codes " votes and " ∷ over
    ∷ codes " votes more, have k of these candidates elected, or all of these who run where they are fewer than k." ∷ []

-- a defeat with a surplus of a vote or more, for which nothing is promised
abbrev pub not_promised_line : Row → List ℕ
not_promised_line row =
    codes "not promised: " ++ number_line row ++ codes " defeats " ++ decimal (defeated row.step)
    ++ codes " while " ++ text_of 9 row.surplus ++ codes " votes of surplus are not passed on"

-- what that means for voters
abbrev pub none_texts : (quota : List ℕ) → List (List ℕ)
none_texts quota =
    codes "So voters who rank the same candidates, in any order, above all others who run, may have fewer of these elected than they have quotas of "
    ∷ quota ∷ codes " votes." ∷ []

-- texts one after another
abbrev pub sentence : List (List ℕ) → List ℕ
sentence texts = flat_map (λ text. text) texts

-- the promise, or the defeat for which there is none, and what it says to voters
abbrev pub promise_lines : Option Row → (quota over : ℕ) → List ℕ
promise_lines None quota over = ended (within_line over) ++ ended (sentence (bound_texts (text_of 9 quota) (text_of 9 over)))
promise_lines (Some row) quota over = ended (not_promised_line row) ++ ended (sentence (none_texts (text_of 9 quota)))

-- the lines after those of the lots
abbrev pub further_text : SheetList → List ℕ
further_text v =
    ended (greatest_line (first_defeat (greatest_surplus v.rows) v.rows))
    ++ ended (amount_line (codes "seats lack at most ") (greatest_lack v.rows) [])
    ++ ended (amount_line (codes "quota ") (promised_quota v) (whose_quota v.rows))
    ++ promise_lines (first_defeat (scale 9) v.rows) (promised_quota v) (slack v.rows)

-- What the sheet of these values promises.
abbrev pub promise_text : SheetList → List ℕ
promise_text v = lots_text v.rows ++ further_text v
