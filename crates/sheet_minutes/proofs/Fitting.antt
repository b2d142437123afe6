-- What holds of every table: its rounds stand once, and its lines fit.
use Rattle.std.proofs.Common.{◌≡◌, subst, refl, arith, ℕ, zero, suc, ◌+◌, ◌*◌, ◌/◌, ◌^◌, ◌<◌, ◌≤◌, All, List, [], ◌∷◌, drop, length, map, take}
use Rattle.std.specs.Prelude.{codes, decimal, slice_index, slice_index_or}
use Rattle.std.specs.List.{flat_map, range_with_len}
use Rattle.std.specs.Str.{encode_utf8_all}
use Rattle.std.proofs.Math.Nat.{mul-le-mul_left}
use Rattle.std.proofs.lemmas.Fmt.{IsAscii-decimal, length-decimal-le}
use Rattle.std.proofs.lemmas.List.{length-take}
use Rattle.std.proofs.lemmas.List.Elements.{All-cons, All-drop, All-filter, All-map, All-tail, All-take}
use Rattle.std.proofs.lemmas.List.FromFn.{get_or-range_with_len, length-range_with_len}
use Rattle.std.specs.Char.{encode_utf8}
use Rattle.candidate_roll.specs.State.{state_at}
use Rattle.candidate_roll.specs.declared.state.State.{State}
use Rattle.candidate_roll.specs.declared.state.State.TheVariants.{Hopeful, Elected, Defeated, Withdrawn}
use Rattle.fixed_place.specs.Rounding.{most}
use Rattle.fixed_place.specs.Text.{text_of}
use Rattle.line_text.proofs.Lengths.{length-candidate}
use Rattle.meek_rule.specs.Row.{Row, blank}
use Rattle.sheet_reader.specs.Form.{IsPrintable, IsPrintableRow}
use Rattle.sheet_reader.specs.Values.{SheetList}
use Rattle.sheet_minutes.specs.declared.columns.TheConstants.{MARK_COLUMNS, NUMBER_COLUMNS, ROUND_COLUMNS}
use Rattle.sheet_minutes.specs.declared.entry.Entry.{Entry}
use Rattle.sheet_minutes.specs.declared.entry.Entry.TheVariants.{Round, Quota, LeftOver, Candidate}
use Rattle.sheet_minutes.specs.Columns.{at_right, name_columns}
use Rattle.sheet_minutes.specs.Laws.{RoundsStandOnce, TablesFit, columns_of}
use Rattle.sheet_minutes.specs.Rounds.{cut_from, ends_round, left_over, rounds_of, row_at, states_behind}
use Rattle.sheet_minutes.specs.Table.{IsAbout, blocks, cell, entries, label, line, mark, width_of}
use Rattle.sheet_minutes.proofs.Cuts.{joined}
use Rattle.sheet_minutes.proofs.Measures.{amounts_small, columns, narrow, some_room, widest_of_all, widest_of_rows}
use Rattle.sheet_minutes.proofs.Texts.{Reads, amount_ascii, amount_long, columns_read, reads-append, reads-each, reads-name, reads-right}

pub width_narrow : (places : ℕ) (v : SheetList) → places ≤ 9 → IsPrintable places v → width_of places v ≤ 20
width_narrow places v to fits = narrow places v.ballots (length v.names) v.rows to fits.ballots fits.rows

pub rounds_once : RoundsStandOnce
rounds_once places v from to fits =
    joined (ROUND_COLUMNS / (width_of places v + MARK_COLUMNS)) (rounds_of v.rows) (some_room (width_of places v) (width_narrow places v to fits))

-- ---- labels

-- words, with spaces up to 20 columns
reads-round : Reads (codes "Round               ") 20
unfolding encode_utf8
reads-round = record { chars = codes "Round               "; scalar = refl; is = refl; many = refl }

reads-quota : Reads (codes "Quota               ") 20
unfolding encode_utf8
reads-quota = record { chars = codes "Quota               "; scalar = refl; is = refl; many = refl }

reads-left_over : Reads (codes "On no candidate     ") 20
unfolding encode_utf8
reads-left_over = record { chars = codes "On no candidate     "; scalar = refl; is = refl; many = refl }

reads-space : Reads (32 ∷ []) 1
unfolding encode_utf8
reads-space = record { chars = 32 ∷ []; scalar = refl; is = refl; many = refl }

reads-number : (n p : ℕ) → n ≤ 250 → p < n → Reads (at_right NUMBER_COLUMNS (decimal (p + 1))) NUMBER_COLUMNS
reads-number n p few below =
    reads-right NUMBER_COLUMNS (decimal (p + 1)) (IsAscii-decimal (p + 1) (omega arith))
    (length-candidate (p + 1) (omega arith))

reads-label :
    (v : SheetList) → length v.names ≤ 250 → (entry : Entry) → IsAbout (length v.names) entry → Reads (label v entry) 20
reads-label v few Round about = reads-round
reads-label v few Quota about = reads-quota
reads-label v few LeftOver about = reads-left_over
reads-label v few (Candidate p) about =
    let name = slice_index_or v.names p [] in
    reads-append (at_right NUMBER_COLUMNS (decimal (p + 1))) (32 ∷ encode_utf8_all (name_columns name)) 3 17
    (reads-number (length v.names) p few about)
    (reads-append (32 ∷ []) (encode_utf8_all (name_columns name)) 1 16 reads-space (reads-name name))

-- ---- cells

reads-amount : (places width a : ℕ) → a ≤ most places → columns places a ≤ width → Reads (at_right width (text_of places a)) width
reads-amount places width a small fits = reads-right width (text_of places a) (amount_ascii places a small) fits

reads-mark : (state : State) (width : ℕ) (text : List ℕ) → Reads text width → Reads (32 ∷ mark state ∷ 32 ∷ text) (3 + width)
unfolding encode_utf8
reads-mark Hopeful width text reads =
    reads-append (codes " H ") text 3 width (record { chars = codes " H "; scalar = refl; is = refl; many = refl }) reads
reads-mark Elected width text reads =
    reads-append (codes " E ") text 3 width (record { chars = codes " E "; scalar = refl; is = refl; many = refl }) reads
reads-mark Defeated width text reads =
    reads-append (codes " D ") text 3 width (record { chars = codes " D "; scalar = refl; is = refl; many = refl }) reads
reads-mark Withdrawn width text reads =
    reads-append (codes " W ") text 3 width (record { chars = codes " W "; scalar = refl; is = refl; many = refl }) reads

-- the amounts of a round in the table
abbrev amounts : (places : ℕ) → SheetList → (i : ℕ) → List ℕ
amounts places v i = (row_at v.rows i).quota ∷ left_over places v.ballots (row_at v.rows i) ∷ (row_at v.rows i).votes

-- what is known of the iteration at a place
record Known (places : ℕ) (v : SheetList) (i : ℕ) : Type 0 where
  pub row : IsPrintableRow places (length v.names) (row_at v.rows i)
  pub small : All (λ x. x ≤ most places) (amounts places v i)
  pub fit : All (λ x. columns places x ≤ width_of places v) (amounts places v i)

known : (places : ℕ) (v : SheetList) → IsPrintable places v → (i : ℕ) → i < length v.rows → Known places v i
known places v fits i below =
    let row = fits.rows i (blank 0) below in
    let wide = widest_of_rows places v.ballots v.rows i (blank 0) below in
    record {
      row = row;
      small = amounts_small places v.ballots (length v.names) (row_at v.rows i) fits.ballots row;
      fit = λ k d inside. let here = widest_of_all places (amounts places v i) k d inside in omega (arith, here, wide);
    }

-- what holds of a vote holds of those of the amounts
votes_of : (places : ℕ) (P : ℕ → Type 0) (v : SheetList) (i : ℕ) → All P (amounts places v i) → All P (row_at v.rows i).votes
votes_of places P v i all =
    let row = row_at v.rows i in
    let left = left_over places v.ballots row in
    All-tail P left row.votes (All-tail P row.quota (left ∷ row.votes) all)

reads-cell :
    (places : ℕ) (v : SheetList) → 6 ≤ places → IsPrintable places v → (entry : Entry) → IsAbout (length v.names) entry
    → (i : ℕ) → i < length v.rows
    → Reads (cell places v (width_of places v) entry i) (width_of places v + MARK_COLUMNS)
reads-cell places v from fits Round about i below =
    let own = known places v fits i below in
    let round = (row_at v.rows i).round in
    let quota = (row_at v.rows i).quota in
    let small : round < 2 ^ 32 = own.row.round in
    let digits = length-decimal-le 10 round (omega arith) (omega arith) (omega arith) in
    let some : columns places quota ≤ width_of places v = own.fit 0 0 (omega arith) in
    let many = amount_long places quota in
    reads-right (width_of places v + MARK_COLUMNS) (decimal round) (IsAscii-decimal round (omega arith)) (omega arith)
reads-cell places v from fits Quota about i below =
    let own = known places v fits i below in
    let quota = (row_at v.rows i).quota in
    let some : columns places quota ≤ width_of places v = own.fit 0 0 (omega arith) in
    reads-amount places (width_of places v + MARK_COLUMNS) quota (own.small 0 0 (omega arith)) (omega arith)
reads-cell places v from fits LeftOver about i below =
    let own = known places v fits i below in
    let left = left_over places v.ballots (row_at v.rows i) in
    let some : columns places left ≤ width_of places v = own.fit 1 0 (omega arith) in
    reads-amount places (width_of places v + MARK_COLUMNS) left (own.small 1 0 (omega arith)) (omega arith)
reads-cell places v from fits (Candidate p) about i below =
    let own = known places v fits i below in
    let row = row_at v.rows i in
    let vote = slice_index row.votes p in
    let inside : p < length row.votes = omega (arith, own.row.of_all.votes) in
    let small = votes_of places (λ x. x ≤ most places) v i own.small p 0 inside in
    let some = votes_of places (λ x. columns places x ≤ width_of places v) v i own.fit p 0 inside in
    let whole : 3 + width_of places v ≡ width_of places v + MARK_COLUMNS = omega arith in
    subst (λ (k : ℕ). Reads (cell places v (width_of places v) (Candidate p) i) k) whole
    (reads-mark (state_at (states_behind v i) p) (width_of places v) (at_right (width_of places v) (text_of places vote))
    (reads-amount places (width_of places v) vote small some))

-- ---- blocks

-- rounds that are few enough, and of which all are so
record IsBlock (P : ℕ → Type 0) (size : ℕ) (block : List ℕ) : Type 0 where
  pub few : length block ≤ size
  pub all : All P block

cut_fits :
    (P : ℕ → Type 0) (fuel size : ℕ) (rounds : List ℕ) → All P rounds → All (IsBlock P size) (cut_from fuel size rounds)
cut_fits P zero size rounds all = λ k d below. absurd (omega arith)
cut_fits P (suc fuel) size [] all = λ k d below. absurd (omega arith)
cut_fits P (suc fuel) size (round ∷ rounds) all =
    let them = round ∷ rounds in
    All-cons (IsBlock P size) (take size them) (cut_from fuel size (drop size them))
    (record { few = omega (arith, length-take size them); all = All-take P size them all })
    (cut_fits P fuel size (drop size them) (All-drop P size them all))

-- the places of a range are below its end
range_below : (n : ℕ) → All (λ i. i < n) (range_with_len 0 n)
range_below n k d below =
    let inside : k < n = omega (arith, length-range_with_len 0 n) in
    let is = get_or-range_with_len 0 n k d inside in
    omega arith

rounds_below : (rows : List Row) → All (λ i. i < length rows) (rounds_of rows)
rounds_below rows =
    All-filter (ends_round rows) (λ i. i < length rows) (range_with_len 0 (length rows)) (range_below (length rows))

about_each : (n : ℕ) → All (IsAbout n) (entries n)
about_each n =
    let them = map Candidate (range_with_len 0 n) in
    All-cons (IsAbout n) Round (Quota ∷ LeftOver ∷ them) tt
    (All-cons (IsAbout n) Quota (LeftOver ∷ them) tt
    (All-cons (IsAbout n) LeftOver them tt (All-map (IsAbout n) Candidate (range_with_len 0 n) (range_below n))))

-- so many rounds of so many columns are at most 60
room : (width few : ℕ) → width ≤ 20 → few ≤ ROUND_COLUMNS / (width + MARK_COLUMNS) → (width + MARK_COLUMNS) * few ≤ 60
room width few narrow_width fits =
    let all = mul-le-mul_left (width + MARK_COLUMNS) fits in
    let most_of : (width + MARK_COLUMNS) * (ROUND_COLUMNS / (width + MARK_COLUMNS)) ≤ 60 = omega arith in
    omega arith

line_fits :
    (places : ℕ) (v : SheetList) → 6 ≤ places → places ≤ 9 → IsPrintable places v → (block : List ℕ)
    → IsBlock (λ i. i < length v.rows) (ROUND_COLUMNS / (width_of places v + MARK_COLUMNS)) block
    → (entry : Entry) → IsAbout (length v.names) entry → columns_of (line places v (width_of places v) block entry) ≤ 80
line_fits places v from to fits block is entry about =
    let wide = width_of places v + MARK_COLUMNS in
    let text = cell places v (width_of places v) entry in
    let cells = reads-each text wide block (λ k d below. reads-cell places v from fits entry about (slice_index_or block k d) (is.all k d below)) in
    let whole = reads-append (label v entry) (flat_map text block) 20 (wide * length block)
    (reads-label v fits.candidates.1 entry about) cells in
    let read = columns_read (line places v (width_of places v) block entry) (20 + wide * length block) whole in
    let few = room (width_of places v) (length block) (width_narrow places v to fits) is.few in
    omega arith

pub tables_fit : TablesFit
tables_fit places v from to fits =
    let size = ROUND_COLUMNS / (width_of places v + MARK_COLUMNS) in
    let each = cut_fits (λ i. i < length v.rows) (length (rounds_of v.rows)) size (rounds_of v.rows) (rounds_below v.rows) in
    λ k d below.
    let block = slice_index_or (blocks places v) k d in
    All-map (λ text. columns_of text ≤ 80) (line places v (width_of places v) block) (entries (length v.names))
    (λ j e inside. line_fits places v from to fits block (each k d below) (slice_index_or (entries (length v.names)) j e)
    (about_each (length v.names) j e inside))
