use Rattle.std.proofs.Common.{◌≡◌, ◌∙◌, ap, sym, subst, arith, append-nil, [], ℕ, ◌+◌, ◌-◌, ◌/◌, ◌<◌, ◌≤◌, List, ◌++◌, append_assoc, drop, length, take}
use Rattle.std.specs.List.{flat_map}
use Rattle.meek_rule.specs.Row.{Row}
use Rattle.piece_text.specs.Writing.{Writes, Wrote}
use Rattle.piece_text.proofs.Written.{stopped_later, stops, wrote_later, wrote_nothing}
use Rattle.sheet_reader.specs.Values.{SheetList}
use Rattle.sheet_minutes.specs.declared.columns.TheConstants.{MARK_COLUMNS, ROUND_COLUMNS}
use Rattle.sheet_minutes.specs.Rounds.{cut, rounds_in}
use Rattle.sheet_minutes.specs.Table.{block_text, blocks, width_of}
use Rattle.sheet_minutes.proofs.Cuts.{text-step}
use Rattle.sheet_minutes.proofs.Ends.{some_round}
use Rattle.sheet_minutes.proofs.Measures.{some_room}
use Rattle.sheet_minutes.proofs.blocks.write_blocks.Goals as goal

-- a block and those after it are the blocks from there on
next_block :
    (places : ℕ) (v : SheetList) (width first end : ℕ) (items : List Row) → items ≡ v.rows → width ≤ 20 → first < length items
    → rounds_in items first (end - first) ≡ take (ROUND_COLUMNS / (width + MARK_COLUMNS)) (rounds_in items first (length items - first))
    → rounds_in items end (length items - end) ≡ drop (ROUND_COLUMNS / (width + MARK_COLUMNS)) (rounds_in items first (length items - first))
    → block_text places v width (rounds_in v.rows first (end - first))
    ++ flat_map (block_text places v width) (cut (ROUND_COLUMNS / (width + MARK_COLUMNS)) (rounds_in v.rows end (length v.rows - end)))
    ≡ flat_map (block_text places v width) (cut (ROUND_COLUMNS / (width + MARK_COLUMNS)) (rounds_in v.rows first (length v.rows - first)))
next_block places v width first end items same narrow below block others =
    let size = ROUND_COLUMNS / (width + MARK_COLUMNS) in
    let rows = v.rows in
    text-step (block_text places v width) size (rounds_in rows first (length rows - first)) (rounds_in rows first (end - first))
    (rounds_in rows end (length rows - end)) (some_room width narrow)
    (some_round rows first (subst (λ (l : List Row). first < length l) same below))
    (subst (λ (l : List Row). rounds_in l first (end - first) ≡ take size (rounds_in l first (length l - first))) same block)
    (subst (λ (l : List Row). rounds_in l end (length l - end) ≡ drop size (rounds_in l first (length l - first))) same others)

pub returns-in_err-write_block : goal.returns-in_err-write_block
returns-in_err-write_block g c =
    let v = c.args.values.now in
    let first = c.loop-first.first in
    let end = c.block_end-end.result in
    let width = c.width_of-width.result in
    let size = ROUND_COLUMNS / (width + MARK_COLUMNS) in
    let now = c.loop-first.invariant.1 in
    let rows = c.items.ensures ∙ ap (λ (w : SheetList). w.rows) c.values.view_is in
    let step = next_block g.row.P v width first end c.items.result.now rows c.width_of-width.ensures.narrow (omega (arith, ap length rows))
    c.block_end-end.ensures.block c.block_end-end.ensures.rest in
    let block = block_text g.row.P v width (rounds_in v.rows first (end - first)) in
    let others = flat_map (block_text g.row.P v width) (cut size (rounds_in v.rows end (length v.rows - end))) in
    let whole : (now.0 ++ block) ++ others ≡ flat_map (block_text g.row.P v (width_of g.row.P v)) (blocks g.row.P v) =
    append_assoc now.0 block others ∙ ap (λ (l : List ℕ). now.0 ++ l) step ∙ now.1 in
    subst (λ (l : List ℕ). Writes g.K.Sink.written g.K.Sink.faults c.args.sink.now c.write_block.new.sink l
    c.from_residual.result) whole
    (stops others c.from_residual.result c.from_residual.ensures.0 (stopped_later now.2 c.in_err-write_block.ensures))

pub loop-first-preserved : goal.loop-first-preserved
loop-first-preserved g c =
    let v = c.args.values.now in
    let first = c.loop-first.first in
    let end = c.block_end-end.result in
    let width = c.width_of-width.result in
    let size = ROUND_COLUMNS / (width + MARK_COLUMNS) in
    let now = c.loop-first.invariant.1 in
    let rows = c.items.ensures ∙ ap (λ (w : SheetList). w.rows) c.values.view_is in
    let step = next_block g.row.P v width first end c.items.result.now rows c.width_of-width.ensures.narrow (omega (arith, ap length rows))
    c.block_end-end.ensures.block c.block_end-end.ensures.rest in
    let block = block_text g.row.P v width (rounds_in v.rows first (end - first)) in
    let others = flat_map (block_text g.row.P v width) (cut size (rounds_in v.rows end (length v.rows - end))) in (
      omega (arith, ap length rows, c.block_end-end.ensures.within),
      (
        now.0 ++ block,
        append_assoc now.0 block others ∙ ap (λ (l : List ℕ). now.0 ++ l) step ∙ now.1,
        wrote_later now.2 c.in_ok-write_block.ensures,
      ),
    )

pub loop-first-init : goal.loop-first-init
loop-first-init g c =
    let v = c.args.values.now in
    let width = c.width_of-width.result in
    let size = ROUND_COLUMNS / (width + MARK_COLUMNS) in
    let all : length v.rows - 0 ≡ length v.rows = omega arith in (
      omega arith,
      (
        [],
        ap (λ (n : ℕ). flat_map (block_text g.row.P v width) (cut size (rounds_in v.rows 0 n))) all
            ∙ ap (λ (w : ℕ). flat_map (block_text g.row.P v w) (cut (ROUND_COLUMNS / (w + MARK_COLUMNS)) (rounds_in v.rows 0 (length v.rows))))
            c.width_of-width.ensures.width,
        wrote_nothing _ _ _,
      ),
    )

pub returns : goal.returns
returns g c =
    let v = c.args.values.now in
    let width = c.width_of-width.result in
    let size = ROUND_COLUMNS / (width + MARK_COLUMNS) in
    let now = c.loop-first.invariant.1 in
    let count = ap (λ (w : SheetList). length w.rows) c.values.view_is in
    let none : 0 ≡ length v.rows - c.loop-first.first = omega (arith, count) in
    subst (λ (l : List ℕ). Wrote g.K.Sink.written g.K.Sink.faults c.args.sink.now c.loop-first.sink l)
    (sym (append-nil now.0)
    ∙ ap (λ (n : ℕ). now.0 ++ flat_map (block_text g.row.P v width) (cut size (rounds_in v.rows c.loop-first.first n))) none
    ∙ now.1) now.2
