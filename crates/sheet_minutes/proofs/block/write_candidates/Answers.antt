use Rattle.std.proofs.Common.{◌≡◌, ap, arith, subst, ℕ, ◌-◌, List, length}
use Rattle.std.specs.List.{flat_map, range_with_len}
use Rattle.piece_text.specs.Writing.{Wrote}
use Rattle.piece_text.proofs.Written.{wrote_nothing}
use Rattle.sheet_reader.specs.Values.{SheetList}
use Rattle.sheet_text.specs.Lines.{ended}
use Rattle.sheet_minutes.specs.declared.entry.Entry.TheVariants.{Candidate}
use Rattle.sheet_minutes.specs.Rounds.{rounds_in}
use Rattle.sheet_minutes.specs.Table.{line}
use Rattle.sheet_minutes.proofs.Growing.{grew, stopped}
use Rattle.sheet_minutes.proofs.Ranges.{flat_map-places_more}
use Rattle.sheet_minutes.proofs.block.write_candidates.Goals as goal

-- the line of a candidate
abbrev own : (places : ℕ) → SheetList → (width first end : ℕ) → (p : ℕ) → List ℕ
own places v width first end p = ended (line places v width (rounds_in v.rows first (end - first)) (Candidate p))

pub loop-p-init : goal.loop-p-init
loop-p-init g c = wrote_nothing _ _ _

pub loop-p-preserved : goal.loop-p-preserved
loop-p-preserved g c =
    let h = own g.row.P c.args.values.now c.args.width c.args.first c.args.end in
    grew (λ n. flat_map h (range_with_len 0 n)) h (flat_map-places_more h) c.loop-p.p c.loop-p.invariant
    c.in_ok-write_line.ensures

pub returns-in_err-write_line : goal.returns-in_err-write_line
returns-in_err-write_line g c =
    let h = own g.row.P c.args.values.now c.args.width c.args.first c.args.end in
    let size = ap (λ (v : SheetList). length v.names) c.values.view_is in
    stopped (λ n. flat_map h (range_with_len 0 n)) h (flat_map-places_more h) c.loop-p.p
    (length c.args.values.now.names) c.from_residual.result (omega (arith, size)) c.from_residual.ensures.0
    c.loop-p.invariant c.in_err-write_line.ensures

pub returns : goal.returns
returns g c =
    let h = own g.row.P c.args.values.now c.args.width c.args.first c.args.end in
    let size = ap (λ (v : SheetList). length v.names) c.values.view_is in
    let all : c.loop-p.p ≡ length c.args.values.now.names = omega (arith, size) in
    subst (λ (n : ℕ). Wrote g.K.Sink.written g.K.Sink.faults c.args.sink.now c.loop-p.sink (flat_map h (range_with_len 0 n))) all
    c.loop-p.invariant
