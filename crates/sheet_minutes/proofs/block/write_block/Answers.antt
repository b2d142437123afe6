use Rattle.std.proofs.Common.{◌≡◌, ap, refl, subst, ℕ, ◌-◌, List, [], ◌∷◌, ◌++◌, length, map}
use Rattle.std.specs.List.{flat_map, range_with_len}
use Rattle.piece_text.specs.Writing.{Writes}
use Rattle.piece_text.proofs.Written.{later, stops}
use Rattle.sheet_reader.specs.Values.{SheetList}
use Rattle.sheet_text.specs.Lines.{ended}
use Rattle.sheet_minutes.specs.declared.entry.Entry.TheVariants.{Round, Quota, LeftOver, Candidate}
use Rattle.sheet_minutes.specs.Rounds.{rounds_in}
use Rattle.sheet_minutes.specs.Table.{block_text, line}
use Rattle.sheet_minutes.proofs.block.write_block.Goals as goal

-- the lines of the candidates
each_line :
    (places : ℕ) (v : SheetList) (width : ℕ) (block xs : List ℕ)
    → flat_map (λ p. ended (line places v width block (Candidate p))) xs ≡ flat_map ended (map (line places v width block) (map Candidate xs))
each_line places v width block [] = refl
each_line places v width block (p ∷ xs) =
    ap (λ (l : List ℕ). ended (line places v width block (Candidate p)) ++ l) (each_line places v width block xs)

-- a block, part by part
parts :
    (places : ℕ) (v : SheetList) (width : ℕ) (block : List ℕ)
    → (10 ∷ []) ++ (ended (line places v width block Round) ++ (ended (line places v width block Quota) ++ (ended (line places v width block LeftOver)
    ++ flat_map (λ p. ended (line places v width block (Candidate p))) (range_with_len 0 (length v.names)))))
    ≡ block_text places v width block
parts places v width block =
    ap (λ (l : List ℕ). (10 ∷ []) ++ (ended (line places v width block Round) ++ (ended (line places v width block Quota)
    ++ (ended (line places v width block LeftOver) ++ l)))) (each_line places v width block (range_with_len 0 (length v.names)))

pub returns-in_err-write_bytes : goal.returns-in_err-write_bytes
returns-in_err-write_bytes g c =
    subst (λ (l : List ℕ). Writes g.K.Sink.written g.K.Sink.faults c.args.sink.now c.write_bytes.new.sink l
    c.from_residual.result)
    (parts g.row.P c.args.values.now c.args.width (rounds_in c.args.values.now.rows c.args.first (c.args.end - c.args.first)))
    (stops _ _ c.from_residual.ensures.0 c.in_err-write_bytes.ensures)

pub returns-in_err-write_line : goal.returns-in_err-write_line
returns-in_err-write_line g c =
    subst (λ (l : List ℕ). Writes g.K.Sink.written g.K.Sink.faults c.args.sink.now c.write_line.new.sink l
    c.from_residual-in_err-write_line.result)
    (parts g.row.P c.args.values.now c.args.width (rounds_in c.args.values.now.rows c.args.first (c.args.end - c.args.first)))
    (later _ _ _ c.in_ok-write_bytes.ensures
    (stops _ _ c.from_residual-in_err-write_line.ensures.0 c.in_err-write_line.ensures))

pub returns-in_err-write_line-2 : goal.returns-in_err-write_line-2
returns-in_err-write_line-2 g c =
    subst (λ (l : List ℕ). Writes g.K.Sink.written g.K.Sink.faults c.args.sink.now c.write_line-2.new.sink l
    c.from_residual-in_err-write_line-2.result)
    (parts g.row.P c.args.values.now c.args.width (rounds_in c.args.values.now.rows c.args.first (c.args.end - c.args.first)))
    (later _ _ _ c.in_ok-write_bytes.ensures
    (later _ _ _ c.in_ok-write_line.ensures
    (stops _ _ c.from_residual-in_err-write_line-2.ensures.0 c.in_err-write_line-2.ensures)))

pub returns-in_err-write_line-3 : goal.returns-in_err-write_line-3
returns-in_err-write_line-3 g c =
    subst (λ (l : List ℕ). Writes g.K.Sink.written g.K.Sink.faults c.args.sink.now c.write_line-3.new.sink l
    c.from_residual-in_err-write_line-3.result)
    (parts g.row.P c.args.values.now c.args.width (rounds_in c.args.values.now.rows c.args.first (c.args.end - c.args.first)))
    (later _ _ _ c.in_ok-write_bytes.ensures
    (later _ _ _ c.in_ok-write_line.ensures
    (later _ _ _ c.in_ok-write_line-2.ensures
    (stops _ _ c.from_residual-in_err-write_line-3.ensures.0 c.in_err-write_line-3.ensures))))

pub returns : goal.returns
returns g c =
    subst (λ (l : List ℕ). Writes g.K.Sink.written g.K.Sink.faults c.args.sink.now c.write_candidates.new.sink l
    c.write_candidates.result)
    (parts g.row.P c.args.values.now c.args.width (rounds_in c.args.values.now.rows c.args.first (c.args.end - c.args.first)))
    (later _ _ _ c.in_ok-write_bytes.ensures
    (later _ _ _ c.in_ok-write_line.ensures
    (later _ _ _ c.in_ok-write_line-2.ensures
    (later _ _ _ c.in_ok-write_line-3.ensures
    c.write_candidates.ensures))))
