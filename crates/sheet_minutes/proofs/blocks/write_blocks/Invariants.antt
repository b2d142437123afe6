use Rattle.std.proofs.Common.{◌≡◌, ◌-◌, ◌≤◌, ℕ, List, ◌++◌, length}
use Rattle.std.specs.List.{flat_map}
use Rattle.piece_text.specs.Writing.{Wrote}
use Rattle.sheet_minutes.specs.Rounds.{cut, rounds_in}
use Rattle.sheet_minutes.specs.Table.{block_text, blocks, width_of}
use Rattle.sheet_minutes.proofs.blocks.write_blocks.Given as goal

-- some blocks were written, and those of the rounds from here on are still to come
abbrev pub invariant-loop-first : goal.invariant-loop-first
invariant-loop-first g l =
    (l.first ≤ length l.values.rows)
    × ((done : List ℕ)
    × (done ++ flat_map (block_text g.row.P l.values l.width) (cut l.size (rounds_in l.values.rows l.first (length l.values.rows - l.first)))
    ≡ flat_map (block_text g.row.P l.values (width_of g.row.P l.values)) (blocks g.row.P l.values))
    × Wrote g.K.Sink.written g.K.Sink.faults l.initial.sink l.sink done)

abbrev pub decreases-loop-first : goal.decreases-loop-first
decreases-loop-first g l = length l.values.rows - l.first
