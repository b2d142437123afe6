use Rattle.std.proofs.Common.{◌≡◌, ◌≤◌, map, All, length}
use Rattle.import_words.specs.Labels.{IsLabel}
use Rattle.import_words.proofs.reading.rank_list.Given as goal

-- the labels are the pieces so far, each of them a label
abbrev pub invariant-loop-piece : goal.invariant-loop-piece
invariant-loop-piece l = record {
  same : l.labels ≡ map (λ piece. piece.now) l.yielded;
  labels : All IsLabel (map (λ piece. piece.now) l.yielded);
  few : length l.yielded ≤ 250;
}
