use Rattle.std.proofs.Common.{◌≡◌, ◌++◌, map, take, drop, sum_by}
use Rattle.blt_writer.specs.Merge.{had, left}
use Rattle.blt_writer.proofs.merge.take_all.Given as goal

abbrev pub invariant-loop-cursor : goal.invariant-loop-cursor
invariant-loop-cursor l = record {
  taken : l.cursors ≡ map (left l.ranking) (take l.cursor-index l.fn.cursors) ++ drop l.cursor-index l.fn.cursors;
  counted : l.count ≡ sum_by (had l.ranking) (take l.cursor-index l.fn.cursors);
}
