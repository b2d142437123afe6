use Rattle.std.proofs.Common.{◌≡◌, ℕ, ◌<◌, false, slice_index, slice_index_or}
use Rattle.vote_spread.specs.declared.class.Class.{Class}
use Rattle.vote_spread.specs.Class.{class_of}
use Rattle.vote_spread.proofs.keeping.classify.Given as goal

abbrev pub invariant-loop-i : goal.invariant-loop-i
invariant-loop-i l = record {
  so_far : (k : ℕ) (d : Class) → k < l.i → slice_index_or l.classes k d ≡ class_of l.one (slice_index l.keeps k);
  unchanged : l.changed ≡ false → l.classes ≡ l.fn.classes;
}
