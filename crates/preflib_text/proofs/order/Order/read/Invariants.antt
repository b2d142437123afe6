use Rattle.std.proofs.Common.{◌≡◌, ◌+◌, ◌-◌, ◌≤◌, length}
use Rattle.preflib_text.specs.Parts.{parts}
use Rattle.preflib_text.specs.Reading.{parts_from, IsFresh}
use Rattle.preflib_text.specs.Standing.{starting, read}
use Rattle.preflib_text.proofs.order.Order.read.Given as goal

-- the parts so far say what is kept, and the others are still to come
abbrev pub invariant-loop-kind : goal.invariant-loop-kind
invariant-loop-kind l = record {
  inside : l.from ≤ length l.bytes;
  fresh : IsFresh l.bytes l.from;
  candidates : l.self.candidates ≡ l.fn.self.candidates;
  so_far : read l.room (starting l.fn.self.candidates) (parts l.bytes)
      ≡ read l.room l.self (parts_from l.bytes l.from);
}

abbrev pub decreases-loop-kind : goal.decreases-loop-kind
decreases-loop-kind l = length l.bytes + 1 - l.from
