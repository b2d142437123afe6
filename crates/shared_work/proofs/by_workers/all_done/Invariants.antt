use Rattle.std.proofs.Common.{◌≡◌, ◌++◌, Some, map}
use Rattle.std.specs.Vec.Iter.{into_iter_items}
use Rattle.shared_work.proofs.by_workers.all_done.Given as goal

abbrev pub invariant-loop-slot : goal.invariant-loop-slot
invariant-loop-slot g l =
    map Some l.all.items ++ map (λ slot. slot.done) (into_iter_items l.slot-iterator)
    ≡ map (λ slot. slot.done) l.fn.slots.items
