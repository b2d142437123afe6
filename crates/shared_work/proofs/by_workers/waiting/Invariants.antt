use Rattle.std.proofs.Common.{◌≡◌, ◌++◌, Some, map}
use Rattle.std.specs.Vec.Iter.{into_iter_items}
use Rattle.shared_work.proofs.by_workers.waiting.Given as goal

abbrev pub invariant-loop-piece : goal.invariant-loop-piece
invariant-loop-piece g l =
    map (λ slot. slot.work) l.slots.items ++ map Some (into_iter_items l.piece-iterator) ≡ map Some l.fn.work.items
