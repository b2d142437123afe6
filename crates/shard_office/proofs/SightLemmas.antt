-- Sights that go on, one after another.
use Rattle.std.proofs.Common.{List, ◌++◌, ap, ◌∙◌, append_assoc}
use Rattle.turn_lock.specs.Entries.{Begins}
use Rattle.shard_office.specs.Sight.{Sight, entries_of, GoesOn}

pub begins_on : {A : Type 0} (xs ys zs : List A) → Begins xs ys → Begins ys zs → Begins xs zs
begins_on xs ys zs a b = (a.0 ++ b.0, b.1 ∙ (ap (λ l. l ++ b.0) a.1 ∙ append_assoc xs a.0 b.0))

pub goes_further : (a b c : Sight) → GoesOn a b → GoesOn b c → GoesOn a c
goes_further a b c ab bc = record {
  marks = begins_on a.marks b.marks c.marks ab.marks bc.marks;
  entries = λ s. begins_on (entries_of a s) (entries_of b s) (entries_of c s) (ab.entries s) (bc.entries s);
  shards = bc.shards ∙ ab.shards;
}
