-- A caller's seats while it holds all turns, and after it gave them back.
use Rattle.std.proofs.Common.{◌≡◌, ℕ, ◌+◌, ◌≤◌, true, false, List, [], ◌∷◌, ◌++◌, length, sym, ap, ◌∙◌, arith, append-nil}
use Rattle.std.specs.Prelude.{slice_get, Some}
use Rattle.shard_office.specs.declared.window.Window.{Window}
use Rattle.turn_lock.specs.Entries.{Begins}
use Rattle.turn_lock.specs.Sights.{Sight as SeatSight}
use Rattle.shard_office.specs.declared.shard_value.ShardName.{ShardName}
use Rattle.shard_office.specs.Office.{OfficeState}
use Rattle.shard_office.specs.Values.{SeenShard}
use Rattle.shard_office.specs.Names.{shard_name}
use Rattle.shard_office.specs.Sight.{by_shard}
use Rattle.shard_office.specs.Passes.{ShardSeat, RegisterSeat, lists_of, AreAt}
use Rattle.shard_office.specs.Moves.{Looked, Gave, Looks}
use Rattle.shard_office.specs.Turned.{AreOf, AreTied, Took, GaveBack, AreHeld, TookTurns, GaveTurns}
use Rattle.shard_office.specs.Turned.{AreNamed, entries_held}
use Rattle.shard_office.proofs.Places.{get_lt, get_some, map_each}

pub seats_of :
    (o : OfficeState) (p : ℕ) (seats : List ShardSeat) (r : RegisterSeat) → AreAt o p seats r
    → AreOf o.identity.windows seats
seats_of o p seats r are i w s ew e = ((are.shards i s e).window w ew).lock

-- a turn that was taken and given back
looked_by : (x m y : ShardSeat) → Took x m → GaveBack m y → Looked x y
looked_by x m y took gave = (
  took.begins.0,
  gave.same ∙ ((λ k. record (took.same k) { holds = false }) ∙ (λ k. record x { holds = false; seen = took.begins.1 k })),
)

pub looks_by :
    (n : ℕ) (olds mids news : List ShardSeat) → length olds ≤ n → TookTurns n olds mids
    → GaveTurns 0 mids news → Looks olds news
looks_by n olds mids news few taken given = record {
  len = given.len ∙ taken.len;
  each = λ i x y ex ey.
      let lt = get_lt olds i x ex in
      let len = taken.len in
      let m = get_some mids i (omega arith) in
      let took = taken.taken i x m.0 (omega arith) ex m.1 in
      let gave = given.given i m.0 y (omega arith) m.1 ey in
      (looked_by x m.0 y took gave, gave.knows);
}

-- what holds of the values that these seats hold, one for each shard
pub record AllHeld (o : OfficeState) (mids : List ShardSeat) (held : List SeenShard) : Type 0 where
  pub named : AreNamed o.shards o.candidates held
  pub ties : AreTied o.identity.windows held
  pub seen :
      (news : List ShardSeat) → GaveTurns 0 mids news
      → by_shard (lists_of news) ≡ by_shard (entries_held held)

module _ (o : OfficeState) (p : ℕ) (olds mids : List ShardSeat) (r : RegisterSeat) (held : List SeenShard)
    (are : AreAt o p olds r) (all : length o.identity.windows ≡ o.shards)
    (taken : TookTurns o.shards olds mids) (len : length held ≡ o.shards) (by : AreHeld held mids) where
  -- the name of a value that is held
  name_is :
      (i : ℕ) (w : Window) (v : SeenShard) → slice_get o.identity.windows i ≡ Some w
      → slice_get held i ≡ Some v → shard_name v ≡ record { shard = i + 1; shards = o.shards; candidates = o.candidates; tie = w.tie }
  name_is i w v ew e =
      let lt = get_lt held i v e in
      let count = are.count in
      let mid = taken.len in
      let x = get_some olds i (omega arith) in
      let m = get_some mids i (omega arith) in
      let took = taken.taken i x.0 m.0 (omega arith) x.1 m.1 in
      let same :
      Some (shard_name v)
      ≡ Some (record { shard = i + 1; shards = o.shards; candidates = o.candidates; tie = w.tie }) =
      sym (by i v m.0 e m.1).name
      ∙ (ap (λ z. z.name) took.same ∙ ((are.shards i x.0 x.1).window w ew).name) in
      cc same

  held_named : AreNamed o.shards o.candidates held
  held_named i v e =
      let lt = get_lt held i v e in
      let w = get_some o.identity.windows i (omega arith) in
      let n = name_is i w.0 v w.1 e in
      record {
        shard = ap (λ (k : ShardName). k.shard) n;
        of_shards = ap (λ (k : ShardName). k.shards) n;
        of_candidates = ap (λ (k : ShardName). k.candidates) n;
      }

  held_ties : AreTied o.identity.windows held
  held_ties i w v ew e = ap (λ (k : ShardName). k.tie) (name_is i w v ew e)

  -- what was seen in the end is what was held
  held_seen :
      (news : List ShardSeat) → GaveTurns 0 mids news
      → by_shard (lists_of news) ≡ by_shard (entries_held held)
  held_seen news given = ap by_shard (map_each (λ (s : ShardSeat). s.seen) (λ (w : SeenShard). w.book.entries) news held
      (let a = are.count in let b = taken.len in let c = given.len in omega arith)
      (λ i y v ey ev.
      let lt = get_lt news i y ey in
      let n = given.len in
      let m = get_some mids i (omega arith) in
      ap (λ z. z.seen) (given.given i m.0 y (omega arith) m.1 ey).same ∙ sym (by i v m.0 ev m.1).entries))

  pub all_held : AllHeld o mids held
  all_held = record { named = held_named; ties = held_ties; seen = held_seen }

module _ {E N : Type 0} where
  -- a turn, taken and given back with an entry
  pub turn_gave :
      (r m r' : SeatSight E N) (log new : List E) (e : E) → m ≡ record r { holds = true; seen = log }
      → Begins r.seen log → r' ≡ record m { holds = false; seen = new; mine = r'.mine } → new ≡ log ++ e ∷ []
      → r'.mine ≡ m.mine ++ e ∷ [] → Gave r r' e
  turn_gave r m r' log new e taken begins given more mine = (
    begins.0,
    given
        ∙ ((λ k. record (taken k) { holds = false; seen = new; mine = r'.mine })
        ∙ (λ k. record r {
          holds = false;
          seen = (more ∙ ap (λ l. l ++ e ∷ []) begins.1) k;
          mine = (mine ∙ ap (λ z. z.mine ++ e ∷ []) taken) k;
        })),
  )

  -- a turn, taken and given back
  pub turn_looked :
      (r m r' : SeatSight E N) (log : List E) → m ≡ record r { holds = true; seen = log } → Begins r.seen log
      → r' ≡ record m { holds = false } → Looked r r'
  turn_looked r m r' log taken begins given = (
    begins.0,
    given
        ∙ ((λ k. record (taken k) { holds = false }) ∙ (λ k. record r { holds = false; seen = begins.1 k })),
  )

  -- no turn was taken
  pub none_looked : (r : SeatSight E N) → r.holds ≡ false → Looked r r
  none_looked r free = ([], λ k. record r { holds = free k; seen = sym (append-nil r.seen) k })

-- but for what it has seen and given a seat is as it was
module _ {E N : Type 0} where
  pub gave_still :
      (x y : SeatSight E N) (e : E) → Gave x y e
      → y ≡ record x { holds = false; seen = y.seen; mine = y.mine }
  gave_still x y e gave =
      gave.1
      ∙ (λ k. record x {
        holds = false;
        seen = sym (ap (λ (z : SeatSight E N). z.seen) gave.1) k;
        mine = sym (ap (λ (z : SeatSight E N). z.mine) gave.1) k;
      })

  pub looked_still :
      (x y : SeatSight E N) → Looked x y → y ≡ record x { holds = false; seen = y.seen; mine = y.mine }
  looked_still x y looked =
      looked.1
      ∙ (λ k. record x {
        holds = false;
        seen = sym (ap (λ (z : SeatSight E N). z.seen) looked.1) k;
        mine = sym (ap (λ (z : SeatSight E N). z.mine) looked.1) k;
      })
