-- The clerk's seats once they took in those of a pass.
use Rattle.std.proofs.Common.{◌≡◌, ℕ, zero, suc, ◌+◌, ◌<◌, ◌≤◌, get_or, false, List, [], ◌∷◌, ◌++◌, length}
use Rattle.std.proofs.Common.{refl, sym, ap, ◌∙◌, subst, ⊎_elim, arith, Option}
use Rattle.std.specs.Prelude.{slice_get, Some}
use Rattle.turn_lock.specs.Entries.{Begins}
use Rattle.turn_lock.specs.Sights.{Sight as SeatSight, KnowsOwn}
use Rattle.shard_office.specs.Owners.{owner_of_entry, owner_of_mark}
use Rattle.shard_office.specs.Office.{OfficeState}
use Rattle.shard_office.specs.Sight.{entries_of, calls_in, GoesOn}
use Rattle.shard_office.specs.Moves.{WentOn, GoOn}
use Rattle.shard_office.specs.Passes.{PassState, ShardSeat, RegisterSeat, lists_of, sight_of, mine_of, AreAt}
use Rattle.shard_office.specs.Clerk.{IsFirst, IsTaken, AreFirst}
use Rattle.shard_office.specs.Meeting.{TookIn, HaveJoined}
use Rattle.std.proofs.lemmas.Bool.{cases_lt}
use Rattle.std.proofs.lemmas.List.{get_or_past}
use Rattle.shard_office.proofs.Places.{get_lt, get_some, get_map, length_map}
use Rattle.shard_office.proofs.Lists.{read_at, seen_at}
use Rattle.shard_office.proofs.TurnLists.{get_push}
use Rattle.shard_office.proofs.Mine.{nothing-mine}
use Rattle.shard_office.proofs.Marked.{all_looked-at, all_looked-own, all_looked-on}
use Rattle.shard_office.proofs.NumberLemmas.{has_below}
use Rattle.shard_office.proofs.FirstSeats.{still_taken, first_after_join}

went_join : {E N : Type 0} (owner : E → Option ℕ) (x t y : SeatSight E N) → TookIn owner x t y → x.holds ≡ false → WentOn x y
went_join owner x t y took free = record {
  between = took.begins.0;
  seen = took.begins.1;
  lock = ap (λ z. z.lock) took.same;
  name = ap (λ z. z.name) took.same;
  numbered = ap (λ z. z.caller) took.same;
  free = ap (λ z. z.holds) took.same ∙ free;
  mine = ap (λ z. z.mine) took.same;
}

-- what holds of the clerk's seats, which took in those of a pass of this caller
pub record Joined (o : OfficeState) (last fewer : ℕ) (taken : List PassState)
    (seats others news : List ShardSeat) (r ro r' : RegisterSeat) (p : ℕ) : Type 0 where
  pub first :
      AreFirst o last fewer (taken
      ++ record { office = o; caller = p; sight = sight_of others ro; mine = mine_of others ro } ∷ [])
      news r'
  pub on : GoesOn (sight_of seats r) (sight_of news r')
  pub other : GoesOn (sight_of others ro) (sight_of news r')
  pub own : calls_in 0 (sight_of news r') ≡ calls_in 0 (sight_of seats r)
  pub mine : mine_of news r' ≡ mine_of seats r

-- the clerk took in the pass of caller p whose seats are others and ro
module _ (o : OfficeState) (last teams fewer : ℕ) (taken : List PassState)
    (seats others news : List ShardSeat) (r ro r' : RegisterSeat) (p : ℕ)
    (are : AreFirst o last teams taken seats r) (at : AreAt o p others ro)
    (each : HaveJoined 0 seats others news) (took : TookIn owner_of_mark r ro r') (less : fewer + 1 ≡ teams) where
  abbrev Q : PassState
  Q = record { office = o; caller = p; sight = sight_of others ro; mine = mine_of others ro }

  seat_took :
      (i : ℕ) (x y : ShardSeat) → slice_get seats i ≡ Some x → slice_get news i ≡ Some y
      → (t : ShardSeat) × (slice_get others i ≡ Some t) × TookIn owner_of_entry x t y
  seat_took i x y ex ey =
      let lt = get_lt seats i x ex in
      let a = are.at.count in
      let b = at.count in
      let t = get_some others i (omega arith) in
      (t.0, t.1, each.joined i x t.0 y (omega arith) ex t.1 ey)

  goes : GoOn seats news
  goes = record {
    len = each.len;
    each =
        λ i x y ex ey. let t =
        seat_took i x y ex ey in
        (went_join owner_of_entry x t.0 y t.2 (are.at.shards i x ex).free, t.2.knows);
  }

  went_r : WentOn r r'
  went_r = went_join owner_of_mark r ro r' took are.at.registered.free

  pub joined-on : GoesOn (sight_of seats r) (sight_of news r')
  joined-on = all_looked-on o 0 seats news r r' are.at goes took.knows went_r

  pub joined-own : calls_in 0 (sight_of news r') ≡ calls_in 0 (sight_of seats r)
  joined-own = all_looked-own o 0 seats news r r' are.at goes took.knows went_r

  pub joined-mine : mine_of news r' ≡ mine_of seats r
  joined-mine = nothing-mine seats news r r' goes went_r.mine

  below : (1 ≤ p) × (p < last + 1)
  below =
      let h =
      has_below ro.caller (last + 1) r.out are.registered.falling took.was_out in
      let e = at.registered.numbered in (omega arith, omega arith)

  -- the other had seen nothing that the clerk has not seen now
  other_at : (i : ℕ) → Begins (get_or (lists_of others) i []) (get_or (lists_of news) i [])
  other_at i = ⊎_elim
      (λ (lt : i < length seats).
      let a = are.at.count in
      let b = at.count in
      let c = each.len in
      let x = get_some seats i lt in
      let y = get_some news i (omega arith) in
      let t = seat_took i x.0 y.0 x.1 y.1 in (
        t.2.others.0,
        read_at (lists_of news) i y.0.seen [] (get_map (λ (s : ShardSeat). s.seen) news i y.0 y.1)
            ∙ (t.2.others.1
            ∙ ap (λ l. l ++ t.2.others.0) (sym (read_at (lists_of others) i t.0.seen []
            (get_map (λ (s : ShardSeat). s.seen) others i t.0 t.1)))),
      ))
      (λ (le : length seats ≤ i).
      let a = are.at.count in
      let b = at.count in
      let c = each.len in
      let m = length_map (λ (s : ShardSeat). s.seen) others in
      let n = length_map (λ (s : ShardSeat). s.seen) news in (
        [],
        get_or_past (lists_of news) i [] (omega arith)
            ∙ ap (λ l. l ++ []) (sym (get_or_past (lists_of others) i [] (omega arith))),
      ))
      (cases_lt i (length seats))

  pub other-on : GoesOn (sight_of others ro) (sight_of news r')
  other-on = record {
    marks = took.others;
    entries = entries;
    shards =
        (let a =
        are.at.count in
        let b =
        at.count in
        let c =
        each.len in
        let m =
        length_map (λ (s : ShardSeat). s.seen) others in
        let n = length_map (λ (s : ShardSeat). s.seen) news in omega arith);
  }
    where
      entries : (s : ℕ) → Begins (entries_of (sight_of others ro) s) (entries_of (sight_of news r') s)
      entries zero = ([], refl)
      entries (suc i) = other_at i

  pub joined-first : AreFirst o last fewer (taken ++ Q ∷ []) news r'
  joined-first = record {
    at = all_looked-at o 0 seats news r r' are.at goes took.knows went_r;
    shards = λ i y ey.
        let lt = get_lt news i y ey in
        let c = each.len in
        let x = get_some seats i (omega arith) in
        let t = seat_took i x.0 y x.1 ey in
        let knows : KnowsOwn owner_of_entry t.0 = (at.shards i t.0 t.1).knows in
        subst (IsFirst owner_of_entry (λ q. entries_of q.sight (i + 1)) last fewer (taken ++ Q ∷ [])) (sym t.2.same)
        (first_after_join owner_of_entry (λ q. entries_of q.sight (i + 1)) last teams taken x.0 t.0 Q
        (are.shards i x.0 x.1) (at.shards i t.0 t.1).numbered (sym (seen_at others i t.0 t.1)) knows
        t.2.was_out fewer less);
    registered = subst (IsFirst owner_of_mark (λ q. q.sight.marks) last fewer (taken ++ Q ∷ [])) (sym took.same)
        (first_after_join owner_of_mark (λ q. q.sight.marks) last teams taken r ro Q are.registered
        at.registered.numbered refl at.registered.knows took.was_out fewer less);
    passes = λ k q e. ⊎_elim
        (λ (h : (k ≡ length taken) × (Q ≡ q)). subst (IsTaken o (sight_of news r')) h.1
        (record { office = refl; some = below.0; begins = other-on; marked = at.marked }))
        (λ (h : (k < length taken) × (slice_get taken k ≡ Some q)).
        still_taken o (sight_of seats r) (sight_of news r') q (are.passes k q h.1) joined-on)
        (get_push taken Q k q e);
    given = λ k q e. ⊎_elim
        (λ (h : (k ≡ length taken) × (Q ≡ q)). subst (λ (z : PassState). z.caller ≤ last) h.1
        (let b = below.1 in omega arith))
        (λ (h : (k < length taken) × (slice_get taken k ≡ Some q)). are.given k q h.1)
        (get_push taken Q k q e);
  }

  pub joined : Joined o last fewer taken seats others news r ro r' p
  joined = record { first = joined-first; on = joined-on; other = other-on; own = joined-own; mine = joined-mine }
