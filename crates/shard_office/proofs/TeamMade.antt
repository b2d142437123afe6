-- The clerk's seats once they made those of a new pass, and the new ones.
use Rattle.std.proofs.Common.{◌≡◌, ℕ, zero, suc, ◌+◌, ◌<◌, ◌≤◌, List, [], length, refl, sym, ap, ◌∙◌, subst, ⊎_elim, arith}
use Rattle.std.specs.Prelude.{slice_get, Some}
use Rattle.turn_lock.specs.Entries.{owned_by, owned}
use Rattle.turn_lock.specs.Sights.{KnowsOwn, new_sight, sight_after_split}
use Rattle.shard_office.specs.Owners.{owner_of_entry, owner_of_mark}
use Rattle.shard_office.specs.Office.{OfficeState}
use Rattle.shard_office.specs.Sight.{Sight, by_shard, entries_of, calls_in, nothing_of}
use Rattle.shard_office.specs.Passes.{PassState, ShardSeat, RegisterSeat, lists_of, sight_of, mine_of, AreAt}
use Rattle.shard_office.specs.Clerk.{IsFirst, IsTaken, AreFirst}
use Rattle.shard_office.specs.Meeting.{HaveSplit}
use Rattle.call_register.specs.Marks.{marks_of}
use Rattle.call_register.specs.Walk.{left, NoneBy, NoMarkBy}
use Rattle.call_register.proofs.Sights.{left_is}
use Rattle.std.proofs.lemmas.Bool.{cases_lt}
use Rattle.std.proofs.lemmas.List.{get_or_past}
use Rattle.shard_office.proofs.Places.{get_lt, get_some, get_map, length_map, map_each}
use Rattle.shard_office.proofs.Lists.{read_at}
use Rattle.shard_office.proofs.Owned.{owned_are_calls, owned_are_marks}
use Rattle.call_register.proofs.OwnCalls.{calls_stay}
use Rattle.shard_office.proofs.Growing.{none_drop}
use Rattle.shard_office.proofs.Mine.{new-mine}
use Rattle.shard_office.proofs.Called.{still_at_shard, still_at_register}
use Rattle.shard_office.proofs.FirstSeats.{first_after_split}

-- what holds of the clerk's seats, and of those that they made for the pass of this caller
pub record IsMade (o : OfficeState) (last teams caller : ℕ) (taken : List PassState)
    (seats news made : List ShardSeat) (r r' rm : RegisterSeat) : Type 0 where
  pub first : AreFirst o caller (teams + 1) taken news r'
  pub sight : sight_of news r' ≡ sight_of seats r
  pub mine : mine_of news r' ≡ mine_of seats r
  pub at : AreAt o caller made rm
  pub seen : sight_of made rm ≡ sight_of seats r
  pub nothing : mine_of made rm ≡ nothing_of (sight_of seats r)
  pub own : calls_in caller (sight_of made rm) ≡ []

-- the clerk made seats for the pass of this caller
module _ (o : OfficeState) (last teams caller : ℕ) (taken : List PassState) (seats news made : List ShardSeat)
    (r r' rm : RegisterSeat) (are : AreFirst o last teams taken seats r) (above : last < caller)
    (split : HaveSplit o.shards caller seats news made) (same : r' ≡ sight_after_split r caller)
    (new : rm ≡ new_sight r caller) (knows : KnowsOwn owner_of_mark rm) where
  split_at :
      (i : ℕ) (x y : ShardSeat) → slice_get seats i ≡ Some x → slice_get news i ≡ Some y
      → y ≡ sight_after_split x caller
  split_at i x y ex ey = let lt = get_lt seats i x ex in let a = are.at.count in split.split i x y (omega arith) ex ey

  seat_split :
      (i : ℕ) (y : ShardSeat) → slice_get news i ≡ Some y
      → (x : ShardSeat) × (slice_get seats i ≡ Some x) × (y ≡ sight_after_split x caller)
  seat_split i y ey =
      let lt = get_lt news i y ey in
      let c = split.len in
      let a = are.at.count in
      let x = get_some seats i (omega arith) in
      (x.0, x.1, split.split i x.0 y (omega arith) x.1 ey)

  -- nothing was seen that had not been seen before
  split-sight : sight_of news r' ≡ sight_of seats r
  split-sight = λ k. record {
    marks = ap (λ z. z.seen) same k;
    lists =
        map_each (λ (s : ShardSeat). s.seen) (λ (s : ShardSeat). s.seen) news seats split.len
        (λ i y x ey ex. ap (λ z. z.seen) (split_at i x y ex ey)) k;
  }

  split-mine : mine_of news r' ≡ mine_of seats r
  split-mine = λ k. record {
    marks = ap (λ z. z.mine) same k;
    lists =
        map_each (λ (s : ShardSeat). s.mine) (λ (s : ShardSeat). s.mine) news seats split.len
        (λ i y x ey ex. ap (λ z. z.mine) (split_at i x y ex ey)) k;
  }

  split-first : AreFirst o caller (teams + 1) taken news r'
  split-first = record {
    at = record {
      count = split.len ∙ are.at.count;
      shards = λ i y ey.
          let x = seat_split i y ey in
          let knew : KnowsOwn owner_of_entry x.0 = (are.at.shards i x.0 x.1).knows in
          still_at_shard o 0 i x.0 y (are.at.shards i x.0 x.1) (
            ap (λ z. z.lock) x.2,
            ap (λ z. z.name) x.2,
            ap (λ z. z.caller) x.2,
            ap (λ z. z.holds) x.2 ∙ (are.at.shards i x.0 x.1).free,
          )
          (subst (KnowsOwn owner_of_entry) (sym x.2) knew);
      registered =
          still_at_register o 0 r r' are.at.registered (
            ap (λ z. z.lock) same,
            ap (λ z. z.name) same,
            ap (λ z. z.caller) same,
            ap (λ z. z.holds) same ∙ are.at.registered.free,
          )
          (subst (KnowsOwn owner_of_mark) (sym same) are.at.registered.knows);
      marked = λ t. subst (λ (z : Sight). NoneBy 0 (left z.marks (by_shard z.lists) t)) (sym split-sight) (are.at.marked t);
    };
    shards = λ i y ey.
        let x = seat_split i y ey in
        subst (IsFirst owner_of_entry (λ q. entries_of q.sight (i + 1)) caller (teams + 1) taken) (sym x.2)
        (first_after_split owner_of_entry (λ q. entries_of q.sight (i + 1)) last teams taken x.0 caller
        (are.shards i x.0 x.1) above are.given);
    registered =
        subst (IsFirst owner_of_mark (λ q. q.sight.marks) caller (teams + 1) taken) (sym same)
        (first_after_split owner_of_mark (λ q. q.sight.marks) last teams taken r caller are.registered above
        are.given);
    passes = λ k q e. subst (λ (z : Sight). IsTaken o z q) (sym split-sight) (are.passes k q e);
    given = λ k q e. let le = are.given k q e in omega arith;
  }

  made_len : length made ≡ length seats
  made_len = split.count ∙ sym are.at.count

  made_by :
      (i : ℕ) (m : ShardSeat) → slice_get made i ≡ Some m
      → (x : ShardSeat) × (slice_get seats i ≡ Some x) × (m ≡ new_sight x caller) × KnowsOwn owner_of_entry m
  made_by i m em =
      let lt = get_lt made i m em in
      let n = made_len in
      let x = get_some seats i (omega arith) in
      let is = split.made_by i x.0 m x.1 em in
      (x.0, x.1, is.0, is.1)

  -- the new pass has seen what the clerk has seen
  made-sight : sight_of made rm ≡ sight_of seats r
  made-sight = λ k. record {
    marks = ap (λ z. z.seen) new k;
    lists =
        map_each (λ (s : ShardSeat). s.seen) (λ (s : ShardSeat). s.seen) made seats made_len
        (λ i m x em ex. ap (λ z. z.seen) (split.made_by i x m ex em).0) k;
  }

  -- and made nothing
  made-mine : mine_of made rm ≡ nothing_of (sight_of seats r)
  made-mine = new-mine seats made r rm made_len (λ i m em. ap (λ z. z.mine) (made_by i m em).2) (ap (λ z. z.mine) new)

  none_marked : NoMarkBy caller rm.seen
  none_marked =
      sym (owned_are_marks caller rm.seen)
      ∙ (ap (λ n. owned_by owner_of_mark n rm.seen) (sym (ap (λ z. z.caller) new))
      ∙ (knows ∙ ap (λ z. owned owner_of_mark z.mine) new))

  none_entered : (t : ℕ) → NoneBy caller (by_shard (lists_of made) t)
  none_entered zero = refl
  none_entered (suc i) = ⊎_elim
      (λ (lt : i < length made).
      let m = get_some made i lt in
      let is = made_by i m.0 m.1 in
      let own : owned_by owner_of_entry m.0.caller m.0.seen ≡ owned owner_of_entry m.0.mine = is.3 in
      let none : owned_by owner_of_entry caller m.0.seen ≡ [] =
      ap (λ n. owned_by owner_of_entry n m.0.seen) (sym (ap (λ z. z.caller) is.2))
      ∙ (own ∙ ap (λ z. owned owner_of_entry z.mine) is.2) in
      subst (NoneBy caller)
      (sym (read_at (lists_of made) i m.0.seen [] (get_map (λ (s : ShardSeat). s.seen) made i m.0 m.1)))
      (sym (owned_are_calls caller m.0.seen) ∙ none))
      (λ (le : length made ≤ i). subst (NoneBy caller) (sym (get_or_past (lists_of made) i []
      (let n = length_map (λ (s : ShardSeat). s.seen) made in omega arith))) refl)
      (cases_lt i (length made))

  made-own : calls_in caller (sight_of made rm) ≡ []
  made-own = calls_stay caller [] rm.seen (λ t. []) (by_shard (lists_of made)) none_marked (λ t. refl) none_entered

  made-at : AreAt o caller made rm
  made-at = record {
    count = split.count;
    shards = λ i m em.
        let is = made_by i m em in
        let was = are.at.shards i is.0 is.1 in
        record {
          window = λ w e. (let at = was.window w e in record {
            lock = ap (λ z. z.lock) is.2 ∙ at.lock;
            name = ap (λ z. z.name) is.2 ∙ at.name;
          });
          numbered = ap (λ z. z.caller) is.2;
          free = ap (λ z. z.holds) is.2;
          knows = is.3;
        };
    registered = record {
      lock = ap (λ z. z.lock) new ∙ are.at.registered.lock;
      name = ap (λ z. z.name) new ∙ are.at.registered.name;
      numbered = ap (λ z. z.caller) new;
      free = ap (λ z. z.holds) new;
      knows = knows;
    };
    marked =
        λ t. subst (NoneBy caller) (sym (left_is t rm.seen (by_shard (lists_of made))))
        (none_drop caller (marks_of t rm.seen) (by_shard (lists_of made) t) (none_entered t));
  }

  pub team_made : IsMade o last teams caller taken seats news made r r' rm
  team_made = record {
    first = split-first;
    sight = split-sight;
    mine = split-mine;
    at = made-at;
    seen = made-sight;
    nothing = made-mine;
    own = made-own;
  }
