-- What a caller's seats gave.
use Rattle.std.proofs.Common.{◌≡◌, ℕ, zero, suc, ◌+◌, ◌<◌, ◌≤◌, List, [], ◌∷◌, ◌++◌, length, set, map, sym}
use Rattle.std.proofs.Common.{ap, ◌∙◌, refl, ⊎_elim, arith}
use Rattle.std.specs.Prelude.{slice_get, Some}
use Rattle.std.proofs.lemmas.Bool.{cases_lt}
use Rattle.std.proofs.lemmas.List.{get_or_past}
use Rattle.batch_core.specs.declared.entry.Entry.{Entry}
use Rattle.batch_core.specs.Histories.{own_calls}
use Rattle.call_register.specs.declared.mark.Mark.{Mark}
use Rattle.call_register.specs.declared.mark.Mark.TheVariants.{Shard}
use Rattle.turn_lock.specs.Entries.{owned_by, owned}
use Rattle.shard_office.specs.Owners.{owner_of_entry, owner_of_mark}
use Rattle.shard_office.specs.Office.{OfficeState}
use Rattle.shard_office.specs.Sight.{by_shard, AddsEntry, AddsMark, nothing_of}
use Rattle.shard_office.specs.Passes.{ShardSeat, RegisterSeat, lists_of, sight_of, mine_of, AreAt, HasSeenItsOwn}
use Rattle.shard_office.specs.Moves.{Looked, Gave, GoOn}
use Rattle.shard_office.proofs.Places.{get_some, get_map, map_same, map_each, length_map}
use Rattle.shard_office.proofs.Lists.{read_at, list_at, list_set, list_beside}
use Rattle.shard_office.proofs.Owned.{owned_are_calls, all_are_owned}

-- after a change was asked at one shard
module _ (seats : List ShardSeat) (r r' : RegisterSeat) (i : ℕ) (x y : ShardSeat) (at : slice_get seats i ≡ Some x) where
  pub looked-mine : Looked x y → Looked r r' → mine_of (set seats i y) r' ≡ mine_of seats r
  looked-mine looked looked' =
      λ k. record {
        marks = ap (λ z. z.mine) looked'.1 k;
        lists = map_same (λ (s : ShardSeat). s.mine) seats i x y at (ap (λ z. z.mine) looked.1) k;
      }

  pub changed-mine :
      (e : Entry) → Gave x y e → Gave r r' (Shard (i + 1))
      → AddsEntry (i + 1) e (mine_of seats r) (mine_of (set seats i y) r')
  changed-mine e gave gave' = record {
    marks = ap (λ z. z.mine) gave'.1;
    entries =
        list_set (λ s. s.mine) seats i x y at
        ∙ (ap (λ z. z.mine) gave.1 ∙ ap (λ l. l ++ e ∷ []) (sym (list_at (λ s. s.mine) seats i x at)));
    others = λ t ne. list_beside (λ s. s.mine) seats i y t ne;
  }

-- seats that went on gave nothing
pub went-mine :
    (seats seats' : List ShardSeat) → GoOn seats seats'
    → map (λ (s : ShardSeat). s.mine) seats' ≡ map (λ (s : ShardSeat). s.mine) seats
went-mine seats seats' on =
    map_each (λ (s : ShardSeat). s.mine) (λ (s : ShardSeat). s.mine) seats' seats on.len
    (λ i y x ey ex. (on.each i x y ex ey).0.mine)

module _ (seats seats' : List ShardSeat) (r r' : RegisterSeat) (on : GoOn seats seats') where
  pub nothing-mine : r'.mine ≡ r.mine → mine_of seats' r' ≡ mine_of seats r
  nothing-mine same = λ k. record { marks = same k; lists = went-mine seats seats' on k }

  pub marked-mine : (m : Mark) → Gave r r' m → AddsMark m (mine_of seats r) (mine_of seats' r')
  marked-mine m gave = λ k. record { marks = ap (λ z. z.mine) gave.1 k; lists = went-mine seats seats' on k }

-- new seats gave nothing
pub new-mine : (seats made : List ShardSeat) (r rm : RegisterSeat) → length made ≡ length seats
    → ((i : ℕ) (m : ShardSeat) → slice_get made i ≡ Some m → m.mine ≡ []) → rm.mine ≡ []
    → mine_of made rm ≡ nothing_of (sight_of seats r)
new-mine seats made r rm len each none = λ k. record {
  marks = none k;
  lists =
      map_each (λ (s : ShardSeat). s.mine) (λ (l : List Entry). []) made (lists_of seats)
      (len ∙ sym (length_map (λ (s : ShardSeat). s.seen) seats)) (λ i m l em el. each i m em) k;
}

-- of what its seats have seen a caller's own is what they gave
module _ (o : OfficeState) (p : ℕ) (seats : List ShardSeat) (r : RegisterSeat) (are : AreAt o p seats r) where
  own_at : (s : ℕ) → own_calls p (by_shard (lists_of seats) s) ≡ by_shard (map (λ (z : ShardSeat). z.mine) seats) s
  own_at zero = refl
  own_at (suc i) = ⊎_elim
      (λ (lt : i < length seats).
      let s = get_some seats i lt in
      let is = are.shards i s.0 s.1 in
      let seen = read_at (lists_of seats) i s.0.seen [] (get_map (λ (z : ShardSeat). z.seen) seats i s.0 s.1) in
      let mine =
      read_at (map (λ (z : ShardSeat). z.mine) seats) i s.0.mine []
      (get_map (λ (z : ShardSeat). z.mine) seats i s.0 s.1) in
      let knows : owned_by owner_of_entry p s.0.seen ≡ owned owner_of_entry s.0.mine =
      ap (λ q. owned_by owner_of_entry q s.0.seen) (sym is.numbered) ∙ is.knows in
      ap (own_calls p) seen ∙ (sym (owned_are_calls p s.0.seen) ∙ (knows ∙ (all_are_owned s.0.mine ∙ sym mine))))
      (λ (le : length seats ≤ i).
      let a = length_map (λ (z : ShardSeat). z.seen) seats in
      let b = length_map (λ (z : ShardSeat). z.mine) seats in
      ap (own_calls p) (get_or_past (lists_of seats) i [] (omega arith))
      ∙ sym (get_or_past (map (λ (z : ShardSeat). z.mine) seats) i [] (omega arith)))
      (cases_lt i (length seats))

  pub seen_its_own : HasSeenItsOwn (record { office = o; caller = p; sight = sight_of seats r; mine = mine_of seats r })
  seen_its_own = record {
    entries = own_at;
    marks = ap (λ q. owned_by owner_of_mark q r.seen) (sym are.registered.numbered) ∙ are.registered.knows;
    marked = are.marked;
  }
