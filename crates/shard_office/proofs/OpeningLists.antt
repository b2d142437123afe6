-- Locks that are opened one by one, and the clerk's first seats there.
use Rattle.std.proofs.Common.{◌≡◌, ℕ, zero, suc, ◌+◌, ◌<◌, ◌≤◌, List, [], ◌∷◌, ◌++◌, length, get_or, refl}
use Rattle.std.proofs.Common.{◌⊎◌, sym, ap, ◌∙◌, subst, inl, inr, ⊎_elim, arith, length-append, Option}
use Rattle.std.specs.Prelude.{slice_get, Some}
use Rattle.std.proofs.lemmas.Bool.{cases_lt}
use Rattle.std.proofs.lemmas.List.{get_or_past}
use Rattle.atomic_table.specs.Seated.{TableId}
use Rattle.shard_office.specs.declared.window.Window.{Window}
use Rattle.turn_lock.specs.Entries.{owned_by, owned}
use Rattle.turn_lock.specs.Sights.{first_sight}
use Rattle.number_tie.specs.Half.{SeenHalf}
use Rattle.call_register.specs.Walk.{left, NoneBy}
use Rattle.shard_office.specs.Owners.{owner_of_entry, owner_of_mark}
use Rattle.shard_office.specs.Office.{OfficeState, ties_at}
use Rattle.shard_office.specs.Sight.{by_shard, entries_of}
use Rattle.shard_office.specs.Passes.{PassState, ShardSeat, RegisterSeat, lists_of}
use Rattle.shard_office.specs.Clerk.{IsFirst, AreFirst}
use Rattle.shard_office.specs.Opening.{AreOpened, opened_seat}
use Rattle.shard_office.proofs.Places.{get_lt, get_some, get_map, length_map}
use Rattle.shard_office.proofs.Lists.{read_at}
use Rattle.shard_office.proofs.TurnLists.{get_push, get_last, same_place}
use Rattle.shard_office.proofs.Places.{map-push}

pub opened_more :
    (shards candidates n : ℕ) (windows : List Window) (seats : List ShardSeat) (halves : List SeenHalf)
    (w : Window) (m : ℕ) → m ≡ n → AreOpened shards candidates n windows seats halves
    → AreOpened shards candidates (n + 1) (windows ++ w ∷ []) (seats ++ opened_seat shards candidates m w ∷ [])
    (halves ++ record { tie = w.tie; number = 0 } ∷ [])
opened_more shards candidates n windows seats halves w m is are =
    let seat : ShardSeat = opened_seat shards candidates m w in
    let half : SeenHalf = record { tie = w.tie; number = 0 } in
    record {
      windows_are = length-append windows (w ∷ []) ∙ ap (λ k. k + 1) are.windows_are;
      seats_are = length-append seats (seat ∷ []) ∙ ap (λ k. k + 1) are.seats_are;
      opened = λ i x s ex es. ⊎_elim
          (λ (h : (i ≡ length seats) × (seat ≡ s)).
          let here : m ≡ i = is ∙ (sym are.seats_are ∙ sym h.0) in
          let same : w ≡ x =
          same_place (windows ++ w ∷ []) (length windows) i w x
          (are.windows_are ∙ (sym are.seats_are ∙ sym h.0)) (get_last windows w) ex in
          sym h.1 ∙ (λ k. opened_seat shards candidates (here k) (same k)))
          (λ (h : (i < length seats) × (slice_get seats i ≡ Some s)).
          let old : (i ≡ length windows) ⊎ (slice_get windows i ≡ Some x) = ⊎_elim
          (λ (t : (i ≡ length windows) × (w ≡ x)). inl t.0)
          (λ (t : (i < length windows) × (slice_get windows i ≡ Some x)). inr t.1)
          (get_push windows w i x ex) in
          ⊎_elim
          (λ (end : i ≡ length windows). absurd (omega (arith, h.0, are.windows_are, are.seats_are)))
          (λ (at : slice_get windows i ≡ Some x). are.opened i x s at h.1)
          old)
          (get_push seats seat i s es);
      halves_are =
          map-push (λ (h : SeenHalf). h.tie) halves half
          ∙ (ap (λ l. l ++ w.tie ∷ []) are.halves_are ∙ sym (map-push (λ (x : Window). x.tie) windows w));
      unnumbered = λ i h e. ⊎_elim
          (λ (k : (i ≡ length halves) × (half ≡ h)). sym (ap (λ (z : SeenHalf). z.number) k.1))
          (λ (k : (i < length halves) × (slice_get halves i ≡ Some h)). are.unnumbered i h k.1)
          (get_push halves half i h e);
    }

-- a first seat that did nothing yet
new_first :
    {E N : Type 0} (owner : E → Option ℕ) (seen_by : PassState → List E) (lock : TableId) (name : Option N)
    → IsFirst owner seen_by 0 0 [] (first_sight lock name)
new_first owner seen_by lock name = record {
  first = refl;
  given = refl;
  out = refl;
  falling = tt;
  back = λ k q e. absurd (let lt = get_lt [] k q e in omega arith);
  gave = λ k q e. absurd (let lt = get_lt [] k q e in omega arith);
  nobody = λ p none. refl;
}

module _ (o : OfficeState) (seats : List ShardSeat) (register : RegisterSeat) (halves : List SeenHalf)
    (opened : AreOpened o.shards o.candidates o.shards o.identity.windows seats halves)
    (is : register
    ≡ first_sight o.identity.register
    (Some (record { shards = o.shards; candidates = o.candidates; ties = ties_at o.identity.windows }))) where
  -- the window of a seat, which is as it was opened
  seat_is :
      (i : ℕ) (s : ShardSeat) → slice_get seats i ≡ Some s
      → (w : Window) × (slice_get o.identity.windows i ≡ Some w) × (s ≡ opened_seat o.shards o.candidates i w)
  seat_is i s e =
      let lt = get_lt seats i s e in
      let a = opened.windows_are in
      let b = opened.seats_are in
      let w = get_some o.identity.windows i (omega arith) in
      (w.0, w.1, opened.opened i w.0 s w.1 e)

  -- nothing was seen
  list_none : (i : ℕ) → get_or (lists_of seats) i [] ≡ []
  list_none i = ⊎_elim
      (λ (lt : i < length seats).
      let s = get_some seats i lt in
      read_at (lists_of seats) i s.0.seen [] (get_map (λ (z : ShardSeat). z.seen) seats i s.0 s.1)
      ∙ ap (λ z. z.seen) (seat_is i s.0 s.1).2)
      (λ (le : length seats ≤ i). get_or_past (lists_of seats) i []
      (let n = length_map (λ (z : ShardSeat). z.seen) seats in omega arith))
      (cases_lt i (length seats))

  pub none_seen : (t : ℕ) → by_shard (lists_of seats) t ≡ []
  none_seen zero = refl
  none_seen (suc i) = list_none i

  pub opened_first : AreFirst o 0 0 [] seats register
  opened_first = record {
    at = record {
      count = opened.seats_are;
      shards = λ i s e.
          let p = (seat_is i s e).2 in
          record {
            window = λ w ew. (let q = opened.opened i w s ew e in record {
              lock = ap (λ z. z.lock) q;
              name = ap (λ z. z.name) q;
            });
            numbered = ap (λ z. z.caller) p;
            free = ap (λ z. z.holds) p;
            knows =
                subst
                (λ (z : ShardSeat). owned_by owner_of_entry z.caller z.seen ≡ owned owner_of_entry z.mine)
                (sym p) refl;
          };
      registered = record {
        lock = ap (λ z. z.lock) is;
        name = ap (λ z. z.name) is;
        numbered = ap (λ z. z.caller) is;
        free = ap (λ z. z.holds) is;
        knows =
            subst (λ (z : RegisterSeat). owned_by owner_of_mark z.caller z.seen ≡ owned owner_of_mark z.mine)
            (sym is) refl;
      };
      marked =
          λ t. subst (NoneBy 0)
          (sym (ap (λ m. left m (by_shard (lists_of seats)) t) (ap (λ z. z.seen) is) ∙ none_seen t)) refl;
    };
    shards = λ i s e.
        let p = seat_is i s e in
        subst (IsFirst owner_of_entry (λ q. entries_of q.sight (i + 1)) 0 0 []) (sym p.2)
        (new_first owner_of_entry (λ q. entries_of q.sight (i + 1)) p.0.lock
        (Some (record { shard = i + 1; shards = o.shards; candidates = o.candidates; tie = p.0.tie })));
    registered =
        subst (IsFirst owner_of_mark (λ q. q.sight.marks) 0 0 []) (sym is)
        (new_first owner_of_mark (λ q. q.sight.marks) o.identity.register
        (Some (record { shards = o.shards; candidates = o.candidates; ties = ties_at o.identity.windows })));
    passes = λ k q e. absurd (let lt = get_lt [] k q e in omega arith);
    given = λ k q e. absurd (let lt = get_lt [] k q e in omega arith);
  }
