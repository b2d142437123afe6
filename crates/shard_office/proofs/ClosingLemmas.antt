-- An office that is closed lock by lock: the lists that its locks leave, and that they hold all that its clerk stood for.
use Rattle.std.proofs.Common.{◌≡◌, ◌⊎◌, ℕ, zero, suc, ◌+◌, ◌-◌, ◌<◌, ◌≤◌, true, List, []}
use Rattle.std.proofs.Common.{◌∷◌, ◌++◌, length, refl, sym, ap, ◌∙◌, subst, inl, inr, ⊎_elim, arith}
use Rattle.std.specs.Prelude.{slice_get, Some, All, reverse}
use Rattle.std.proofs.lemmas.Bool.{cases_lt}
use Rattle.std.proofs.lemmas.List.{get_or_past, get_or-reverse, length-reverse}
use Rattle.std.proofs.lemmas.List.Elements.{All-nil}
use Rattle.turn_lock.specs.Entries.{Begins, owned_by, owned}
use Rattle.turn_lock.specs.Sights.{given_by}
use Rattle.batch_core.specs.declared.entry.Entry.{Entry}
use Rattle.batch_core.specs.Entries.{EntryList}
use Rattle.batch_core.specs.Histories.{IsLegal}
use Rattle.batch_core.specs.Shards.{is_of_shard}
use Rattle.call_register.specs.declared.mark.Mark.{Mark}
use Rattle.call_register.specs.Marks.{MayMark, marks_of}
use Rattle.call_register.specs.Weaving.{Lists, list_of, no_entries, MatchEntries}
use Rattle.call_register.specs.Woven.{AreOfShards}
use Rattle.shard_book.specs.Shard.{AreOfShard}
use Rattle.shard_office.specs.Owners.{owner_of_entry, owner_of_mark}
use Rattle.shard_office.specs.Office.{OfficeState}
use Rattle.shard_office.specs.Passes.{PassState, ShardSeat, RegisterSeat, sight_of, mine_of}
use Rattle.shard_office.specs.Clerk.{AreFirst}
use Rattle.shard_office.specs.Closing.{HoldsAll, IsEnded, AreEnded}
use Rattle.shard_office.proofs.Places.{get_lt, get_some}
use Rattle.shard_office.proofs.Lists.{read_at}
use Rattle.shard_office.proofs.TurnLists.{get_push, same_place}
use Rattle.shard_office.proofs.FreezeLemmas.{none_outside}
use Rattle.shard_office.proofs.Fitting.{closed_is}

pub ended_more :
    (shards candidates all i : ℕ) (marks : List Mark) (seats : List ShardSeat) (lists : List EntryList)
    (s : ShardSeat) (l : EntryList) → AreEnded shards candidates all marks seats lists
    → all - 1 - length lists ≡ i
    → slice_get seats i ≡ Some s → IsEnded shards candidates marks i s l.items
    → AreEnded shards candidates all marks seats (lists ++ l ∷ [])
ended_more shards candidates all i marks seats lists s l are is at ended j k t el et = ⊎_elim
    (λ (h : (j ≡ length lists) × (l ≡ k)).
    let place : i ≡ all - 1 - j = sym is ∙ ap (λ n. all - 1 - n) (sym h.0) in
    let same : s ≡ t = same_place seats i (all - 1 - j) s t place at et in
    subst (λ (z : EntryList). IsEnded shards candidates marks (all - 1 - j) t z.items) h.1
    (subst (λ (z : ShardSeat). IsEnded shards candidates marks (all - 1 - j) z l.items) same
    (subst (λ n. IsEnded shards candidates marks n s l.items) place ended)))
    (λ (h : (j < length lists) × (slice_get lists j ≡ Some k)). are j k t h.1 et)
    (get_push lists l j k el)

-- an office all of whose locks ended, the last one first
module _ (o : OfficeState) (last : ℕ) (taken : List PassState) (seats : List ShardSeat) (r : RegisterSeat)
    (are : AreFirst o last 0 taken seats r) (marks : List Mark) (lists : List EntryList)
    (len : length lists ≡ o.shards) (some : 1 ≤ o.shards)
    (ended : AreEnded o.shards o.candidates o.shards marks seats lists)
    (may : All (MayMark o.shards o.candidates) marks) (begins : Begins r.seen marks)
    (given : (p : ℕ) → owned_by owner_of_mark p marks ≡ owned owner_of_mark (given_by r p)) where
  abbrev K : Lists
  K = list_of (reverse lists)

  -- the list of the shard at index i, with the seat that closed it
  ended_at :
      (i : ℕ) → i < o.shards
      → (l : EntryList) × (s : ShardSeat) × (slice_get seats i ≡ Some s) × (K (suc i) ≡ l.items)
      × IsEnded o.shards o.candidates marks i s l.items
  ended_at i lt =
      let count = are.at.count in
      let s = get_some seats i (omega arith) in
      let l = get_some lists (length lists - 1 - i) (omega arith) in
      let place : o.shards - 1 - (length lists - 1 - i) ≡ i = omega arith in
      let it = ended (length lists - 1 - i) l.0 s.0 l.1 (ap (slice_get seats) place ∙ s.1) in (
        l.0,
        s.0,
        s.1,
        ap (λ (z : EntryList). z.items) (get_or-reverse lists i no_entries (omega arith)
            ∙ read_at lists (length lists - 1 - i) l.0 no_entries l.1),
        subst (λ k. IsEnded o.shards o.candidates marks k s.0 l.0.items) place it,
      )

  outside_none : (t : ℕ) → (t ≡ 0) ⊎ (o.shards < t) → K t ≡ []
  outside_none zero out = refl
  outside_none (suc i) out = ⊎_elim
      (λ (z : suc i ≡ 0). absurd (omega arith))
      (λ (lt : o.shards < suc i). ap (λ (z : EntryList). z.items)
      (get_or_past (reverse lists) i no_entries (let n = length-reverse lists in omega arith)))
      out

  each_shard :
      (P : ℕ → List Entry → Type 0) → ((t : ℕ) → P t [])
      → ((i : ℕ) (l : EntryList) → AreOfShard o.candidates o.shards (i + 1) l.items → P (suc i) l.items)
      → (t : ℕ) → P t (K t)
  each_shard P none one zero = none zero
  each_shard P none one (suc i) = ⊎_elim
      (λ (lt : i < o.shards). let e = ended_at i lt in subst (P (suc i)) (sym e.3) (one i e.0 e.4.of_shard))
      (λ (le : o.shards ≤ i). subst (P (suc i)) (sym (outside_none (suc i) (inr (omega arith)))) (none (suc i)))
      (cases_lt i o.shards)

  all_of_shards : AreOfShards o.shards K
  all_of_shards = record {
    some = some;
    changes =
        each_shard (λ s l. All (λ e. is_of_shard o.shards s e.call ≡ true) l)
        (λ t. All-nil (λ (e : Entry). is_of_shard o.shards t e.call ≡ true))
        (λ i l a. subst (λ k. All (λ (e : Entry). is_of_shard o.shards k e.call ≡ true) l.items)
        (let e : i + 1 ≡ suc i = omega arith in e) a.changes);
    legal = each_shard (λ s l. IsLegal l) (λ t. tt) (λ i l a. a.legal);
  }

  all_fit : MatchEntries marks K
  all_fit zero = none_outside o.shards o.candidates zero marks may (inl refl)
  all_fit (suc i) = ⊎_elim
      (λ (lt : i < o.shards). let e =
      ended_at i lt in
      ap (λ k. marks_of k marks) (let h : suc i ≡ i + 1 = omega arith in h)
      ∙ (e.4.whole ∙ ap length (sym e.3)))
      (λ (le : o.shards ≤ i). none_outside o.shards o.candidates (suc i) marks may (inr (omega arith))
      ∙ ap length (sym (outside_none (suc i) (inr (omega arith)))))
      (cases_lt i o.shards)

  at_seat :
      (i : ℕ) (s : ShardSeat) → slice_get seats i ≡ Some s
      → (l : List Entry) × (K (i + 1) ≡ l) × IsEnded o.shards o.candidates marks i s l
  at_seat i s es =
      let lt = get_lt seats i s es in
      let count = are.at.count in
      let e = ended_at i (omega arith) in
      let same : e.1 ≡ s = same_place seats i i e.1 s refl e.2 es in (
        e.0.items,
        ap K (let h : i + 1 ≡ suc i = omega arith in h) ∙ e.3,
        subst (λ (z : ShardSeat). IsEnded o.shards o.candidates marks i z e.0.items) same e.4,
      )

  pub all_held :
      HoldsAll (record {
        desk =
            record { office = o; caller = 0; sight = sight_of seats r; mine = mine_of seats r };
        taken = taken;
        last_caller = last;
        open_teams = 0;
      }) marks K
  all_held = record {
    of_shards = all_of_shards;
    fit = all_fit;
    closed = closed_is o last taken seats r are marks K begins given
        (λ i s es. let e = at_seat i s es in (e.2.begins.0, e.1 ∙ e.2.begins.1))
        (λ i s es p. let e = at_seat i s es in ap (owned_by owner_of_entry p) e.1 ∙ e.2.given p)
        outside_none some all_of_shards all_fit;
  }

pub no_length : {A : Type 0} (l : List A) → length l ≡ 0 → l ≡ []
no_length [] e = refl
no_length (x ∷ l) e = absurd (omega arith)
