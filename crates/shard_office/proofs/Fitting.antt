-- The history of an office that was closed: the clerk and each pass that was taken in have in it just their own calls.
use Rattle.std.proofs.Common.{◌≡◌, ◌≢◌, ◌⊎◌, ℕ, zero, suc, ◌+◌, ◌<◌, ◌≤◌, false, cond, List, []}
use Rattle.std.proofs.Common.{◌∷◌, ◌++◌, length, map, refl, sym, ap, ◌∙◌, subst, inl, inr, ⊎_elim, arith}
use Rattle.std.proofs.Common.{eq-eqb, ne_eqb}
use Rattle.std.specs.Prelude.{slice_get, Some}
use Rattle.std.specs.List.{range_with_len}
use Rattle.std.proofs.lemmas.Bool.{cases_lt}
use Rattle.std.proofs.lemmas.List.{get_or_past}
use Rattle.std.proofs.lemmas.List.FromFn.{get_or-map-range_with_len, length-map-range_with_len}
use Rattle.turn_lock.specs.Entries.{Begins, taken_in, owned_by, owned}
use Rattle.turn_lock.specs.Numbers.{has}
use Rattle.turn_lock.specs.Sights.{given_by}
use Rattle.batch_core.specs.declared.entry.Entry.{Entry}
use Rattle.batch_core.specs.Histories.{own_calls}
use Rattle.call_register.specs.declared.mark.Mark.{Mark}
use Rattle.call_register.specs.Weaving.{Lists, weave, MatchEntries, part}
use Rattle.call_register.specs.Woven.{AreOfShards, IsWoven}
use Rattle.call_register.specs.Walk.{calls_seen, left, NoneBy, NoMarkBy}
use Rattle.call_register.proofs.Standing.{woven_law}
use Rattle.call_register.proofs.OwnCalls.{calls_stay, no_calls}
use Rattle.shard_office.specs.Owners.{owner_of_entry, owner_of_mark}
use Rattle.shard_office.specs.Office.{OfficeState}
use Rattle.shard_office.specs.Sight.{Sight, by_shard, entries_of, GoesOn}
use Rattle.shard_office.specs.Passes.{PassState, ShardSeat, RegisterSeat, sight_of, mine_of, lists_of}
use Rattle.shard_office.specs.Clerk.{callers_of, AreFirst}
use Rattle.shard_office.specs.Closing.{sight_in, FitsHistory, IsClosed}
use Rattle.shard_office.proofs.Places.{get_some, get_map, length_map}
use Rattle.shard_office.proofs.Lists.{read_at}
use Rattle.shard_office.proofs.Owned.{owned_are_calls, owned_are_marks, looked_further}
use Rattle.shard_office.proofs.SightLemmas.{goes_further}

tail_nil : (xs ys : List Entry) → xs ++ ys ≡ [] → ys ≡ []
tail_nil [] ys e = e
tail_nil (x ∷ xs) ys e = absurd (cc e)

-- a caller's calls in a history that goes on from what it had seen, and in which it gave no more
fits_by :
    (p : ℕ) (seen : Sight) (marks : List Mark) (lists : Lists) → (begins : Begins seen.marks marks)
    → (entries : (t : ℕ) → Begins (entries_of seen t) (lists t))
    → ((t : ℕ) → NoneBy p (left seen.marks (by_shard seen.lists) t)) → NoMarkBy p begins.0
    → ((t : ℕ) → NoneBy p (entries t).0)
    → own_calls p (weave marks lists) ≡ calls_seen p seen.marks (by_shard seen.lists)
fits_by p seen marks lists begins entries marked none others =
    (λ k. calls_seen p (begins.1 k) (λ t. (entries t).1 k))
    ∙ calls_stay p seen.marks begins.0 (by_shard seen.lists) (λ t. (entries t).0) none marked others

module _ (o : OfficeState) (last : ℕ) (taken : List PassState) (seats : List ShardSeat) (r : RegisterSeat)
    (are : AreFirst o last 0 taken seats r) (marks : List Mark) (lists : Lists)
    (begins : Begins r.seen marks) (given : (p : ℕ) → owned_by owner_of_mark p marks ≡ owned owner_of_mark (given_by r p))
    (seen : (i : ℕ) (s : ShardSeat) → slice_get seats i ≡ Some s → Begins s.seen (lists (i + 1)))
    (gave : (i : ℕ) (s : ShardSeat) → slice_get seats i ≡ Some s → (p : ℕ)
    → owned_by owner_of_entry p (lists (i + 1)) ≡ owned owner_of_entry (given_by s p))
    (outside : (t : ℕ) → (t ≡ 0) ⊎ (o.shards < t) → lists t ≡ []) (some : 1 ≤ o.shards)
    (of_shards : AreOfShards o.shards lists) (fit : MatchEntries marks lists) where
  abbrev H : List Entry
  H = weave marks lists

  woven : IsWoven o.shards marks lists H
  woven = woven_law o.shards marks lists of_shards fit

  -- every shard's list goes on from what the clerk had seen
  entries_on : (t : ℕ) → Begins (by_shard (lists_of seats) t) (lists t)
  entries_on zero = ([], outside zero (inl refl))
  entries_on (suc i) = ⊎_elim
      (λ (lt : i < length seats).
      let s = get_some seats i lt in
      let b = seen i s.0 s.1 in (
        b.0,
        ap lists (let e : suc i ≡ i + 1 = omega arith in e)
            ∙ (b.1
            ∙ ap (λ l. l ++ b.0) (sym (read_at (lists_of seats) i s.0.seen []
            (get_map (λ (z : ShardSeat). z.seen) seats i s.0 s.1)))),
      ))
      (λ (le : length seats ≤ i).
      let count = are.at.count in
      let n = length_map (λ (z : ShardSeat). z.seen) seats in
      ([], outside (suc i) (inr (omega arith)) ∙ ap (λ l. l ++ []) (sym (get_or_past (lists_of seats) i [] (omega arith)))))
      (cases_lt i (length seats))

  -- the whole history's sight
  part_at : (t : ℕ) → entries_of (sight_in o.shards H) t ≡ lists t
  part_at zero = sym (outside zero (inl refl))
  part_at (suc i) = ⊎_elim
      (λ (lt : i < o.shards). get_or-map-range_with_len (λ s. part o.shards s H) 1 o.shards i (suc i) [] lt
      (omega arith) ∙ woven.parts (suc i))
      (λ (le : o.shards ≤ i). get_or_past (map (λ s. part o.shards s H) (range_with_len 1 o.shards)) i []
      (let n = length-map-range_with_len (λ s. part o.shards s H) 1 o.shards in omega arith)
      ∙ sym (outside (suc i) (inr (omega arith))))
      (cases_lt i o.shards)

  clerk_on : GoesOn (sight_of seats r) (sight_in o.shards H)
  clerk_on = record {
    marks = (begins.0, woven.order ∙ begins.1);
    entries = λ t. ((entries_on t).0, part_at t ∙ (entries_on t).1);
    shards =
        length-map-range_with_len (λ s. part o.shards s H) 1 o.shards
        ∙ (sym are.at.count ∙ sym (length_map (λ (z : ShardSeat). z.seen) seats));
  }

  -- what a caller gave at each lock
  mine_at : (p t : ℕ) → (lists t ≡ []) ⊎ ((i : ℕ) × (s : ShardSeat) × (slice_get seats i ≡ Some s) × (t ≡ i + 1))
  mine_at p zero = inl (outside zero (inl refl))
  mine_at p (suc i) = ⊎_elim
      (λ (lt : i < length seats). let s = get_some seats i lt in inr (i, s.0, s.1, omega arith))
      (λ (le : length seats ≤ i). let count = are.at.count in inl (outside (suc i) (inr (omega arith))))
      (cases_lt i (length seats))

  clerk_own : own_calls 0 H ≡ calls_seen 0 r.seen (by_shard (lists_of seats))
  clerk_own = fits_by 0 (sight_of seats r) marks lists begins entries_on are.at.marked
      (sym (owned_are_marks 0 begins.0) ∙ looked_further owner_of_mark 0 r.seen begins.0 r.mine
      (ap (λ q. owned_by owner_of_mark q r.seen) (sym are.at.registered.numbered) ∙ are.at.registered.knows)
      (ap (owned_by owner_of_mark 0) (sym begins.1)
      ∙ (given 0
      ∙ ap (λ b. owned owner_of_mark (cond b r.mine (taken_in 0 r.joined)))
      (eq-eqb 0 r.caller (sym are.at.registered.numbered)))))
      none_of
    where
      none_of : (t : ℕ) → NoneBy 0 (entries_on t).0
      none_of t = ⊎_elim
          (λ (none : lists t ≡ []). nothing t none)
          (λ (h : (i : ℕ) × (s : ShardSeat) × (slice_get seats i ≡ Some s) × (t ≡ i + 1)). at_seat t h.0 h.1 h.2 h.3)
          (mine_at 0 t)
        where
          nothing : (t : ℕ) → lists t ≡ [] → NoneBy 0 (entries_on t).0
          nothing t none =
              subst (NoneBy 0)
              (sym (tail_nil (by_shard (lists_of seats) t) (entries_on t).0 (sym (entries_on t).1 ∙ none)))
              refl

          at_seat : (t i : ℕ) (s : ShardSeat) → slice_get seats i ≡ Some s → t ≡ i + 1 → NoneBy 0 (entries_on t).0
          at_seat t i s es is =
              let first = are.at.shards i s es in
              let here : by_shard (lists_of seats) t ≡ s.seen =
              ap (by_shard (lists_of seats)) (is ∙ (let e : i + 1 ≡ suc i = omega arith in e))
              ∙ read_at (lists_of seats) i s.seen [] (get_map (λ (z : ShardSeat). z.seen) seats i s es) in
              let knew :
              owned_by owner_of_entry 0 (by_shard (lists_of seats) t) ≡ owned owner_of_entry s.mine =
              ap (owned_by owner_of_entry 0) here
              ∙ (ap (λ q. owned_by owner_of_entry q s.seen) (sym first.numbered) ∙ first.knows) in
              let knows :
              owned_by owner_of_entry 0 (by_shard (lists_of seats) t ++ (entries_on t).0)
              ≡ owned owner_of_entry s.mine =
              ap (owned_by owner_of_entry 0) (sym (entries_on t).1 ∙ ap lists is)
              ∙ (gave i s es 0
              ∙ ap (λ b. owned owner_of_entry (cond b s.mine (taken_in 0 s.joined)))
              (eq-eqb 0 s.caller (sym first.numbered))) in
              sym (owned_are_calls 0 (entries_on t).0)
              ∙ looked_further owner_of_entry 0 (by_shard (lists_of seats) t) (entries_on t).0 s.mine knew
              knows

  -- another number than the clerk's gave what the seats gave that were taken in
  given_mark : (p : ℕ) → 1 ≤ p → owned_by owner_of_mark p marks ≡ owned owner_of_mark (taken_in p r.joined)
  given_mark p one =
      let zero_is = are.at.registered.numbered in
      let ne : p ≢ r.caller = λ e. omega arith in
      given p ∙ ap (λ b. owned owner_of_mark (cond b r.mine (taken_in p r.joined))) (ne_eqb p r.caller ne)

  given_entry :
      (i : ℕ) (s : ShardSeat) → slice_get seats i ≡ Some s → (p : ℕ) → 1 ≤ p
      → owned_by owner_of_entry p (lists (i + 1)) ≡ owned owner_of_entry (taken_in p s.joined)
  given_entry i s es p one =
      let zero_is = (are.at.shards i s es).numbered in
      let ne : p ≢ s.caller = λ e. omega arith in
      gave i s es p ∙ ap (λ b. owned owner_of_entry (cond b s.mine (taken_in p s.joined))) (ne_eqb p s.caller ne)

  -- a pass that was taken in fits the history
  pass_fits : (k : ℕ) (q : PassState) → slice_get taken k ≡ Some q → FitsHistory q H
  pass_fits k q ek =
      let is = are.passes k q ek in
      let on = goes_further q.sight (sight_of seats r) (sight_in o.shards H) is.begins clerk_on in
      let on_marks : Begins q.sight.marks marks = (on.marks.0, sym woven.order ∙ on.marks.1) in
      let on_lists : (t : ℕ) → Begins (entries_of q.sight t) (lists t) =
      λ t. ((on.entries t).0, sym (part_at t) ∙ (on.entries t).1) in
      let first = are.registered.gave k q ek in
      record {
        begins = subst (λ (z : OfficeState). GoesOn q.sight (sight_in z.shards H)) (sym is.office) on;
        own_are = fits_by q.caller q.sight marks lists on_marks on_lists is.marked
            (sym (owned_are_marks q.caller on_marks.0)
            ∙ looked_further owner_of_mark q.caller q.sight.marks on_marks.0 (taken_in q.caller r.joined)
            first (ap (owned_by owner_of_mark q.caller) (sym on_marks.1) ∙ given_mark q.caller is.some))
            (λ t. none_more t (on_lists t));
      }
    where
      none_more : (t : ℕ) → (b : Begins (entries_of q.sight t) (lists t)) → NoneBy q.caller b.0
      none_more t b = ⊎_elim
          (λ (none : lists t ≡ []). subst (NoneBy q.caller)
          (sym (tail_nil (entries_of q.sight t) b.0 (sym b.1 ∙ none))) refl)
          (λ (h : (i : ℕ) × (s : ShardSeat) × (slice_get seats i ≡ Some s) × (t ≡ i + 1)). at_seat t b h.0 h.1 h.2 h.3)
          (mine_at q.caller t)
        where
          at_seat :
              (t : ℕ) → (b : Begins (entries_of q.sight t) (lists t)) → (i : ℕ) (s : ShardSeat)
              → slice_get seats i ≡ Some s → t ≡ i + 1 → NoneBy q.caller b.0
          at_seat t b i s es is =
              let knew :
              owned_by owner_of_entry q.caller (entries_of q.sight t)
              ≡ owned owner_of_entry (taken_in q.caller s.joined) =
              ap (λ n. owned_by owner_of_entry q.caller (entries_of q.sight n)) is
              ∙ (are.shards i s es).gave k q ek in
              let knows :
              owned_by owner_of_entry q.caller (entries_of q.sight t ++ b.0)
              ≡ owned owner_of_entry (taken_in q.caller s.joined) =
              ap (owned_by owner_of_entry q.caller) (sym b.1 ∙ ap lists is)
              ∙ given_entry i s es q.caller (are.passes k q ek).some in
              sym (owned_are_calls q.caller b.0)
              ∙ looked_further owner_of_entry q.caller (entries_of q.sight t) b.0 (taken_in q.caller s.joined)
              knew knows

  -- and no other caller is in it
  nobody_else : (p : ℕ) → 1 ≤ p → has p (callers_of taken) ≡ false → NoneBy p H
  nobody_else p one none =
      no_calls p [] marks lists
      (sym (owned_are_marks p marks) ∙ (given_mark p one ∙ ap (owned owner_of_mark) (are.registered.nobody p none)))
      (λ t. ⊎_elim
      (λ (nothing : lists t ≡ []). subst (NoneBy p) (sym nothing) refl)
      (λ (h : (i : ℕ) × (s : ShardSeat) × (slice_get seats i ≡ Some s) × (t ≡ i + 1)).
      subst (λ n. NoneBy p (lists n)) (sym h.3) (sym (owned_are_calls p (lists (h.0 + 1)))
      ∙ (given_entry h.0 h.1 h.2 p one
      ∙ ap (owned owner_of_entry) ((are.shards h.0 h.1 h.2).nobody p none))))
      (mine_at p t))

  pub closed_is :
      IsClosed (record {
        desk =
            record { office = o; caller = 0; sight = sight_of seats r; mine = mine_of seats r };
        taken = taken;
        last_caller = last;
        open_teams = 0;
      }) H
  closed_is = record {
    legal = woven.legal;
    desk = record { begins = clerk_on; own_are = clerk_own };
    passes = pass_fits;
    others = nobody_else;
  }
