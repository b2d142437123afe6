-- A caller's seats after it looked at all shards, and after a freeze or a strike.
use Rattle.std.proofs.Common.{◌≡◌, ℕ, zero, suc, ◌<◌, ◌≤◌, List, [], ◌∷◌, ◌++◌, length, get_or, refl, sym, ap}
use Rattle.std.proofs.Common.{◌∙◌, subst, ⊎_elim, arith, append-nil, Option}
use Rattle.std.specs.Prelude.{slice_get, Some, false}
use Rattle.std.proofs.lemmas.Bool.{cases_lt}
use Rattle.std.proofs.lemmas.List.{get_or_past}
use Rattle.turn_lock.specs.Entries.{owned_by, owned}
use Rattle.turn_lock.specs.Sights.{Sight as SeatSight, KnowsOwn}
use Rattle.batch_core.specs.declared.entry.Entry.{Entry}
use Rattle.batch_core.specs.declared.reply.Reply.{Reply}
use Rattle.batch_core.specs.Book.{strike_reply}
use Rattle.call_register.specs.declared.mark.Mark.{Mark}
use Rattle.call_register.specs.declared.mark.Mark.TheVariants.{Freeze, Strike}
use Rattle.call_register.specs.Marks.{struck_by}
use Rattle.call_register.specs.Weaving.{Lists, freeze_entry}
use Rattle.call_register.specs.Walk.{calls_seen, left, NoneBy, NoMarkBy, followed}
use Rattle.shard_office.specs.Names.{strike_answer}
use Rattle.shard_office.specs.Owners.{owner_of_entry, owner_of_mark}
use Rattle.shard_office.specs.Office.{OfficeState}
use Rattle.shard_office.specs.Sight.{by_shard, calls_in, GoesOn}
use Rattle.shard_office.specs.Moves.{Looked, Gave, WentOn, Looks, GoOn}
use Rattle.shard_office.specs.Passes.{ShardSeat, RegisterSeat, lists_of, sight_of, IsAtShard, IsAtRegister, AreAt}
use Rattle.shard_office.proofs.Places.{get_lt, get_some, get_map, length_map}
use Rattle.shard_office.proofs.Lists.{read_at}
use Rattle.shard_office.proofs.Owned.{owned_are_calls, owned_are_marks, looked_further, gave_further}
use Rattle.shard_office.proofs.Owned.{own_freeze_mark, own_strike_mark}
use Rattle.shard_office.proofs.Growing.{looks-own, looks-marked, freeze-own, freeze-marked, strike-own, strike-marked}
use Rattle.shard_office.proofs.Called.{still_at_shard, still_at_register, begins_all}

-- a seat that looked went on
pub went : {E N : Type 0} (x y : SeatSight E N) → Looked x y → WentOn x y
went x y looked = record {
  between = looked.0;
  seen = ap (λ z. z.seen) looked.1;
  lock = ap (λ z. z.lock) looked.1;
  name = ap (λ z. z.name) looked.1;
  numbered = ap (λ z. z.caller) looked.1;
  free = ap (λ z. z.holds) looked.1;
  mine = ap (λ z. z.mine) looked.1;
}

pub go_on : (seats seats' : List ShardSeat) → Looks seats seats' → GoOn seats seats'
go_on seats seats' looks = record {
  len = looks.len;
  each = λ i x y ex ey. (went x y (looks.each i x y ex ey).0, (looks.each i x y ex ey).1);
}

-- what a seat saw beyond what it had seen is of others
pub none_further :
    {E N : Type 0} (owner : E → Option ℕ) (p : ℕ) (x y : SeatSight E N) → x.caller ≡ p → KnowsOwn owner x
    → (on : WentOn x y) → KnowsOwn owner y → owned_by owner p on.between ≡ []
none_further owner p x y is knew on knows =
    let now : owned_by owner p (x.seen ++ on.between) ≡ owned owner x.mine =
    (λ k. owned_by owner (sym (on.numbered ∙ is) k) (sym on.seen k))
    ∙ (knows ∙ ap (owned owner) on.mine) in
    looked_further owner p x.seen on.between x.mine (ap (λ q. owned_by owner q x.seen) (sym is) ∙ knew) now

pub none_of_look :
    (o : OfficeState) (p i : ℕ) (x y : ShardSeat) → IsAtShard o p i x → (on : WentOn x y)
    → KnowsOwn owner_of_entry y → NoneBy p on.between
none_of_look o p i x y was on knows =
    sym (owned_are_calls p on.between) ∙ none_further owner_of_entry p x y was.numbered was.knows on knows

module _ (o : OfficeState) (p : ℕ) (seats seats' : List ShardSeat) (r r' : RegisterSeat)
    (are : AreAt o p seats r) (looks : GoOn seats seats') (knows' : KnowsOwn owner_of_mark r') where
  abbrev L : Lists
  L = by_shard (lists_of seats)

  shards' : (i : ℕ) (y : ShardSeat) → slice_get seats' i ≡ Some y → IsAtShard o p i y
  shards' i y e =
      let lt = get_lt seats' i y e in
      let len = looks.len in
      let x = get_some seats i (omega arith) in
      let did = looks.each i x.0 y x.1 e in
      still_at_shard o p i x.0 y (are.shards i x.0 x.1) (did.0.lock, did.0.name, did.0.numbered, did.0.free) did.1

  count' : length seats' ≡ o.shards
  count' = looks.len ∙ are.count

  lists_length : length (lists_of seats') ≡ length (lists_of seats)
  lists_length =
      length_map (λ (s : ShardSeat). s.seen) seats'
      ∙ (looks.len ∙ sym (length_map (λ (s : ShardSeat). s.seen) seats))

  -- what was seen of each shard goes on with entries of others
  abbrev More : ℕ → Type 0
  More t = (more : List Entry) × (by_shard (lists_of seats') t ≡ L t ++ more) × NoneBy p more

  more_at : (i : ℕ) → More (suc i)
  more_at i = ⊎_elim
      (λ (lt : i < length seats).
      let len = looks.len in
      let x = get_some seats i lt in
      let y = get_some seats' i (omega arith) in
      let did = looks.each i x.0 y.0 x.1 y.1 in
      let old : get_or (lists_of seats) i [] ≡ x.0.seen =
      read_at (lists_of seats) i x.0.seen [] (get_map (λ (s : ShardSeat). s.seen) seats i x.0 x.1) in
      let new : get_or (lists_of seats') i [] ≡ y.0.seen =
      read_at (lists_of seats') i y.0.seen [] (get_map (λ (s : ShardSeat). s.seen) seats' i y.0 y.1) in
      let it : More (suc i) = (
        did.0.between,
        new ∙ (did.0.seen ∙ ap (λ l. l ++ did.0.between) (sym old)),
        none_of_look o p i x.0 y.0 (are.shards i x.0 x.1) did.0 did.1,
      ) in
      it)
      (λ (le : length seats ≤ i).
      let len = looks.len in
      let a = length_map (λ (s : ShardSeat). s.seen) seats in
      let b = length_map (λ (s : ShardSeat). s.seen) seats' in
      let it : More (suc i) = (
        [],
        get_or_past (lists_of seats') i [] (omega arith)
            ∙ (sym (get_or_past (lists_of seats) i [] (omega arith))
            ∙ sym (append-nil (get_or (lists_of seats) i []))),
        refl,
      ) in
      it)
      (cases_lt i (length seats))

  more_of : (t : ℕ) → More t
  more_of zero = ([], refl, refl)
  more_of (suc i) = more_at i

  abbrev M : Lists
  M t = (more_of t).0

  lists' : by_shard (lists_of seats') ≡ followed L M
  lists' k t = (more_of t).1 k

  none_M : (t : ℕ) → NoneBy p (M t)
  none_M t = (more_of t).2

  -- nothing was marked
  module _ (looked : WentOn r r') where
    abbrev B : List Mark
    B = looked.between

    none_B : NoMarkBy p B
    none_B =
        sym (owned_are_marks p B)
        ∙ none_further owner_of_mark p r r' are.registered.numbered are.registered.knows looked knows'

    seen' : r'.seen ≡ r.seen ++ B
    seen' = looked.seen

    pub all_looked-at : AreAt o p seats' r'
    all_looked-at = record {
      count = count';
      shards = shards';
      registered = still_at_register o p r r' are.registered (looked.lock, looked.name, looked.numbered, looked.free) knows';
      marked =
          λ t. subst (λ (z : List Mark × Lists). NoneBy p (left z.0 z.1 t)) (λ k. (sym seen' k, sym lists' k))
          (looks-marked p r.seen B L M none_B are.marked none_M t);
    }

    pub all_looked-own : calls_in p (sight_of seats' r') ≡ calls_in p (sight_of seats r)
    all_looked-own = (λ k. calls_seen p (seen' k) (lists' k)) ∙ looks-own p r.seen B L M none_B are.marked none_M

    pub all_looked-on : GoesOn (sight_of seats r) (sight_of seats' r')
    all_looked-on = record {
      marks = (B, seen');
      entries = λ t. ((more_of t).0, (more_of t).1);
      shards = lists_length;
    }

  -- a mark of one's own is the last
  module _ (m : Mark) (gave : Gave r r' m) where
    abbrev C : List Mark
    C = gave.0

    none_C : owned_by owner_of_mark p (m ∷ []) ≡ owned owner_of_mark (m ∷ []) → NoMarkBy p C
    none_C is =
        let was = are.registered in
        let now :
        owned_by owner_of_mark p ((r.seen ++ C) ++ m ∷ []) ≡ owned owner_of_mark (r.mine ++ m ∷ []) =
        subst (λ (z : RegisterSeat). owned_by owner_of_mark z.caller z.seen ≡ owned owner_of_mark z.mine
        → owned_by owner_of_mark p ((r.seen ++ C) ++ m ∷ [])
        ≡ owned owner_of_mark (r.mine ++ m ∷ [])) (sym gave.1)
        (λ k. ap (λ q. owned_by owner_of_mark q ((r.seen ++ C) ++ m ∷ [])) (sym was.numbered) ∙ k)
        knows' in
        let knew : owned_by owner_of_mark p r.seen ≡ owned owner_of_mark r.mine =
        ap (λ q. owned_by owner_of_mark q r.seen) (sym was.numbered) ∙ was.knows in
        sym (owned_are_marks p C) ∙ gave_further owner_of_mark p r.seen C r.mine m is knew now

    pub marks_now : r'.seen ≡ (r.seen ++ C) ++ m ∷ []
    marks_now = ap (λ z. z.seen) gave.1

    register_now : IsAtRegister o p r'
    register_now =
        still_at_register o p r r' are.registered (
          ap (λ z. z.lock) gave.1,
          ap (λ z. z.name) gave.1,
          ap (λ z. z.caller) gave.1,
          ap (λ z. z.holds) gave.1,
        ) knows'

    pub marked-on : GoesOn (sight_of seats r) (sight_of seats' r')
    marked-on = record {
      marks = (let b = begins_all r.seen C (m ∷ []) in (b.0, marks_now ∙ b.1));
      entries = λ t. ((more_of t).0, (more_of t).1);
      shards = lists_length;
    }

  module _ (gave : Gave r r' (Freeze p)) where
    pub frozen-at : AreAt o p seats' r'
    frozen-at = record {
      count = count';
      shards = shards';
      registered = register_now (Freeze p) gave;
      marked =
          λ t. subst (λ (z : List Mark × Lists). NoneBy p (left z.0 z.1 t))
          (λ k. (sym (marks_now (Freeze p) gave) k, sym lists' k))
          (freeze-marked p r.seen gave.0 L M (none_C (Freeze p) gave (own_freeze_mark p)) are.marked none_M t);
    }

    pub frozen-own : calls_in p (sight_of seats' r') ≡ calls_in p (sight_of seats r) ++ freeze_entry p ∷ []
    frozen-own =
        (λ k. calls_seen p (marks_now (Freeze p) gave k) (lists' k))
        ∙ freeze-own p r.seen gave.0 L M (none_C (Freeze p) gave (own_freeze_mark p)) are.marked none_M

  module _ (k : ℕ) (gave : Gave r r' (Strike p k)) where
    pub struck-at : AreAt o p seats' r'
    struck-at = record {
      count = count';
      shards = shards';
      registered = register_now (Strike p k) gave;
      marked =
          λ t. subst (λ (z : List Mark × Lists). NoneBy p (left z.0 z.1 t))
          (λ j. (sym (marks_now (Strike p k) gave) j, sym lists' j))
          (strike-marked p r.seen gave.0 L M (none_C (Strike p k) gave (own_strike_mark p k)) are.marked none_M k t);
    }

    pub struck-own :
        (answer : Reply) → answer ≡ strike_reply (struck_by (r.seen ++ gave.0)) k
        → calls_in p (sight_of seats' r') ≡ calls_in p (sight_of seats r) ++ strike_answer p k answer ∷ []
    struck-own answer is =
        (λ j. calls_seen p (marks_now (Strike p k) gave j) (lists' j))
        ∙ (strike-own p r.seen gave.0 L M (none_C (Strike p k) gave (own_strike_mark p k)) are.marked none_M k
        ∙ ap (λ a. calls_in p (sight_of seats r) ++ strike_answer p k a ∷ []) (sym is))

-- seats that did nothing
pub none_looked :
    (o : OfficeState) (p : ℕ) (seats : List ShardSeat) (r : RegisterSeat) → AreAt o p seats r
    → Looks seats seats
none_looked o p seats r are = record {
  len = refl;
  each = λ i x y ex ey.
      let same : x ≡ y = cc in
      let is = are.shards i x ex in
      let free : x.holds ≡ false = is.free in
      let it : Looked x x × KnowsOwn owner_of_entry x =
      (([], λ k. record x { holds = free k; seen = sym (append-nil x.seen) k }), is.knows) in
      subst (λ (z : ShardSeat). Looked x z × KnowsOwn owner_of_entry z) same it;
}
