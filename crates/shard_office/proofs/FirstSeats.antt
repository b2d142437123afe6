-- A first seat that looked, that made another, and that took one in.
use Rattle.std.proofs.Common.{◌≡◌, ◌≢◌, ℕ, ◌+◌, ◌<◌, ◌≤◌, true, false, cond, ◌==◌, ◌||◌, List, [], ◌∷◌, ◌++◌}
use Rattle.std.proofs.Common.{length, refl, sym, ap, ◌∙◌, subst, ⊎_elim, arith, Option, eq-eqb, ne_eqb}
use Rattle.std.specs.Prelude.{slice_get, Some}
use Rattle.turn_lock.specs.Entries.{taken_in, owned_by, owned}
use Rattle.turn_lock.specs.Numbers.{has, without}
use Rattle.turn_lock.specs.Sights.{Sight as SeatSight, KnowsOwn, sight_after_join, sight_after_split}
use Rattle.shard_office.specs.Owners.{owner_of_entry, owner_of_mark}
use Rattle.shard_office.specs.Office.{OfficeState}
use Rattle.shard_office.specs.Sight.{Sight, entries_of, GoesOn}
use Rattle.shard_office.specs.Moves.{Looks}
use Rattle.shard_office.specs.Passes.{PassState, ShardSeat, RegisterSeat, sight_of, AreAt}
use Rattle.shard_office.specs.Clerk.{AreFalling, callers_of, IsFirst, IsTaken, AreFirst}
use Rattle.shard_office.proofs.Places.{get_lt, get_some}
use Rattle.shard_office.proofs.TurnLists.{get_push}
use Rattle.shard_office.proofs.NumberLemmas.{falling_wider, one_fewer, falling_without, gone_after, gone_still, has-append}
use Rattle.shard_office.proofs.SightLemmas.{goes_further}

-- a first seat that is first as before, whatever else it saw
pub still_first :
    {E N : Type 0} (owner : E → Option ℕ) (seen_by : PassState → List E) (last teams : ℕ)
    (taken : List PassState) (s s' : SeatSight E N) → IsFirst owner seen_by last teams taken s
    → s'.is_first ≡ s.is_first → s'.given ≡ s.given → s'.out ≡ s.out → s'.joined ≡ s.joined
    → IsFirst owner seen_by last teams taken s'
still_first owner seen_by last teams taken s s' is first given out joined = record {
  first = first ∙ is.first;
  given = given ∙ is.given;
  out = ap length out ∙ is.out;
  falling = subst (AreFalling (last + 1)) (sym out) is.falling;
  back = λ k q e. ap (has q.caller) out ∙ is.back k q e;
  gave = λ k q e. is.gave k q e ∙ ap (λ j. owned owner (taken_in q.caller j)) (sym joined);
  nobody = λ p none. ap (taken_in p) joined ∙ is.nobody p none;
}

pub still_taken :
    (o : OfficeState) (before now : Sight) (q : PassState) → IsTaken o before q → GoesOn before now
    → IsTaken o now q
still_taken o before now q is on = record {
  office = is.office;
  some = is.some;
  begins = goes_further q.sight before now is.begins on;
  marked = is.marked;
}

-- after a freeze of the clerk's
pub first_after_look :
    (o : OfficeState) (last teams : ℕ) (taken : List PassState) (seats seats' : List ShardSeat)
    (r r' : RegisterSeat) → AreFirst o last teams taken seats r → AreAt o 0 seats' r' → Looks seats seats'
    → r' ≡ record r { holds = false; seen = r'.seen; mine = r'.mine }
    → GoesOn (sight_of seats r) (sight_of seats' r') → AreFirst o last teams taken seats' r'
first_after_look o last teams taken seats seats' r r' are at looks same on = record {
  at = at;
  shards = λ i y ey.
      let lt = get_lt seats' i y ey in
      let len = looks.len in
      let x = get_some seats i (omega arith) in
      let looked = (looks.each i x.0 y x.1 ey).0 in
      still_first owner_of_entry (λ q. entries_of q.sight (i + 1)) last teams taken x.0 y
      (are.shards i x.0 x.1) (ap (λ z. z.is_first) looked.1) (ap (λ z. z.given) looked.1)
      (ap (λ z. z.out) looked.1) (ap (λ z. z.joined) looked.1);
  registered =
      still_first owner_of_mark (λ q. q.sight.marks) last teams taken r r' are.registered
      (ap (λ z. z.is_first) same) (ap (λ z. z.given) same) (ap (λ z. z.out) same) (ap (λ z. z.joined) same);
  passes = λ k q e. still_taken o (sight_of seats r) (sight_of seats' r') q (are.passes k q e) on;
  given = are.given;
}

callers-append : (taken : List PassState) (q : PassState) → callers_of (taken ++ q ∷ []) ≡ callers_of taken ++ q.caller ∷ []
callers-append [] q = refl
callers-append (x ∷ xs) q = ap (λ l. x.caller ∷ l) (callers-append xs q)

-- a new pass was made
pub first_after_split :
    {E N : Type 0} (owner : E → Option ℕ) (seen_by : PassState → List E) (last teams : ℕ)
    (taken : List PassState) (s : SeatSight E N) (caller : ℕ) → IsFirst owner seen_by last teams taken s
    → last < caller
    → ((k : ℕ) (q : PassState) → slice_get taken k ≡ Some q → q.caller ≤ last)
    → IsFirst owner seen_by caller (teams + 1) taken (sight_after_split s caller)
first_after_split owner seen_by last teams taken s caller is lt few = record {
  first = is.first;
  given = refl;
  out = (let l = is.out in omega arith);
  falling = ((omega arith), (omega arith), falling_wider (last + 1) caller s.out (omega arith) is.falling);
  back =
      λ k q e. let le =
      few k q e in
      ap (λ c. c || has q.caller s.out) (ne_eqb q.caller caller (λ h. omega arith)) ∙ is.back k q e;
  gave = is.gave;
  nobody = is.nobody;
}

-- a pass was taken in
pub first_after_join :
    {E N : Type 0} (owner : E → Option ℕ) (seen_by : PassState → List E) (last teams : ℕ)
    (taken : List PassState) (s t : SeatSight E N) (q : PassState)
    → IsFirst owner seen_by last teams taken s
    → t.caller ≡ q.caller → t.seen ≡ seen_by q → KnowsOwn owner t → has t.caller s.out ≡ true → (fewer : ℕ)
    → fewer + 1 ≡ teams
    → IsFirst owner seen_by last fewer (taken ++ q ∷ []) (sight_after_join s t)
first_after_join owner seen_by last teams taken s t q is number seen knows was_out fewer less = record {
  first = is.first;
  given = is.given;
  out = (let l = is.out in let f = one_fewer t.caller (last + 1) s.out is.falling was_out in omega arith);
  falling = falling_without t.caller (last + 1) s.out is.falling;
  back = λ k p e. ⊎_elim
      (λ (h : (k ≡ length taken) × (q ≡ p)). subst (λ n. has n (without t.caller s.out) ≡ false)
      (number ∙ ap (λ (z : PassState). z.caller) h.1) (gone_after t.caller s.out))
      (λ (h : (k < length taken) × (slice_get taken k ≡ Some p)). gone_still p.caller t.caller s.out (is.back k p h.1))
      (get_push taken q k p e);
  gave = λ k p e. ⊎_elim
      (λ (h : (k ≡ length taken) × (q ≡ p)).
      subst (λ (z : PassState). owned_by owner z.caller (seen_by z)
      ≡ owned owner (cond (z.caller == t.caller) t.mine (taken_in z.caller s.joined))) h.1
      ((λ j. owned_by owner (sym number j) (sym seen j))
      ∙ (knows
      ∙ ap (λ c. owned owner (cond c t.mine (taken_in q.caller s.joined)))
      (sym (eq-eqb q.caller t.caller (sym number))))))
      (λ (h : (k < length taken) × (slice_get taken k ≡ Some p)).
      let ne : p.caller ≢ t.caller =
      λ same. let bad : true ≡ false =
      sym was_out ∙ (ap (λ n. has n s.out) (sym same) ∙ is.back k p h.1) in
      absurd (cc bad) in
      is.gave k p h.1
      ∙ ap (λ c. owned owner (cond c t.mine (taken_in p.caller s.joined)))
      (sym (ne_eqb p.caller t.caller ne)))
      (get_push taken q k p e);
  nobody = λ p none.
      let apart = has-append p q.caller (callers_of taken) (ap (has p) (sym (callers-append taken q)) ∙ none) in
      let ne : p ≢ t.caller = λ same. apart.1 (same ∙ number) in
      ap (λ c. cond c t.mine (taken_in p s.joined)) (ne_eqb p t.caller ne) ∙ is.nobody p apart.0;
}
