-- What the first seat knows of the value at the end.
use Rattle.std.proofs.Common.{◌≡◌, ℕ, true, false, eqb, cond, List, [], sym, ap, ◌∙◌, subst, ⊎_elim, arith}
use Rattle.std.proofs.Common.{eq-eqb, ne_eqb, Option, Some, None}
use mathlib.Core.Logic.{dite}
use native.Mathlib.Decide.{ℕ_discrete}
use mathlib.Core.Option.{some}
use lib.ListN.{get_elem?}
use Rattle.atomic_table.specs.Seated.{TableId}
use Rattle.atomic_table.specs.Table.{Final, Seen}
use Rattle.turn_lock.specs.declared.view.View.{View}
use Rattle.turn_lock.specs.Entries.{Begins, taken_in, owned_by, owned}
use Rattle.turn_lock.specs.Numbers.{has}
use Rattle.turn_lock.specs.Sights.{Sight, sight_of, given_by}
use Rattle.turn_lock.specs.Turns.{At, Counts, IsFree, IsHeld, IsKept}
use Rattle.turn_lock.proofs.Booleans.{off, is_false}
use Rattle.turn_lock.proofs.Places.{at_same, at_place}
use Rattle.turn_lock.proofs.Views.{St, holds_of}
use Rattle.turn_lock.proofs.First.{is_zero, counts}

module _ {T E N : Type 0} (entries : T → List E) (owner : E → Option ℕ) (name_of : T → N) where
  abbrev Kept : N → St T E N → Type 0
  Kept = IsKept entries owner name_of

  -- the value begins with what the first seat has seen, has the lock's name, and of each owner what its number gave
  pub record Ends (seat : Sight E N) (value : T) : Type 0 where
    pub begins : Begins seat.seen (entries value)
    pub named : seat.name ≡ Some (name_of value)
    pub given : (p : ℕ) → owned_by owner p (entries value) ≡ owned owner (given_by seat p)

  module _ (name : N) (s : St T E N) (r : Kept name s) (id : ℕ) (v : View E N) (at : At s.views id v)
      (lives : v.lives ≡ true)
      (first : v.is_first ≡ true) (none_out : v.out ≡ []) where
    counts_now : Counts s.views r.gave v
    counts_now = counts entries owner name_of name s r id v at first

    -- every number but the first seat's own is back
    all_back : (p : ℕ) → r.gave p ≡ cond (eqb p v.caller) v.mine (taken_in p v.joined)
    all_back p = dite (ℕ_discrete p v.caller)
        (λ e. subst (λ b. r.gave p ≡ cond b v.mine (taken_in p v.joined)) (sym (eq-eqb p v.caller e))
        (ap r.gave e ∙ sym (r.fits id v at lives).mine))
        (λ ne. subst (λ b. r.gave p ≡ cond b v.mine (taken_in p v.joined)) (sym (ne_eqb p v.caller ne))
        (let zero = counts_now.zero_is_first in counts_now.back p (omega arith) (ap (has p) none_out)))

    -- nobody has the turn, as only the first seat is left
    none_left : v.holds ≡ false → IsHeld entries owner name_of r.log s → ⊥
    none_left out t =
        let not_first : t.view.is_first ≡ false = is_false t.view.is_first (λ f.
        let here = r.one_first t.holder t.view t.there f ∙ sym (is_zero entries owner name_of name s r id v at first) in
        off t.holds (holds_of (at_same s.views id t.view v (at_place s.views t.holder id t.view here t.there) at) ∙ out)) in
        off (counts_now.outside t.holder t.view t.there t.lives not_first) (ap (has t.view.caller) none_out)

    ends_well : (lock : TableId) (t : IsFree entries owner name_of r.log name s) → Ends (sight_of lock v) t.value
    ends_well lock t =
        let fit = r.fits id v at lives in
        record {
          begins = (fit.seen.0, t.list ∙ fit.seen.1);
          named = fit.named ∙ ap Some (sym t.named);
          given = λ p. ap (owned_by owner p) t.list ∙ (r.owners p ∙ ap (owned owner) (all_back p));
        }

  module _ (name : N) (id : ℕ) (lock : TableId) (v : View E N) (seat : Sight E N) (words : List ℕ) (slots : List (Option T))
      (last : Option T) (final : Final (Seen (Kept name) id v) words slots)
      (at_last : get_elem? slots 0 ≡ some last) (lives : v.lives ≡ true) (seen : sight_of lock v ≡ seat)
      (alone : (seat.is_first ≡ true) × (seat.holds ≡ false) × (seat.out ≡ [])) where
    -- the slot has a value, with which the lock ends
    ends : (value : T) × (last ≡ Some value) × Ends seat value
    ends =
        let s = final.0 in
        let r = final.1.0 in
        let at = final.1.1 in
        let P : Sight E N → Type 0 =
        λ z. (z.is_first ≡ true) × (z.holds ≡ false) × (z.out ≡ [])
        → (value : T) × (last ≡ Some value) × Ends z value in
        subst P seen
        (λ a. ⊎_elim
        (λ (t : IsFree entries owner name_of r.log name s). (
          t.value,
          at_same slots 0 last (Some t.value) at_last (final.4 0 (Some t.value) t.home),
          ends_well name s r id v at lives a.0 a.2 lock t,
        ))
        (λ (t : IsHeld entries owner name_of r.log s). absurd (none_left name s r id v at lives a.0 a.2 a.1 t))
        r.turn)
        alone

    pub ends_none : last ≡ None → ⊥
    ends_none is_none =
        let both : None ≡ Some ends.0 = sym is_none ∙ ends.1 in
        cc both

    pub ends_some : (x : T) → last ≡ Some x → Ends seat x
    ends_some x is =
        let both : Some x ≡ Some ends.0 = sym is ∙ ends.1 in
        let same : ends.0 ≡ x = cc both in
        subst (Ends seat) same ends.2
