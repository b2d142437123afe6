-- The first seat makes a new one, and the rule stays.
use Rattle.std.proofs.Common.{◌≡◌, ◌⊎◌, ℕ, ◌<◌, true, false, eqb, List, [], ◌∷◌, ◌++◌, length, set, get_or}
use Rattle.std.proofs.Common.{refl, sym, ap, ◌∙◌, subst, inl, inr, ⊎_elim, arith, length-set, eq-eqb, ne_eqb}
use Rattle.std.proofs.Common.{Option}
use mathlib.Core.Logic.{dite}
use native.Mathlib.Decide.{ℕ_discrete}
use mathlib.Core.Option.{none}
use prog.Atomic.{either}
use Rattle.std.proofs.lemmas.List.{set-get_or}
use Rattle.std.proofs.lemmas.Bool.{cases_Bool}
use Rattle.atomic_table.specs.Seated.{TableId}
use Rattle.atomic_table.specs.Table.{step, keeps, Allows, Splits}
use Rattle.atomic_table.proofs.Lists.{at_longer}
use Rattle.turn_lock.specs.declared.view.View.{View}
use Rattle.turn_lock.specs.Entries.{owned_by}
use Rattle.turn_lock.specs.Numbers.{has}
use Rattle.turn_lock.specs.Sights.{Sight, sight_of}
use Rattle.turn_lock.specs.Turns.{At, FitsLock, Counts, IsFree, IsHeld, IsKept}
use Rattle.turn_lock.specs.Steps.{with_next, after_split, newcomer_of, TakesNumber}
use Rattle.turn_lock.proofs.Booleans.{off}
use Rattle.turn_lock.proofs.Callers.{has-more, has-here, has-cases, has-fewer}
use Rattle.turn_lock.proofs.Places.{at_lt, at_place, at_changed, at_added}
use Rattle.turn_lock.proofs.Views.{St, Sat, table, Before, before_changed}
use Rattle.turn_lock.proofs.First.{is_zero, counts, new_is_not_out, new_gave_nothing, new_owns_nothing}
use Rattle.turn_lock.proofs.Moves.{aside, looks}

-- a compare and exchange of a number with itself changes no word
same_word : (c x : ℕ) → either (eqb x c) c x ≡ x
same_word c x = dite (ℕ_discrete x c)
    (λ e. subst (λ b. either b c x ≡ x) (sym (eq-eqb x c e)) (sym e))
    (λ n. subst (λ b. either b c x ≡ x) (sym (ne_eqb x c n)) refl)

module _ {T E N : Type 0} (entries : T → List E) (owner : E → Option ℕ) (name_of : T → N) where
  abbrev Kept : N → St T E N → Type 0
  Kept = IsKept entries owner name_of

  pub numbers : (name : N) (slots id : ℕ) (me : Sat T E N) (c : ℕ) → me.0.lives ≡ true → me.0.holds ≡ false
      → Allows (Kept name) slots id me 0 (λ n. either (eqb n c) c n)
      (TakesNumber entries owner name_of (step slots 0 c c none) me)
  numbers name slots id me c lives out s r len at small =
      let v = me.0 in
      let f = r.fits id v at lives in
      let x = get_or s.words 0 0 in
      let words' = set s.words 0 (either (eqb x c) c x) in
      let same : words' ≡ s.words = ap (set s.words 0) (same_word c x) ∙ set-get_or s.words 0 0 in (
        with_next c v,
        keeps,
        tt,
        looks entries owner name_of name s r id v at v.seen v.told c lives out f.seen f.told f.own words' same,
        (refl, λ first above. new_owns_nothing entries owner name_of name s r id v at first c lives above),
      )

  module _ (name : N) (s : St T E N) (r : Kept name s) (id : ℕ) (v : View E N) (at : At s.views id v)
      (lives : v.lives ≡ true) (first : v.is_first ≡ true) (out : v.holds ≡ false) (above : v.given < v.next) where
    -- the views of the old seats, and of all
    abbrev olds : List (View E N)
    olds = set s.views id (after_split v)

    abbrev all : List (View E N)
    all = olds ++ newcomer_of v ∷ []

    was : (k : ℕ) (u : View E N) → At olds k u → Before s.views k u
    was = before_changed s.views id v (after_split v) at refl refl refl

    counts_now : Counts s.views r.gave v
    counts_now = counts entries owner name_of name s r id v at first

    -- the new number is not out, gave nothing and owns nothing that was seen
    next_is_not_out : has v.next v.out ≡ false
    next_is_not_out = new_is_not_out entries owner name_of name s r id v at first v.next above

    next_gave_nothing : [] ≡ r.gave v.next
    next_gave_nothing = sym (new_gave_nothing entries owner name_of name s r id v at first v.next above)

    next_owns_nothing : owned_by owner v.next v.seen ≡ []
    next_owns_nothing = new_owns_nothing entries owner name_of name s r id v at first v.next lives above

    -- no old seat has the new number
    no_clash : (k : ℕ) (u : View E N) → At olds k u → u.lives ≡ true → u.caller ≡ v.next → ⊥
    no_clash k u e l is =
        let a = was k u e in
        ⊎_elim
        (λ (t : a.view.is_first ≡ true).
        let zero : a.view.caller ≡ 0 =
        (r.first a.view
        (at_place s.views k 0 a.view (r.one_first k a.view a.there t) a.there)).2.zero_is_first in
        let new : a.view.caller ≡ v.next = a.caller ∙ is in
        omega arith)
        (λ (t : a.view.is_first ≡ false).
        off (counts_now.outside k a.view a.there (a.lives ∙ l) t)
        (subst (λ z. has z v.out ≡ false) (sym (a.caller ∙ is)) next_is_not_out))
        (cases_Bool a.view.is_first)

    -- the new seat has no turn, and who had it has it
    split_turn :
        IsFree entries owner name_of r.log name (table s.words s.homes all)
        ⊎ IsHeld entries owner name_of r.log (table s.words s.homes all)
    split_turn = ⊎_elim
        (λ (t : IsFree entries owner name_of r.log name (table s.words s.homes olds)). inl (record {
          word = t.word;
          value = t.value;
          home = t.home;
          list = t.list;
          named = t.named;
          none_holds = at_added (λ k u. u.holds ≡ false) olds (newcomer_of v) refl t.none_holds;
        }))
        (λ (t : IsHeld entries owner name_of r.log (table s.words s.homes olds)). inr (record {
          word = t.word;
          holder = t.holder;
          view = t.view;
          there = at_longer olds (newcomer_of v ∷ []) t.holder t.view t.there;
          lives = t.lives;
          holds = t.holds;
          list = t.list;
          alone = at_added (λ k u. u.holds ≡ true → k ≡ t.holder) olds (newcomer_of v) (λ h. absurd (off h refl)) t.alone;
        }))
        (aside entries owner name_of name s r.log s.words id v (after_split v) at out out refl r.turn)

    split_fits : (k : ℕ) (u : View E N) → At all k u → u.lives ≡ true → FitsLock owner r.log r.gave name u
    split_fits =
        let fit = r.fits id v at lives in
        at_added (λ _ u. u.lives ≡ true → FitsLock owner r.log r.gave name u) olds (newcomer_of v)
        (λ _. record {
          seen = fit.seen;
          told = (r.log, refl);
          mine = next_gave_nothing;
          own = next_owns_nothing;
          named = fit.named;
        })
        (at_changed (λ _ u. u.lives ≡ true → FitsLock owner r.log r.gave name u) s.views id (after_split v)
        (λ _. record { seen = fit.seen; told = fit.told; mine = fit.mine; own = fit.own; named = fit.named })
        (λ k u _ e l. r.fits k u e l))

    split_apart :
        (j k : ℕ) (u y : View E N) → At all j u → At all k y → u.lives ≡ true → y.lives ≡ true
        → u.caller ≡ y.caller → j ≡ k
    split_apart j k u y eu ey =
        let Far : ℕ → View E N → ℕ → View E N → Type 0 =
        λ i x i' x'. x.lives ≡ true → x'.lives ≡ true → x.caller ≡ x'.caller → i ≡ i' in
        at_added (λ i x. Far i x k y) olds (newcomer_of v)
        (at_added (λ i' x'. Far (length olds) (newcomer_of v) i' x') olds (newcomer_of v) (λ _ _ _. refl)
        (λ i' x' e _ l h. absurd (no_clash i' x' e l (sym h)))
        k y ey)
        (λ i x e. at_added (λ i' x'. Far i x i' x') olds (newcomer_of v)
        (λ l _ h. absurd (no_clash i x e l h))
        (λ i' x' e' l l' h.
        let a = was i x e in
        let b = was i' x' e' in
        r.apart i i' a.view b.view a.there b.there (a.lives ∙ l) (b.lives ∙ l') (a.caller ∙ h ∙ sym b.caller))
        k y ey)
        j u eu

    -- the first seat counts the new one too
    split_counts : Counts all r.gave (after_split v)
    split_counts =
        let c = v.next in
        record {
          zero_is_first = counts_now.zero_is_first;
          bound = λ p h. ⊎_elim
              (λ (q : p ≡ c). (omega arith, omega arith))
              (λ (q : has p v.out ≡ true). let k = counts_now.bound p q in (k.0, omega arith))
              (has-cases p c v.out h);
          outside =
              at_added (λ _ u. u.lives ≡ true → u.is_first ≡ false → has u.caller (c ∷ v.out) ≡ true) olds
              (newcomer_of v)
              (λ _ _. has-here c v.out)
              (λ k u e l other.
              let a = was k u e in
              has-more u.caller c v.out (subst (λ z. has z v.out ≡ true) a.caller
              (counts_now.outside k a.view a.there (a.lives ∙ l) (a.is_first ∙ other))));
          back = λ p some_p gone. counts_now.back p some_p (has-fewer p c v.out gone);
          above = λ p up. counts_now.above p (omega arith);
          came = counts_now.came;
        }

    split_first : (k : ℕ) (f : View E N) → At all k f → k ≡ 0 → (f.lives ≡ true) × (f.is_first ≡ true) × Counts all r.gave f
    split_first = at_added (λ k f. k ≡ 0 → (f.lives ≡ true) × (f.is_first ≡ true) × Counts all r.gave f) olds (newcomer_of v)
        (λ none_left. let lt =
        at_lt s.views id v at in
        let len = length-set s.views id (after_split v) in absurd (omega arith))
        (at_changed (λ k f. k ≡ 0 → (f.lives ≡ true) × (f.is_first ≡ true) × Counts all r.gave f) s.views id (after_split v)
        (λ _. (lives, first, split_counts))
        (λ k _ apart _ z. absurd (apart (z ∙ sym (is_zero entries owner name_of name s r id v at first)))))

    split_keeps : Kept name (table s.words s.homes all)
    split_keeps = record {
      wide = r.wide;
      log = r.log;
      gave = r.gave;
      turn = split_turn;
      fits = split_fits;
      owners = r.owners;
      apart = split_apart;
      first = λ f e. split_first 0 f e refl;
      one_first = at_added (λ k u. u.is_first ≡ true → k ≡ 0) olds (newcomer_of v)
          (λ is. absurd (off is refl))
          (λ k u e is. let a = was k u e in r.one_first k a.view a.there (a.is_first ∙ is));
    }

  splits : (name : N) (id : ℕ) (v : View E N) → v.lives ≡ true → v.is_first ≡ true → v.holds ≡ false → v.given < v.next
      → Splits (Kept name) id v (after_split v) (newcomer_of v)
  splits name id v lives first out above s r at = split_keeps name s r id v at lives first out above

  -- the same as contracts see it: the first seat by its sight, once it knows the next number
  pub splits_seen :
      (name : N) (id : ℕ) (lock : TableId) (v now : View E N) (seat : Sight E N) (next : ℕ)
      → now ≡ with_next next v → v.lives ≡ true
      → sight_of lock v ≡ seat → (seat.is_first ≡ true) × (seat.holds ≡ false) → seat.given < next
      → Splits (Kept name) id now (after_split now) (newcomer_of now)
  splits_seen name id lock v now seat next is lives seen first above =
      let Cut : View E N → Type 0 = λ z. Splits (Kept name) id z (after_split z) (newcomer_of z) in
      let P : Sight E N → Type 0 = λ z. (z.is_first ≡ true) × (z.holds ≡ false) → z.given < next → Cut (with_next next v) in
      subst Cut (sym is) (subst P seen (λ f a. splits name id (with_next next v) lives f.0 f.1 a) first above)
