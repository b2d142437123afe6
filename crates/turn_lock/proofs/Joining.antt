-- The first seat takes in another and learns what that had seen, and the rule stays.
use Rattle.std.proofs.Common.{◌≡◌, ◌≢◌, ◌⊎◌, ℕ, ◌<◌, true, false, cond, List, [], ◌∷◌, set, get_or, refl, sym}
use Rattle.std.proofs.Common.{ap, ◌∙◌, subst, inl, inr, ⊎_elim, arith, eq-eqb, ne_eqb, Option}
use mathlib.Core.Logic.{dite}
use native.Mathlib.Decide.{ℕ_discrete}
use mathlib.Core.Option.{none}
use Rattle.std.proofs.lemmas.List.{set-get_or}
use Rattle.atomic_table.specs.Seated.{TableId}
use Rattle.atomic_table.specs.Table.{step, keeps, Allows, Joins}
use Rattle.atomic_table.proofs.Lists.{set_else}
use Rattle.turn_lock.specs.declared.view.View.{View}
use Rattle.turn_lock.specs.Entries.{longer, taken_in, owned_by, owned}
use Rattle.turn_lock.specs.Numbers.{has}
use Rattle.turn_lock.specs.Sights.{Sight, sight_of}
use Rattle.turn_lock.specs.Turns.{spent, At, FitsLock, Counts, IsFree, IsHeld, IsKept}
use Rattle.turn_lock.specs.Steps.{after_join, after_look, Learns}
use Rattle.turn_lock.proofs.Booleans.{off, is_false}
use Rattle.turn_lock.proofs.Callers.{has-without, without-has}
use Rattle.turn_lock.proofs.Owned.{longer_begins, wider}
use Rattle.turn_lock.proofs.Places.{at_same, at_place, at_changed}
use Rattle.turn_lock.proofs.Views.{St, Sat, table, lives_of, holds_of, Before, before_changed}
use Rattle.turn_lock.proofs.First.{is_zero, counts}
use Rattle.turn_lock.proofs.Moves.{looks}

module _ {T E N : Type 0} (entries : T → List E) (owner : E → Option ℕ) (name_of : T → N) where
  abbrev Kept : N → St T E N → Type 0
  Kept = IsKept entries owner name_of

  abbrev Turn : List E → N → St T E N → Type 0
  Turn log name s = IsFree entries owner name_of log name s ⊎ IsHeld entries owner name_of log s

  -- the first seat v at id takes in the seat w at other
  module _ (name : N) (s : St T E N) (r : Kept name s) (id : ℕ) (v : View E N) (at : At s.views id v)
      (lives : v.lives ≡ true)
      (first : v.is_first ≡ true) (out : v.holds ≡ false)
      (other : ℕ) (w : View E N) (there : At s.views other w) (lives' : w.lives ≡ true)
      (out' : w.holds ≡ false) (apart : other ≢ id) where
    -- the views with the first seat's changed, and with the other's spent too
    abbrev changed : List (View E N)
    changed = set s.views id (after_join v w)

    abbrev all : List (View E N)
    all = set changed other spent

    zero_id : id ≡ 0
    zero_id = is_zero entries owner name_of name s r id v at first

    counts_now : Counts s.views r.gave v
    counts_now = counts entries owner name_of name s r id v at first

    -- each seat that lives was there before, and is not the one taken in
    was : (k : ℕ) (u : View E N) → At all k u → u.lives ≡ true → Before s.views k u × (k ≢ other)
    was = at_changed (λ k u. u.lives ≡ true → Before s.views k u × (k ≢ other)) changed other spent
        (λ l. absurd (off l refl))
        (λ k u ne e _. (before_changed s.views id v (after_join v w) at refl refl refl k u e, ne))

    -- who has the turn is neither of the two
    elsewhere : (k : ℕ) (u : View E N) → At s.views k u → u.holds ≡ true → (k ≢ id) × (k ≢ other)
    elsewhere k u e h = (
      (λ i. off h (holds_of (at_same s.views id u v (at_place s.views k id u i e) at) ∙ out)),
      (λ i. off h (holds_of (at_same s.views other u w (at_place s.views k other u i e) there) ∙ out')),
    )

    join_turn : Turn r.log name (table s.words s.homes all)
    join_turn = ⊎_elim
        (λ (t : IsFree entries owner name_of r.log name s). inl (record {
          word = t.word;
          value = t.value;
          home = t.home;
          list = t.list;
          named = t.named;
          none_holds = at_changed (λ _ u. u.holds ≡ false) changed other spent refl
              (λ k u _. at_changed (λ _ u. u.holds ≡ false) s.views id (after_join v w) out
              (λ k u _ e. t.none_holds k u e) k u);
        }))
        (λ (t : IsHeld entries owner name_of r.log s).
        let away = elsewhere t.holder t.view t.there t.holds in
        inr (record {
          word = t.word;
          holder = t.holder;
          view = t.view;
          there =
              set_else changed other t.holder spent away.1
              ∙ (set_else s.views id t.holder (after_join v w) away.0 ∙ t.there);
          lives = t.lives;
          holds = t.holds;
          list = t.list;
          alone = at_changed (λ k u. u.holds ≡ true → k ≡ t.holder) changed other spent (λ h. absurd (off h refl))
              (λ k u _. at_changed (λ k u. u.holds ≡ true → k ≡ t.holder) s.views id (after_join v w)
              (λ h. absurd (off h out)) (λ k u _ e. t.alone k u e) k u);
        }))
        r.turn

    join_fits : (k : ℕ) (u : View E N) → At all k u → u.lives ≡ true → FitsLock owner r.log r.gave name u
    join_fits =
        let fit = r.fits id v at lives in
        let told = (r.fits other w there lives').seen in
        at_changed (λ _ u. u.lives ≡ true → FitsLock owner r.log r.gave name u) changed other spent
        (λ l. absurd (off l refl))
        (λ k u _. at_changed (λ _ u. u.lives ≡ true → FitsLock owner r.log r.gave name u) s.views id (after_join v w)
        (λ _. record { seen = fit.seen; told = told; mine = fit.mine; own = fit.own; named = fit.named })
        (λ k u _ e l. r.fits k u e l)
        k u)

    join_apart :
        (j k : ℕ) (u y : View E N) → At all j u → At all k y → u.lives ≡ true → y.lives ≡ true
        → u.caller ≡ y.caller → j ≡ k
    join_apart j k u y eu ey lu ly e =
        let a = (was j u eu lu).0 in
        let b = (was k y ey ly).0 in
        r.apart j k a.view b.view a.there b.there (a.lives ∙ lu) (b.lives ∙ ly) (a.caller ∙ e ∙ sym b.caller)

    -- the other seat's number was out
    was_out : has w.caller v.out ≡ true
    was_out =
        counts_now.outside other w there lives'
        (is_false w.is_first (λ t. apart (r.one_first other w there t ∙ sym zero_id)))

    -- what a number that is back gave is kept
    join_back : (p : ℕ) → 0 < p → has p (after_join v w).out ≡ false → r.gave p ≡ taken_in p (after_join v w).joined
    join_back p some_p gone =
        let c = w.caller in
        dite (ℕ_discrete p c)
        (λ q. subst (λ z. r.gave z ≡ taken_in z (record { caller = c; mine = w.mine } ∷ v.joined)) (sym q)
        (subst (λ b. r.gave c ≡ cond b w.mine (taken_in c v.joined)) (sym (eq-eqb c c refl))
        (sym (r.fits other w there lives').mine)))
        (λ ne. subst (λ b. r.gave p ≡ cond b w.mine (taken_in p v.joined)) (sym (ne_eqb p c ne))
        (counts_now.back p some_p (sym (has-without p c v.out ne) ∙ gone)))

    -- the first seat counts one fewer that is out
    join_counts : Counts all r.gave (after_join v w)
    join_counts =
        let c = w.caller in
        record {
          zero_is_first = counts_now.zero_is_first;
          bound = λ p h. counts_now.bound p (without-has p c v.out h);
          outside = λ k u e l no.
              let a = was k u e l in
              let ne : u.caller ≢ c =
              λ h. a.1
              (r.apart k other a.0.view w a.0.there there (a.0.lives ∙ l) lives' (a.0.caller ∙ h)) in
              has-without u.caller c v.out ne ∙ subst (λ z. has z v.out ≡ true) a.0.caller
              (counts_now.outside k a.0.view a.0.there (a.0.lives ∙ l) (a.0.is_first ∙ no));
          back = join_back;
          above = λ p up.
              let ne : p ≢ c = λ q. let k = (counts_now.bound c was_out).1 in omega arith in
              subst (λ b. cond b w.mine (taken_in p v.joined) ≡ []) (sym (ne_eqb p c ne)) (counts_now.above p up);
          came = λ g gs e. let same : c ≡ g.caller = cc in subst (λ z. has z v.out ≡ true) same was_out;
        }

    join_first : (k : ℕ) (f : View E N) → At all k f → k ≡ 0 → (f.lives ≡ true) × (f.is_first ≡ true) × Counts all r.gave f
    join_first = at_changed (λ k f. k ≡ 0 → (f.lives ≡ true) × (f.is_first ≡ true) × Counts all r.gave f) changed other spent
        (λ z. absurd (apart (z ∙ sym zero_id)))
        (λ k f _. at_changed (λ k f. k ≡ 0 → (f.lives ≡ true) × (f.is_first ≡ true) × Counts all r.gave f)
        s.views id (after_join v w)
        (λ _. (lives, first, join_counts))
        (λ k _ ne _ z. absurd (ne (z ∙ sym zero_id)))
        k f)

    join_keeps : Kept name (table s.words s.homes all)
    join_keeps = record {
      wide = r.wide;
      log = r.log;
      gave = r.gave;
      turn = join_turn;
      fits = join_fits;
      owners = r.owners;
      apart = join_apart;
      first = λ f e. join_first 0 f e refl;
      one_first = at_changed (λ k u. u.is_first ≡ true → k ≡ 0) changed other spent
          (λ is. absurd (off is refl))
          (λ k u _ e is. let a =
          before_changed s.views id v (after_join v w) at refl refl refl k u e in
          r.one_first k a.view a.there (a.is_first ∙ is));
    }

  joins :
      (name : N) (id : ℕ) (v : View E N) (other : ℕ) (w : View E N) → v.lives ≡ true → v.is_first ≡ true
      → v.holds ≡ false
      → w.lives ≡ true → w.holds ≡ false
      → Joins (Kept name) id v other w (after_join v w) spent
  joins name id v other w lives first out lives' out' s r at apart there =
      join_keeps name s r id v at lives first out other w
      (sym (set_else s.views id other (after_join v w) apart) ∙ there) lives' out' apart

  -- the first seat looks, and has seen the longer of what it had seen and was told of
  learns : (name : N) (slots id : ℕ) (me : Sat T E N) → me.0.lives ≡ true → me.0.holds ≡ false
      → Allows (Kept name) slots id me 0 (λ n. n) (Learns entries owner name_of (step slots 0 0 0 none) me)
  learns name slots id me lives out s r len at small =
      let v = me.0 in
      let f = r.fits id v at lives in
      let all = longer v.seen v.told in
      let both = longer_begins v.seen v.told r.log f.seen f.told in
      let own : owned_by owner v.caller all ≡ owned owner v.mine =
      wider owner v.caller v.seen all r.log (owned owner v.mine) both.1 both.0 f.own
      (r.owners v.caller ∙ ap (owned owner) (sym f.mine)) in (
        after_look v,
        keeps,
        tt,
        looks entries owner name_of name s r id v at all [] v.next lives out both.0 (r.log, refl) own
            (set s.words 0 (get_or s.words 0 0)) (set-get_or s.words 0 0),
        (refl, both.1, both.2, own, λ g gs first is. (counts entries owner name_of name s r id v at first).came g gs is),
      )

  -- the same as contracts see it: both seats by their sights
  module _ (name : N) (lock lock' : TableId) (v w : View E N) (seat other : Sight E N)
      (lives : v.lives ≡ true) (seen : sight_of lock v ≡ seat) (holds : seat.holds ≡ false) where
    pub joins_seen : (id id' : ℕ) → w.lives ≡ true → sight_of lock' w ≡ other → seat.is_first ≡ true → other.holds ≡ false
        → Joins (Kept name) id v id' w (after_join v w) spent
    joins_seen id id' lives' seen' first holds' =
        let P : Sight E N → Sight E N → Type 0 =
        λ x y. x.holds ≡ false → x.is_first ≡ true → y.holds ≡ false
        → Joins (Kept name) id v id' w (after_join v w) spent in
        subst (λ (z : Sight E N × Sight E N). P z.0 z.1) (λ i. (seen i, seen' i))
        (λ h f h'. joins name id v id' w lives f h lives' h') holds first holds'

    pub learns_seen : (slots id : ℕ) (me : Sat T E N) → me.0 ≡ after_join v w
        → Allows (Kept name) slots id me 0 (λ n. n) (Learns entries owner name_of (step slots 0 0 0 none) me)
    learns_seen slots id me is =
        learns name slots id me (lives_of is ∙ lives)
        (holds_of is ∙ (ap (λ (z : Sight E N). z.holds) seen ∙ holds))
