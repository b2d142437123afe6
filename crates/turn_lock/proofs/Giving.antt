-- The turn is given back, with one entry more or with none, and the rule stays.
use Rattle.std.proofs.Common.{◌≡◌, ◌≢◌, ℕ, ◌<◌, true, false, eqb, cond, List, [], ◌∷◌, ◌++◌, length, set}
use Rattle.std.proofs.Common.{refl, sym, ap, ◌∙◌, subst, inl, ⊎_elim, arith, append-nil, length-set}
use Rattle.std.proofs.Common.{get_or-set_same, eq-eqb, ne_eqb, Option, Some}
use mathlib.Core.Logic.{dite}
use native.Mathlib.Decide.{ℕ_discrete}
use mathlib.Core.Option.{some, none}
use Rattle.std.proofs.lemmas.List.{append_cancel_left}
use Rattle.std.proofs.lemmas.List.Elements.{filter-append}
use Rattle.std.proofs.lemmas.Bool.{cases_Bool}
use Rattle.atomic_table.specs.Table.{step, gives, Allows}
use Rattle.atomic_table.specs.Seated.{TableId}
use Rattle.atomic_table.proofs.Lists.{set_here}
use Rattle.turn_lock.specs.declared.view.View.{View}
use Rattle.turn_lock.specs.Entries.{owned_by, owned, MayGive}
use Rattle.turn_lock.specs.Numbers.{has}
use Rattle.turn_lock.specs.Sights.{Sight, sight_of}
use Rattle.turn_lock.specs.Turns.{At, FitsLock, IsFree, IsHeld, IsKept}
use Rattle.turn_lock.specs.Steps.{without_turn, after_gift, GivesBack, GivesWith}
use Rattle.turn_lock.proofs.Booleans.{off, is_false}
use Rattle.turn_lock.proofs.Owned.{begins_self, begins_more, one_owned, one_other, more_own}
use Rattle.turn_lock.proofs.Places.{at_same, at_place, at_changed}
use Rattle.turn_lock.proofs.Views.{St, Sat, table, caller_of}
use Rattle.turn_lock.proofs.Moves.{moves}

module _ {E : Type 0} where
  -- what was given, with more by one number
  abbrev more_by : (ℕ → List E) → ℕ → List E → ℕ → List E
  more_by gave c new p = cond (eqb p c) (gave c ++ new) (gave p)

  more_here : (gave : ℕ → List E) (c : ℕ) (new : List E) (p : ℕ) → p ≡ c → more_by gave c new p ≡ gave c ++ new
  more_here gave c new p e = subst (λ b. cond b (gave c ++ new) (gave p) ≡ gave c ++ new) (sym (eq-eqb p c e)) refl

  more_else : (gave : ℕ → List E) (c : ℕ) (new : List E) (p : ℕ) → p ≢ c → more_by gave c new p ≡ gave p
  more_else gave c new p ne = subst (λ b. cond b (gave c ++ new) (gave p) ≡ gave p) (sym (ne_eqb p c ne)) refl

module _ {T E N : Type 0} (entries : T → List E) (owner : E → Option ℕ) (name_of : T → N) where
  abbrev Kept : N → St T E N → Type 0
  Kept = IsKept entries owner name_of

  module _ (name : N) (s : St T E N) (r : Kept name s) (id : ℕ) (v : View E N) (at : At s.views id v)
      (lives : v.lives ≡ true)
      (new : List E) where
    abbrev grown : List E
    grown = r.log ++ new

    abbrev gave_more : ℕ → List E
    gave_more = more_by r.gave v.caller new

    -- the giver's view fits the list with the new entries
    giver_fits : (seen mine : List E) → v.seen ≡ r.log → seen ≡ v.seen ++ new → mine ≡ v.mine ++ new
        → owned_by owner v.caller new ≡ owned owner new
        → FitsLock owner grown gave_more name (record v { holds = false; seen = seen; mine = mine })
    giver_fits seen mine all more_seen more_mine own =
        let fit = r.fits id v at lives in
        record {
          seen = begins_self seen grown (more_seen ∙ ap (λ l. l ++ new) all);
          told = begins_more v.told r.log new fit.told;
          mine = more_mine ∙ (ap (λ l. l ++ new) fit.mine ∙ sym (more_here r.gave v.caller new v.caller refl));
          own =
              ap (owned_by owner v.caller) more_seen
              ∙ (more_own owner v.caller v.seen v.mine new fit.own own ∙ ap (owned owner) (sym more_mine));
          named = fit.named;
        }

    -- and so does the view of each other seat
    others_fit : (k : ℕ) (u : View E N) → k ≢ id → At s.views k u → u.lives ≡ true → FitsLock owner grown gave_more name u
    others_fit k u apart e l =
        let g = r.fits k u e l in
        let ne : u.caller ≢ v.caller = λ h. apart (r.apart k id u v e at l lives h) in
        record {
          seen = begins_more u.seen r.log new g.seen;
          told = begins_more u.told r.log new g.told;
          mine = g.mine ∙ sym (more_else r.gave v.caller new u.caller ne);
          own = g.own;
          named = g.named;
        }

    -- an owner's entries are those that this number gave
    owners_fit :
        owned_by owner v.caller new ≡ owned owner new → ((p : ℕ) → p ≢ v.caller → owned_by owner p new ≡ [])
        → (p : ℕ)
        → owned_by owner p grown ≡ owned owner (gave_more p)
    owners_fit own other p =
        let c = v.caller in
        dite (ℕ_discrete p c)
        (λ e. subst (λ z. owned_by owner z grown ≡ owned owner (gave_more z)) (sym e)
        (filter-append _ r.log new
        ∙ ((λ i. r.owners c i ++ own i)
        ∙ (sym (filter-append _ (r.gave c) new) ∙ ap (owned owner) (sym (more_here r.gave c new c refl))))))
        (λ ne. filter-append _ r.log new
        ∙ ((λ i. r.owners p i ++ other p ne i)
        ∙ (append-nil (owned owner (r.gave p)) ∙ ap (owned owner) (sym (more_else r.gave c new p ne)))))

    -- a number that is back gave no more
    none_back : (f : View E N) → At s.views 0 f → (p : ℕ) → 0 < p → has p f.out ≡ false → gave_more p ≡ r.gave p
    none_back f there p some_p gone =
        let known = (r.first f there).2 in
        more_else r.gave v.caller new p (λ e. ⊎_elim
        (λ (is : v.is_first ≡ true).
        let first = at_same s.views 0 v f (at_place s.views id 0 v (r.one_first id v at is) at) there in
        let zero : v.caller ≡ 0 = caller_of first ∙ known.zero_is_first in
        omega arith)
        (λ (is : v.is_first ≡ false). off (known.outside id v at lives is) (subst (λ z. has z f.out ≡ false) e gone))
        (cases_Bool v.is_first))

    -- the turn is given back with these entries more
    releases :
        (value : T) (seen mine : List E) → v.holds ≡ true → entries value ≡ seen → seen ≡ v.seen ++ new
        → mine ≡ v.mine ++ new
        → v.name ≡ Some (name_of value)
        → owned_by owner v.caller new ≡ owned owner new → ((p : ℕ) → p ≢ v.caller → owned_by owner p new ≡ [])
        → length s.homes ≡ 1
        → Kept name (table (set s.words 0 0) (set s.homes 0 (some (Some value)))
        (set s.views id (record v { holds = false; seen = seen; mine = mine })))
    releases value seen mine holds is_seen more_seen more_mine named own other len =
        let w = record v { holds = false; seen = seen; mine = mine } in
        ⊎_elim
        (λ (f : IsFree entries owner name_of r.log name s). absurd (off holds (f.none_holds id v at)))
        (λ (b : IsHeld entries owner name_of r.log s).
        let here : id ≡ b.holder = b.alone id v at holds in
        let same : v ≡ b.view = at_same s.views id v b.view at (at_place s.views b.holder id b.view (sym here) b.there) in
        let all : v.seen ≡ r.log = ap (λ (z : View E N). z.seen) same ∙ b.list in
        moves entries owner name_of name s r id v at false seen mine v.told v.next grown gave_more
        (giver_fits seen mine all more_seen more_mine own)
        others_fit
        (owners_fit own other)
        none_back
        (set s.words 0 0)
        (set s.homes 0 (some (Some value)))
        (length-set s.words 0 0 ∙ r.wide)
        (inl (record {
          word = let wide = r.wide in get_or-set_same s.words 0 0 0 (omega arith);
          value = value;
          home = set_here s.homes 0 (some (Some value)) (omega arith);
          list = is_seen ∙ (more_seen ∙ ap (λ l. l ++ new) all);
          named = let fit = (r.fits id v at lives).named in cc (fit, named);
          none_holds =
              at_changed (λ k u. u.holds ≡ false) s.views id w refl
              (λ k u apart e. is_false u.holds (λ t. apart (b.alone k u e t ∙ sym here)));
        })))
        r.turn

  -- a seat's turn, with the value in the slot that it has
  abbrev with_value : View E N → T → Sat T E N
  with_value v value = (v, (0, Some value) ∷ [])

  gives_back : (name : N) (id : ℕ) (v : View E N) (value : T) → v.lives ≡ true → v.holds ≡ true → entries value ≡ v.seen
      → v.name ≡ Some (name_of value)
      → Allows (Kept name) 1 id (with_value v value) 0 (λ _. 0)
      (GivesBack entries owner name_of (step 1 0 0 0 none) (with_value v value))
  gives_back name id v value lives holds same named s r len at small = (
    without_turn v,
    gives,
    tt,
    releases name s r id v at lives [] value v.seen v.mine holds same (sym (append-nil v.seen))
        (sym (append-nil v.mine)) named refl (λ _ _. refl) len,
    (refl, (r.fits id v at lives).own),
  )

  -- a slot has one value
  same_value : (v : View E N) (x y : T) → (with_value v x).1 ≡ (with_value v y).1 → x ≡ y
  same_value v x y e =
      let pair : ◌≡◌ {A = ℕ × Option T} (0, Some x) (0, Some y) = cc e in
      let both : Some x ≡ Some y = ap (λ (z : ℕ × Option T). z.1) pair in
      cc both

  gives_with :
      (name : N) (id : ℕ) (v : View E N) (value : T) (e : E) → v.lives ≡ true → v.holds ≡ true
      → entries value ≡ v.seen ++ e ∷ []
      → MayGive owner v.caller e → v.name ≡ Some (name_of value)
      → Allows (Kept name) 1 id (with_value v value) 0 (λ _. 0)
      (GivesWith entries owner name_of (step 1 0 0 0 none) (with_value v value))
  gives_with name id v value e lives holds same may named s r len at small =
      let own = one_owned owner v.caller e may in (
        after_gift (e ∷ []) v,
        gives,
        tt,
        releases name s r id v at lives (e ∷ []) value (v.seen ++ e ∷ []) (v.mine ++ e ∷ []) holds same refl
            refl named own (λ p. one_other owner v.caller p e may) len,
        (λ other d is list.
            let both : v.seen ++ d ∷ [] ≡ v.seen ++ e ∷ [] =
            sym list ∙ (ap entries (sym (same_value v value other is)) ∙ same) in
            let entry = sym (append_cancel_left v.seen (d ∷ []) (e ∷ []) both) in (
              ap (λ l. (after_gift l v, [])) entry,
              subst (λ l. owned_by owner v.caller (v.seen ++ l) ≡ owned owner (v.mine ++ l)) entry
                  (more_own owner v.caller v.seen v.mine (e ∷ []) (r.fits id v at lives).own own),
            )),
      )

  -- the same as contracts see it: the seat by its sight, and the value as it was held
  module _ (name : N) (slots id : ℕ) (me : Sat T E N) (lock : TableId) (v : View E N) (value : T)
      (seat : Sight E N) (held : T)
      (one : slots ≡ 1) (is : me ≡ with_value v value)
      (lives : v.lives ≡ true) (seen : sight_of lock v ≡ seat) (same : value ≡ held) (holds : seat.holds ≡ true)
      (named : seat.name ≡ Some (name_of held)) where
    pub gives_back_seen : entries held ≡ seat.seen
        → Allows (Kept name) slots id me 0 (λ _. 0) (GivesBack entries owner name_of (step slots 0 0 0 none) me)
    gives_back_seen list =
        let P : Sight E N → T → Type 0 = λ s x.
        s.holds ≡ true → s.name ≡ Some (name_of x) → entries x ≡ s.seen
        → Allows (Kept name) 1 id (with_value v value) 0 (λ _. 0)
        (GivesBack entries owner name_of (step 1 0 0 0 none) (with_value v value)) in
        let known =
        subst (λ (z : Sight E N × T). P z.0 z.1) (λ i. (seen i, same i))
        (λ h n l. gives_back name id v value lives h l n) holds named list in
        subst (λ (z : ℕ × Sat T E N). Allows (Kept name) z.0 id z.1 0 (λ _. 0)
        (GivesBack entries owner name_of (step z.0 0 0 0 none) z.1)) (λ i. (sym one i, sym is i))
        known

    pub gives_with_seen : (e : E) → entries held ≡ seat.seen ++ e ∷ [] → MayGive owner seat.caller e
        → Allows (Kept name) slots id me 0 (λ _. 0) (GivesWith entries owner name_of (step slots 0 0 0 none) me)
    gives_with_seen e list may =
        let P : Sight E N → T → Type 0 = λ s x.
        s.holds ≡ true → s.name ≡ Some (name_of x) → entries x ≡ s.seen ++ e ∷ [] → MayGive owner s.caller e
        → Allows (Kept name) 1 id (with_value v value) 0 (λ _. 0)
        (GivesWith entries owner name_of (step 1 0 0 0 none) (with_value v value)) in
        let known =
        subst (λ (z : Sight E N × T). P z.0 z.1) (λ i. (seen i, same i))
        (λ h n l m. gives_with name id v value e lives h l m n) holds named list may in
        subst (λ (z : ℕ × Sat T E N). Allows (Kept name) z.0 id z.1 0 (λ _. 0)
        (GivesWith entries owner name_of (step z.0 0 0 0 none) z.1)) (λ i. (sym one i, sym is i))
        known
