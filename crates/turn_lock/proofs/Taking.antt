-- A try to gain the turn keeps the rule, the first one and each that follows a wait.
use Rattle.std.proofs.Common.{◌≡◌, ℕ, true, eqb, List, ◌∷◌, set, get_or, refl, sym, ap, ◌∙◌, subst, inl, inr}
use Rattle.std.proofs.Common.{⊎_elim, arith, length-set, get_or-set_same, eq-eqb, ne_eqb, Option, Some}
use mathlib.Core.Logic.{dite}
use native.Mathlib.Decide.{ℕ_discrete}
use mathlib.Core.Option.{none}
use prog.Atomic.{either}
use Rattle.atomic_table.specs.Table.{step, keeps, takes, Allows}
use Rattle.atomic_table.proofs.Lists.{set_here}
use Rattle.turn_lock.specs.declared.view.View.{View}
use Rattle.turn_lock.specs.Entries.{owned_by, owned}
use Rattle.turn_lock.specs.Turns.{At, IsTaken, IsFree, IsHeld, IsKept}
use Rattle.turn_lock.specs.Steps.{with_turn, Tries, Gained}
use Rattle.turn_lock.proofs.Booleans.{off}
use Rattle.turn_lock.proofs.Owned.{begins_self}
use Rattle.turn_lock.proofs.Places.{at_lt, at_changed}
use Rattle.turn_lock.proofs.Views.{St, Sat, table}
use Rattle.turn_lock.proofs.Moves.{moves, unmoved, shows}

taken_is_not_free : (word : ℕ) → IsTaken word → word ≡ 0 → ⊥
taken_is_not_free word taken free = ⊎_elim
    (λ (one : word ≡ 1). absurd (omega arith))
    (λ (two : word ≡ 2). absurd (omega arith))
    taken

module _ {T E N : Type 0} (entries : T → List E) (owner : E → Option ℕ) (name_of : T → N) where
  abbrev Kept : N → St T E N → Type 0
  Kept = IsKept entries owner name_of

  abbrev Free : List E → N → St T E N → Type 0
  Free = IsFree entries owner name_of

  abbrev Busy : List E → St T E N → Type 0
  Busy = IsHeld entries owner name_of

  module _ (name : N) (s : St T E N) (r : Kept name s) (id : ℕ) (v : View E N) (at : At s.views id v)
      (lives : v.lives ≡ true) where
    -- of the whole list a seat's own entries are those that it gave
    own_of_all : owned_by owner v.caller r.log ≡ owned owner v.mine
    own_of_all = r.owners v.caller ∙ ap (owned owner) (sym (r.fits id v at lives).mine)

    -- the turn was free, and this seat has it now
    gains : (word : ℕ) → IsTaken word → (f : Free r.log name s)
        → Kept name (table (set s.words 0 word) (set s.homes 0 none) (set s.views id (with_turn (entries f.value) v)))
    gains word taken f =
        let w = with_turn (entries f.value) v in
        let fit = r.fits id v at lives in
        moves entries owner name_of name s r id v at true (entries f.value) v.mine v.told v.next r.log r.gave
        (record {
          seen = begins_self (entries f.value) r.log f.list;
          told = fit.told;
          mine = fit.mine;
          own = ap (owned_by owner v.caller) f.list ∙ own_of_all;
          named = fit.named;
        })
        (λ k u _ e l. r.fits k u e l)
        r.owners
        (λ _ _ _ _ _. refl)
        (set s.words 0 word)
        (set s.homes 0 none)
        (length-set s.words 0 word ∙ r.wide)
        (inr (record {
          word = let wide = r.wide in subst IsTaken (sym (get_or-set_same s.words 0 word 0 (omega arith))) taken;
          holder = id;
          view = w;
          there = set_here s.views id w (at_lt s.views id v at);
          lives = lives;
          holds = refl;
          list = f.list;
          alone =
              at_changed (λ k u. u.holds ≡ true → k ≡ id) s.views id w (λ _. refl)
              (λ k u _ e h. absurd (off h (f.none_holds k u e)));
        }))

    -- what the seat that gained the turn learns
    gained : (f : Free r.log name s) (carried : List (ℕ × Option T))
        → Gained entries owner name_of (v, carried) (with_turn (entries f.value) v, (0, Some f.value) ∷ carried)
    gained f carried =
        let fit = r.fits id v at lives in
        record {
          value = f.value;
          slot = refl;
          view = refl;
          sees = (fit.seen.0, f.list ∙ fit.seen.1);
          named = fit.named ∙ ap Some (sym f.named);
          mine = ap (owned_by owner v.caller) f.list ∙ own_of_all;
          was_free = f.none_holds id v at;
        }

  pub tries : (name : N) (slots id : ℕ) (me : Sat T E N) → me.0.lives ≡ true
      → Allows (Kept name) slots id me 0 (λ n. either (eqb n 0) 1 n) (Tries entries owner name_of (step slots 0 0 1 none) me)
  tries name slots id me lives s r len at small =
      let x = get_or s.words 0 0 in
      let v = me.0 in
      dite (ℕ_discrete x 0)
      (λ hit. ⊎_elim
      (λ (f : Free r.log name s).
      let w = with_turn (entries f.value) v in (
        w,
        takes 0 (Some f.value),
        f.home,
        subst (λ b. Kept name (table (set s.words 0 (either b 1 x)) (set s.homes 0 none) (set s.views id w)))
            (sym (eq-eqb x 0 hit)) (gains name s r id v at lives 1 (inl refl) f),
        ((λ _. gained name s r id v at lives f me.1), (λ not. absurd (not hit))),
      ))
      (λ (b : Busy r.log s). absurd (taken_is_not_free x b.word hit))
      r.turn)
      (λ miss. (
        v,
        keeps,
        tt,
        subst (λ b. Kept name (table (set s.words 0 (either b 1 x)) s.homes (set s.views id v)))
            (sym (ne_eqb x 0 miss)) (unmoved entries owner name_of name s r id v at),
        ((λ e. absurd (miss e)), (λ _. refl)),
      ))

  -- the same where the seat says that it waits, whatever the word was
  pub waits : (name : N) (slots id : ℕ) (me : Sat T E N) → me.0.lives ≡ true
      → Allows (Kept name) slots id me 0 (λ _. 2) (Tries entries owner name_of (step slots 0 2 0 none) me)
  waits name slots id me lives s r len at small =
      let v = me.0 in
      ⊎_elim
      (λ (f : Free r.log name s). (
        with_turn (entries f.value) v,
        takes 0 (Some f.value),
        f.home,
        gains name s r id v at lives 2 (inr refl) f,
        ((λ _. gained name s r id v at lives f me.1), (λ not. absurd (not f.word))),
      ))
      (λ (b : Busy r.log s). (
        v,
        keeps,
        tt,
        shows entries owner name_of name s r id v at 2 (inr refl) b,
        ((λ free. absurd (taken_is_not_free (get_or s.words 0 0) b.word free)), (λ _. refl)),
      ))
      r.turn
