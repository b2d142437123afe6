-- A new lock keeps the rule.
use Rattle.std.proofs.Common.{◌≡◌, ℕ, true, List, [], ◌∷◌, false, refl, sym, ◌∙◌, subst, inl, arith, Option, Some}
use Rattle.atomic_table.specs.Table.{opening}
use Rattle.turn_lock.specs.declared.view.View.{View}
use Rattle.turn_lock.specs.Numbers.{has}
use Rattle.turn_lock.specs.Turns.{opener, At, FitsLock, Counts, IsKept}
use Rattle.turn_lock.proofs.Booleans.{off}
use Rattle.turn_lock.proofs.Places.{at_lt, at_added}

module _ {E N : Type 0} where
  nothing_there : (k : ℕ) (v : View E N) → At [] k v → ⊥
  nothing_there k v e = let lt = at_lt [] k v e in omega arith

  -- what holds of the first seat holds of all seats of a new lock
  only : (P : ℕ → View E N → Type 0) (v : View E N) → P 0 v → (k : ℕ) (u : View E N) → At (v ∷ []) k u → P k u
  only P v here = at_added P [] v here (λ k u e. absurd (nothing_there k u e))

module _ {T E N : Type 0} (entries : T → List E) (owner : E → Option ℕ) (name_of : T → N) where
  abbrev Kept : N → List (Option T) → Type 0
  Kept name slots = IsKept entries owner name_of name (opening (0 ∷ []) slots (opener (Some name)))

  opens : (name : N) (value : T) → entries value ≡ [] → name_of value ≡ name → Kept name (Some value ∷ [])
  opens name value none_yet named =
      let f = opener (Some name) in
      let place : (k : ℕ) (u : View E N) → At (f ∷ []) k u → k ≡ 0 = only (λ k _. k ≡ 0) f refl in
      record {
        wide = refl;
        log = [];
        gave = λ _. [];
        turn = inl (record {
          word = refl;
          value = value;
          home = refl;
          list = none_yet;
          named = named;
          none_holds = only (λ _ u. u.holds ≡ false) f refl;
        });
        fits = only (λ _ u. u.lives ≡ true → FitsLock owner [] (λ _. []) name u) f
            (λ _. record { seen = ([], refl); told = ([], refl); mine = refl; own = refl; named = refl });
        owners = λ p. refl;
        apart = λ j k u v eu ev _ _ _. place j u eu ∙ sym (place k v ev);
        first = λ u e. only (λ _ u. (u.lives ≡ true) × (u.is_first ≡ true) × Counts (f ∷ []) (λ _. []) u) f (
          refl,
          refl,
          record {
            zero_is_first = refl;
            bound = λ p h. absurd (off h refl);
            outside =
                only (λ _ u. u.lives ≡ true → u.is_first ≡ false → has u.caller [] ≡ true) f
                (λ _ other. absurd (off refl other));
            back = λ p _ _. refl;
            above = λ p _. refl;
            came = λ g gs e. absurd (cc e);
          },
        ) 0 u e;
        one_first = λ k u e _. place k u e;
      }

  pub opens_at :
      (name : N) (value : T) (slots : List (Option T)) → slots ≡ Some value ∷ [] → entries value ≡ []
      → name_of value ≡ name
      → Kept name slots
  opens_at name value slots is none_yet named = subst (Kept name) (sym is) (opens name value none_yet named)
