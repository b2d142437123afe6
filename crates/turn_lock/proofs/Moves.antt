-- One seat moves, and the rule of the lock stays.
use Rattle.std.proofs.Common.{◌≡◌, ◌≢◌, ◌⊎◌, ℕ, ◌<◌, Bool, true, false, List, length, set, get_or, refl, sym}
use Rattle.std.proofs.Common.{ap, ◌∙◌, subst, inl, inr, ⊎_elim, arith, length-set, get_or-set_same, Option}
use mathlib.Core.Option.{Option as Maybe}
use Rattle.std.proofs.lemmas.List.{set-get_or}
use Rattle.atomic_table.proofs.Lists.{set_else, set_again}
use Rattle.turn_lock.specs.declared.view.View.{View}
use Rattle.turn_lock.specs.Entries.{Begins, owned_by, owned}
use Rattle.turn_lock.specs.Numbers.{has}
use Rattle.turn_lock.specs.Turns.{At, FitsLock, Counts, IsTaken, IsFree, IsHeld, IsKept}
use Rattle.turn_lock.proofs.Booleans.{off}
use Rattle.turn_lock.proofs.Places.{at_same, at_place, at_changed}
use Rattle.turn_lock.proofs.Views.{St, table, holds_of, before_changed, counts_stay}

-- the view with what steps on the turn change
abbrev pub moved : {E N : Type 0} → View E N → Bool → List E → List E → List E → ℕ → View E N
moved v holds seen mine told next = record v { holds = holds; seen = seen; mine = mine; told = told; next = next }

module _ {T E N : Type 0} (entries : T → List E) (owner : E → Option ℕ) (name_of : T → N) where
  abbrev Kept : N → St T E N → Type 0
  Kept = IsKept entries owner name_of

  abbrev Turn : List E → N → St T E N → Type 0
  Turn log name s = IsFree entries owner name_of log name s ⊎ IsHeld entries owner name_of log s

  -- a seat that does not have the turn changes its view and no word
  pub aside :
      (name : N) (s : St T E N) (log : List E) (words' : List ℕ) (id : ℕ) (v w : View E N) → At s.views id v
      → v.holds ≡ false
      → w.holds ≡ false
      → get_or words' 0 0 ≡ get_or s.words 0 0 → Turn log name s → Turn log name (table words' s.homes (set s.views id w))
  aside name s log words' id v w at out out' same turn = ⊎_elim
      (λ (f : IsFree entries owner name_of log name s). inl (record {
        word = same ∙ f.word;
        value = f.value;
        home = f.home;
        list = f.list;
        named = f.named;
        none_holds = at_changed (λ k u. u.holds ≡ false) s.views id w out' (λ k u _ e. f.none_holds k u e);
      }))
      (λ (b : IsHeld entries owner name_of log s).
      let away : b.holder ≢ id =
      λ e. off b.holds (holds_of
      (at_same s.views id b.view v (at_place s.views b.holder id b.view e b.there) at) ∙ out) in
      inr (record {
        word = subst IsTaken (sym same) b.word;
        holder = b.holder;
        view = b.view;
        there = set_else s.views id b.holder w away ∙ b.there;
        lives = b.lives;
        holds = b.holds;
        list = b.list;
        alone =
            at_changed (λ k u. u.holds ≡ true → k ≡ b.holder) s.views id w (λ h. absurd (off h out'))
            (λ k u _ e. b.alone k u e);
      }))
      turn

  module _ (name : N) (s : St T E N) (r : Kept name s) (id : ℕ) (v : View E N) (at : At s.views id v) where
    -- the first seat is where it was, and counts as before
    first_stays : (holds : Bool) (seen mine told : List E) (next : ℕ) (gave' : ℕ → List E)
        → ((f : View E N) → At s.views 0 f → (p : ℕ) → 0 < p → has p f.out ≡ false → gave' p ≡ r.gave p)
        → (k : ℕ) (f : View E N) → At (set s.views id (moved v holds seen mine told next)) k f → k ≡ 0
        → (f.lives ≡ true) × (f.is_first ≡ true) × Counts (set s.views id (moved v holds seen mine told next)) gave' f
    first_stays holds seen mine told next gave' same =
        let w = moved v holds seen mine told next in
        let views' = set s.views id w in
        let was = before_changed s.views id v w at refl refl refl in
        at_changed (λ k f. k ≡ 0 → (f.lives ≡ true) × (f.is_first ≡ true) × Counts views' gave' f) s.views id w
        (λ z.
        let there = at_place s.views id 0 v z at in
        let known = r.first v there in
        let c = counts_stay s.views views' r.gave gave' v was (same v there) known.2 in (
          known.0,
          known.1,
          record {
            zero_is_first = c.zero_is_first;
            bound = c.bound;
            outside = c.outside;
            back = c.back;
            above = c.above;
            came = c.came;
          },
        ))
        (λ k f _ e z.
        let there = at_place s.views k 0 f z e in
        let known = r.first f there in
        (known.0, known.1, counts_stay s.views views' r.gave gave' f was (same f there) known.2))

    -- the seat's view moves, and the list and what was given may grow
    pub moves : (holds : Bool) (seen mine told : List E) (next : ℕ) (log' : List E) (gave' : ℕ → List E)
        → FitsLock owner log' gave' name (moved v holds seen mine told next)
        → ((k : ℕ) (u : View E N) → k ≢ id → At s.views k u → u.lives ≡ true → FitsLock owner log' gave' name u)
        → ((p : ℕ) → owned_by owner p log' ≡ owned owner (gave' p))
        → ((f : View E N) → At s.views 0 f → (p : ℕ) → 0 < p → has p f.out ≡ false → gave' p ≡ r.gave p)
        → (words' : List ℕ) (homes' : List (Maybe (Option T))) → length words' ≡ 1
        → Turn log' name (table words' homes' (set s.views id (moved v holds seen mine told next)))
        → Kept name (table words' homes' (set s.views id (moved v holds seen mine told next)))
    moves holds seen mine told next log' gave' fit fits owners same words' homes' wide turn =
        let w = moved v holds seen mine told next in
        let was = before_changed s.views id v w at refl refl refl in
        record {
          wide = wide;
          log = log';
          gave = gave';
          turn = turn;
          fits = at_changed (λ _ u. u.lives ≡ true → FitsLock owner log' gave' name u) s.views id w (λ _. fit) fits;
          owners = owners;
          apart = λ j k u y eu ey lu ly e.
              let a = was j u eu in
              let b = was k y ey in
              r.apart j k a.view b.view a.there b.there (a.lives ∙ lu) (b.lives ∙ ly) (a.caller ∙ e ∙ sym b.caller);
          first = λ f e. first_stays holds seen mine told next gave' same 0 f e refl;
          one_first = λ k u e is.
              let a = was k u e in
              r.one_first k a.view a.there (a.is_first ∙ is);
        }

    -- nothing moves at all
    pub unmoved : Kept name (table (set s.words 0 (get_or s.words 0 0)) s.homes (set s.views id v))
    unmoved =
        subst (λ (z : List ℕ × List (View E N)). Kept name (table z.0 s.homes z.1))
        (λ i. (sym (set-get_or s.words 0 0) i, sym (set_again s.views id v at) i)) r

    -- nothing moves, and the word of a turn that is taken shows it in this way
    pub shows : (word : ℕ) → IsTaken word → IsHeld entries owner name_of r.log s
        → Kept name (table (set s.words 0 word) s.homes (set s.views id v))
    shows word taken b =
        subst (λ (views : List (View E N)). Kept name (table (set s.words 0 word) s.homes views))
        (sym (set_again s.views id v at))
        (record {
          wide = length-set s.words 0 word ∙ r.wide;
          log = r.log;
          gave = r.gave;
          turn = inr (record {
            word = let wide = r.wide in subst IsTaken (sym (get_or-set_same s.words 0 word 0 (omega arith))) taken;
            holder = b.holder;
            view = b.view;
            there = b.there;
            lives = b.lives;
            holds = b.holds;
            list = b.list;
            alone = b.alone;
          });
          fits = r.fits;
          owners = r.owners;
          apart = r.apart;
          first = r.first;
          one_first = r.one_first;
        })

    -- a seat without the turn looks, or changes what says nothing of others
    pub looks : (seen told : List E) (next : ℕ) → v.lives ≡ true → v.holds ≡ false → Begins seen r.log → Begins told r.log
        → owned_by owner v.caller seen ≡ owned owner v.mine
        → (words' : List ℕ) → words' ≡ s.words
        → Kept name (table words' s.homes (set s.views id (record v { seen = seen; told = told; next = next })))
    looks seen told next lives out b c own words' same =
        let f = r.fits id v at lives in
        moves v.holds seen v.mine told next r.log r.gave
        (record { seen = b; told = c; mine = f.mine; own = own; named = f.named })
        (λ k u _ e l. r.fits k u e l)
        r.owners
        (λ _ _ _ _ _. refl)
        words'
        s.homes
        (ap length same ∙ r.wide)
        (aside name s r.log words' id v (record v { seen = seen; told = told; next = next }) at out out
        (ap (λ (l : List ℕ). get_or l 0 0) same) r.turn)
