-- Views of seats before and after a step: which seat a view is of, and how the first seat counts them.
use Rattle.std.proofs.Common.{◌≡◌, ℕ, ◌<◌, true, false, List, set, refl, ap, ◌∙◌, subst, Option}
use mathlib.Core.Option.{Option as Maybe}
use Rattle.atomic_table.specs.Table.{State, Me}
use Rattle.turn_lock.specs.declared.view.View.{View}
use Rattle.turn_lock.specs.Numbers.{has}
use Rattle.turn_lock.specs.Turns.{At, Counts}
use Rattle.turn_lock.proofs.Places.{at_changed}

-- what a lock's table is, and what a seat knows and has
abbrev pub St : Type 0 → Type 0 → Type 0 → Type 0
St T E N = State (Option T) (View E N)

abbrev pub Sat : Type 0 → Type 0 → Type 0 → Type 0
Sat T E N = Me (Option T) (View E N)

abbrev pub table : {T E N : Type 0} → List ℕ → List (Maybe (Option T)) → List (View E N) → St T E N
table words homes views = record { words = words; homes = homes; views = views }

module _ {E N : Type 0} where
  pub lives_of : {u v : View E N} → u ≡ v → u.lives ≡ v.lives
  lives_of e = ap (λ (z : View E N). z.lives) e

  pub holds_of : {u v : View E N} → u ≡ v → u.holds ≡ v.holds
  holds_of e = ap (λ (z : View E N). z.holds) e

  pub caller_of : {u v : View E N} → u ≡ v → u.caller ≡ v.caller
  caller_of e = ap (λ (z : View E N). z.caller) e

  -- the place k had a view of the same seat before
  pub record Before (views : List (View E N)) (k : ℕ) (u : View E N) : Type 0 where
    pub view : View E N
    pub there : At views k view
    pub lives : view.lives ≡ u.lives
    pub is_first : view.is_first ≡ u.is_first
    pub caller : view.caller ≡ u.caller

  -- after a change of one view that leaves which seat it is of, each place had a view of its seat before
  pub before_changed :
      (views : List (View E N)) (id : ℕ) (v w : View E N) → At views id v → v.lives ≡ w.lives
      → v.is_first ≡ w.is_first
      → v.caller ≡ w.caller
      → (k : ℕ) (u : View E N) → At (set views id w) k u → Before views k u
  before_changed views id v w at lives is_first caller = at_changed (Before views) views id w
      (record { view = v; there = at; lives = lives; is_first = is_first; caller = caller })
      (λ k u _ e. record { view = u; there = e; lives = refl; is_first = refl; caller = refl })

  -- the first seat counts the same seats, where no number that is back gave more
  pub counts_stay : (views views' : List (View E N)) (gave gave' : ℕ → List E) (f : View E N)
      → ((k : ℕ) (u : View E N) → At views' k u → Before views k u)
      → ((p : ℕ) → 0 < p → has p f.out ≡ false → gave' p ≡ gave p) → Counts views gave f → Counts views' gave' f
  counts_stay views views' gave gave' f was same c = record {
    zero_is_first = c.zero_is_first;
    bound = c.bound;
    outside = λ k u e lives other.
        let b = was k u e in
        subst (λ p. has p f.out ≡ true) b.caller (c.outside k b.view b.there (b.lives ∙ lives) (b.is_first ∙ other));
    back = λ p some_p gone. same p some_p gone ∙ c.back p some_p gone;
    above = c.above;
    came = c.came;
  }
