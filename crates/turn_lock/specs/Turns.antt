-- The rule of a lock: who has the turn, what each seat has seen, and what each number gave.
use Rattle.std.specs.Prelude.{◌≡◌, ℕ, ◌<◌, ◌≤◌, ◌⊎◌, true, false, List, [], ◌∷◌, length, slice_index, Option, Some, None}
use mathlib.Core.Option.{some}
use lib.ListN.{get_elem?}
use Rattle.atomic_table.specs.Table.{State}
use Rattle.turn_lock.specs.declared.view.Gave.{Gave}
use Rattle.turn_lock.specs.declared.view.View.{View}
use Rattle.turn_lock.specs.Entries.{Begins, taken_in, owned_by, owned}
use Rattle.turn_lock.specs.Numbers.{has}

-- the word shows that a seat has the turn: 1, or 2 where others may wait for it
abbrev pub IsTaken : ℕ → Type 0
IsTaken word = (word ≡ 1) ⊎ (word ≡ 2)

module _ {E N : Type 0} where
  -- the view of a seat that was taken in: it knows nothing
  abbrev pub spent : View E N
  spent = record {
    lives = false;
    is_first = false;
    holds = false;
    caller = 0;
    name = None;
    seen = [];
    mine = [];
    told = [];
    given = 0;
    next = 0;
    out = [];
    prior = [];
    joined = [];
  }

  -- the view of the first seat of a new lock
  abbrev pub opener : Option N → View E N
  opener name = record spent { lives = true; is_first = true; name = name }

  -- the view of a new seat with this number, which has seen these entries
  abbrev pub newcomer : ℕ → Option N → List E → View E N
  newcomer caller name seen = record spent { lives = true; caller = caller; name = name; seen = seen }

  -- the seat at this place has this view
  abbrev pub At : List (View E N) → ℕ → View E N → Type 0
  At views k v = get_elem? views k ≡ some v

  -- the first seat's view f counts the numbers: each other seat has one that is out, each that is
  -- out was given, and what a number gave that is back was kept
  pub record Counts (views : List (View E N)) (gave : ℕ → List E) (f : View E N) : Type 0 where
    pub zero_is_first : f.caller ≡ 0
    pub bound : (p : ℕ) → has p f.out ≡ true → (0 < p) × (p ≤ f.given)
    pub outside : (k : ℕ) (v : View E N) → At views k v → v.lives ≡ true → v.is_first ≡ false
        → has v.caller f.out ≡ true
    pub back : (p : ℕ) → 0 < p → has p f.out ≡ false → gave p ≡ taken_in p f.joined
    pub above : (p : ℕ) → f.given < p → taken_in p f.joined ≡ []
    pub came : (g : Gave E) (gs : List (Gave E)) → f.joined ≡ g ∷ gs → has g.caller f.prior ≡ true

  module _ (owner : E → Option ℕ) where
    -- a seat's view fits the lock's list: what it has seen begins the list, it gave what it says,
    -- and it has seen all entries of its own
    pub record FitsLock (log : List E) (gave : ℕ → List E) (name : N) (v : View E N) : Type 0 where
      pub seen : Begins v.seen log
      pub told : Begins v.told log
      pub mine : v.mine ≡ gave v.caller
      pub own : owned_by owner v.caller v.seen ≡ owned owner v.mine
      pub named : v.name ≡ Some name

  module _ {T : Type 0} (entries : T → List E) (owner : E → Option ℕ) (name_of : T → N) where
    -- the turn is free: the value is at home, its entries are the list, and no seat has the turn
    pub record IsFree (log : List E) (name : N) (s : State (Option T) (View E N)) : Type 0 where
      pub word : slice_index s.words 0 ≡ 0
      pub value : T
      pub home : get_elem? s.homes 0 ≡ some (some (Some value))
      pub list : entries value ≡ log
      pub named : name_of value ≡ name
      pub none_holds : (k : ℕ) (v : View E N) → At s.views k v → v.holds ≡ false

    -- the turn is taken: one seat has it, and has seen the list
    pub record IsHeld (log : List E) (s : State (Option T) (View E N)) : Type 0 where
      pub word : IsTaken (slice_index s.words 0)
      pub holder : ℕ
      pub view : View E N
      pub there : At s.views holder view
      pub lives : view.lives ≡ true
      pub holds : view.holds ≡ true
      pub list : view.seen ≡ log
      pub alone : (k : ℕ) (v : View E N) → At s.views k v → v.holds ≡ true → k ≡ holder

    -- what holds between any two steps, with the lock's list and what each number gave
    pub record IsKept (name : N) (s : State (Option T) (View E N)) : Type 0 where
      pub wide : length s.words ≡ 1
      pub log : List E
      pub gave : ℕ → List E
      pub turn : IsFree log name s ⊎ IsHeld log s
      pub fits : (k : ℕ) (v : View E N) → At s.views k v → v.lives ≡ true → FitsLock owner log gave name v
      -- the entries of an owner are those that this number gave
      pub owners : (p : ℕ) → owned_by owner p log ≡ owned owner (gave p)
      -- no two seats have one number
      pub apart : (j k : ℕ) (u v : View E N) → At s.views j u → At s.views k v → u.lives ≡ true → v.lives ≡ true
          → u.caller ≡ v.caller → j ≡ k
      -- the seat at place 0 is the first, and no other is
      pub first : (f : View E N) → At s.views 0 f → (f.lives ≡ true) × (f.is_first ≡ true) × Counts s.views gave f
      pub one_first : (k : ℕ) (v : View E N) → At s.views k v → v.is_first ≡ true → k ≡ 0
