-- What each step on a lock does to the view of the seat that makes it, and what it tells.
use Rattle.std.specs.Prelude.{◌≡◌, ◌<◌, ◌≢◌, ℕ, true, false, List, [], ◌∷◌, ◌++◌, Option, Some}
use Rattle.atomic_table.specs.Table.{Me, Step}
use Rattle.turn_lock.specs.declared.view.Gave.{Gave}
use Rattle.turn_lock.specs.declared.view.View.{View}
use Rattle.turn_lock.specs.Entries.{Begins, longer, owned_by, owned}
use Rattle.turn_lock.specs.Numbers.{has, without}
use Rattle.turn_lock.specs.Turns.{newcomer}

module _ {E N : Type 0} where
  -- the seat has the turn, and has seen this list
  abbrev pub with_turn : List E → View E N → View E N
  with_turn log v = record v { holds = true; seen = log }

  -- the seat gave the turn back
  abbrev pub without_turn : View E N → View E N
  without_turn v = record v { holds = false }

  -- the seat gave the turn back, and these entries with it
  abbrev pub after_gift : List E → View E N → View E N
  after_gift new v = record v { holds = false; seen = v.seen ++ new; mine = v.mine ++ new }

  -- the first seat, which gives this number next
  abbrev pub with_next : ℕ → View E N → View E N
  with_next caller v = record v { next = caller }

  -- the first seat, which gave its next number
  abbrev pub after_split : View E N → View E N
  after_split v = record v { given = v.next; out = v.next ∷ v.out }

  -- the seat that got the number
  abbrev pub newcomer_of : View E N → View E N
  newcomer_of v = newcomer v.next v.name v.seen

  -- the first seat v, which took in the seat w
  abbrev pub after_join : View E N → View E N → View E N
  after_join v w = record v {
    told = w.seen;
    out = without w.caller v.out;
    prior = v.out;
    joined = record { caller = w.caller; mine = w.mine } ∷ v.joined;
  }

  -- the first seat, which has then seen what it was told of
  abbrev pub after_look : View E N → View E N
  after_look v = record v { seen = longer v.seen v.told; told = [] }

  module _ {T : Type 0} (entries : T → List E) (owner : E → Option ℕ) (name_of : T → N) where
    -- a seat's view, with the slots that it has taken
    abbrev Sat : Type 0
    Sat = Me (Option T) (View E N)

    -- the seat gained the turn with the value
    pub record Gained (m m' : Sat) : Type 0 where
      pub value : T
      pub slot : m'.1 ≡ (0, Some value) ∷ m.1
      pub view : m'.0 ≡ with_turn (entries value) m.0
      pub sees : Begins m.0.seen (entries value)
      pub named : m.0.name ≡ Some (name_of value)
      pub mine : owned_by owner m.0.caller (entries value) ≡ owned owner m.0.mine
      pub was_free : m.0.holds ≡ false

    -- a try that found the turn free gained it, and any other left the seat as it was
    abbrev pub Tries : Step (Option T) → Sat → ℕ → Sat → Type 0
    Tries st m r m' = (r ≡ 0 → Gained m m') × (r ≢ 0 → m' ≡ m)

    -- the turn and the slot are given back, and the seat knows its own
    abbrev pub GivesBack : Step (Option T) → Sat → ℕ → Sat → Type 0
    GivesBack st m r m' = (m' ≡ (without_turn m.0, [])) × (owned_by owner m.0.caller m.0.seen ≡ owned owner m.0.mine)

    -- the same, whatever the value is that was put back, and its entry that is one more
    abbrev pub GivesWith : Step (Option T) → Sat → ℕ → Sat → Type 0
    GivesWith st m r m' = (value : T) (e : E) → m.1 ≡ (0, Some value) ∷ [] → entries value ≡ m.0.seen ++ e ∷ []
        → (m' ≡ (after_gift (e ∷ []) m.0, []))
        × (owned_by owner m.0.caller (m.0.seen ++ e ∷ []) ≡ owned owner (m.0.mine ++ e ∷ []))

    -- the operand is the next number; where it is above all given, it owns nothing that the first seat has seen
    abbrev pub TakesNumber : Step (Option T) → Sat → ℕ → Sat → Type 0
    TakesNumber st m r m' =
        (m' ≡ (with_next st.first m.0, m.1))
        × (m.0.is_first ≡ true → m.0.given < st.first → owned_by owner st.first m.0.seen ≡ [])

    -- what was seen and what was told both begin the longer of them, of which the seat knows its own, and the number
    -- that the first seat took in last was out
    abbrev pub Learns : Step (Option T) → Sat → ℕ → Sat → Type 0
    Learns st m r m' =
        (m' ≡ (after_look m.0, m.1))
        × Begins m.0.seen (longer m.0.seen m.0.told)
        × Begins m.0.told (longer m.0.seen m.0.told)
        × (owned_by owner m.0.caller (longer m.0.seen m.0.told) ≡ owned owner m.0.mine)
        × ((g : Gave E) (gs : List (Gave E)) → m.0.is_first ≡ true → m.0.joined ≡ g ∷ gs → has g.caller m.0.prior ≡ true)
