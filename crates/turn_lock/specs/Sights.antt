-- What contracts see of a seat.
use Rattle.std.specs.Prelude.{◌≡◌, ℕ, Bool, true, false, ◌==◌, List, [], ◌∷◌, ◌++◌, Option, if◌then◌else◌}
use Rattle.atomic_table.specs.Seated.{TableId}
use Rattle.turn_lock.specs.declared.view.Gave.{Gave}
use Rattle.turn_lock.specs.declared.view.View.{View}
use Rattle.turn_lock.specs.Entries.{longer, taken_in, owned_by, owned, MayGive}
use Rattle.turn_lock.specs.Numbers.{without}

pub record Sight (E N : Type 0) : Type 0 where
  -- the lock that it is of, and the name that this lock was made with
  pub lock : TableId
  pub name : Option N
  -- whether it is the lock's first seat, its number, and whether it has the turn
  pub is_first : Bool
  pub caller : ℕ
  pub holds : Bool
  -- the entries that it has seen, and those of them that it gave
  pub seen : List E
  pub mine : List E
  -- of the first seat: the greatest number given, the numbers of the seats that are out, and what the seats gave that it took in
  pub given : ℕ
  pub out : List ℕ
  pub joined : List (Gave E)

-- a seat's view, at its lock, as contracts see it
abbrev pub sight_of : {E N : Type 0} → TableId → View E N → Sight E N
sight_of lock v = record {
  lock = lock;
  name = v.name;
  is_first = v.is_first;
  caller = v.caller;
  holds = v.holds;
  seen = v.seen;
  mine = v.mine;
  given = v.given;
  out = v.out;
  joined = v.joined;
}

module _ {E N : Type 0} where
  -- the first seat of a new lock
  abbrev pub first_sight : TableId → Option N → Sight E N
  first_sight lock name = record {
    lock = lock;
    name = name;
    is_first = true;
    caller = 0;
    holds = false;
    seen = [];
    mine = [];
    given = 0;
    out = [];
    joined = [];
  }

  -- a seat with this number, which the first seat s made: it has seen what s has seen, and gave nothing
  abbrev pub new_sight : Sight E N → ℕ → Sight E N
  new_sight s caller = record (first_sight s.lock s.name) { is_first = false; caller = caller; seen = s.seen }

  -- the first seat, once it made a seat with this number
  abbrev pub sight_after_split : Sight E N → ℕ → Sight E N
  sight_after_split s caller = record s { given = caller; out = caller ∷ s.out }

  -- the first seat, once it took in this other: it has seen the longer of both, and keeps the other's number with what that gave
  abbrev pub sight_after_join : Sight E N → Sight E N → Sight E N
  sight_after_join s other = record s {
    seen = longer s.seen other.seen;
    out = without other.caller s.out;
    joined = record { caller = other.caller; mine = other.mine } ∷ s.joined;
  }

  -- what the seat of this number gave: this seat, or one that it took in
  abbrev pub given_by : Sight E N → ℕ → List E
  given_by s p = if p == s.caller then s.mine else taken_in p s.joined

  module _ (owner : E → Option ℕ) where
    -- of the entries that the seat has seen, its own are exactly the owned ones that it gave
    abbrev pub KnowsOwn : Sight E N → Type 0
    KnowsOwn s = owned_by owner s.caller s.seen ≡ owned owner s.mine

    -- the list is what the seat has seen and one entry more, which it may give
    abbrev pub AddsOne : Sight E N → List E → Type 0
    AddsOne s list = (e : E) × (list ≡ s.seen ++ e ∷ []) × MayGive owner s.caller e
