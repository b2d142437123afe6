-- A caller's seats after a change was asked at one shard, whether it was answered or not.
use Rattle.std.proofs.Common.{◌≡◌, ℕ, ◌+◌, List, [], ◌∷◌, ◌++◌, length, set, refl, sym, subst}
use Rattle.std.specs.Prelude.{slice_get, Some, Result, Ok, Err, IfOk, OnOk, OnErr}
use Rattle.turn_lock.specs.Sights.{KnowsOwn}
use Rattle.batch_core.specs.declared.change.Change.{Change}
use Rattle.batch_core.specs.declared.reply.Reply.{Reply}
use Rattle.batch_core.specs.Histories.{IsLegal}
use Rattle.call_register.specs.declared.mark.Mark.TheVariants.{Shard}
use Rattle.call_register.specs.Marks.{marks_of}
use Rattle.shard_office.specs.declared.call_back.CallBack.{CallBack}
use Rattle.shard_office.specs.Names.{change_entry}
use Rattle.shard_office.specs.Owners.{owner_of_entry, owner_of_mark}
use Rattle.shard_office.specs.Office.{OfficeState}
use Rattle.shard_office.specs.Sight.{calls_in, GoesOn, IsChange, AddsEntry}
use Rattle.shard_office.specs.Moves.{Looked, Gave}
use Rattle.shard_office.specs.Passes.{ShardSeat, RegisterSeat, sight_of, mine_of, AreAt}
use Rattle.shard_office.proofs.Called.{have_looked_at, have_changed}

-- what became of the seat at the shard, and of that at the register
pub record Did (p s : ℕ) (asked : Change) (x y : ShardSeat) (r r' : RegisterSeat)
    (answer : Result Reply CallBack) : Type 0 where
  pub knows : KnowsOwn owner_of_entry y
  pub knows' : KnowsOwn owner_of_mark r'
  pub entry : IfOk answer (λ a. Gave x y (change_entry p asked a))
  pub mark : OnOk answer (Gave r r' (Shard s))
  pub whole : OnOk answer (marks_of s r'.seen ≡ length y.seen)
  pub legal : OnOk answer (IsLegal y.seen)
  pub refused : OnErr answer (Looked x y × Looked r r')

-- what holds of a caller's seats after it asked for a change at shard s
pub record IsAnswered (o : OfficeState) (p s : ℕ) (asked : Change) (answer : Result Reply CallBack)
    (seats seats' : List ShardSeat) (r r' : RegisterSeat) : Type 0 where
  pub at : AreAt o p seats' r'
  pub goes_on : GoesOn (sight_of seats r) (sight_of seats' r')
  pub is_change :
      IfOk answer (λ a. IsChange s (change_entry p asked a) (sight_of seats r) (sight_of seats' r'))
  pub own_are :
      IfOk answer
      (λ a. calls_in p (sight_of seats' r') ≡ calls_in p (sight_of seats r) ++ change_entry p asked a ∷ [])
  pub adds : IfOk answer (λ a. AddsEntry s (change_entry p asked a) (mine_of seats r) (mine_of seats' r'))
  pub own_stay : OnErr answer (calls_in p (sight_of seats' r') ≡ calls_in p (sight_of seats r))
  pub mine_stay : OnErr answer (mine_of seats' r' ≡ mine_of seats r)

module _ (o : OfficeState) (p : ℕ) (seats : List ShardSeat) (r r' : RegisterSeat) (i s : ℕ) (is : i + 1 ≡ s)
    (x y : ShardSeat) (at : slice_get seats i ≡ Some x) (are : AreAt o p seats r) (asked : Change) where
  mark_at : Gave r r' (Shard s) → Gave r r' (Shard (i + 1))
  mark_at m = subst (λ n. Gave r r' (Shard n)) (sym is) m

  whole_at : marks_of s r'.seen ≡ length y.seen → marks_of (i + 1) r'.seen ≡ length y.seen
  whole_at w = subst (λ n. marks_of n r'.seen ≡ length y.seen) (sym is) w

  pub answered :
      (answer : Result Reply CallBack) → Did p s asked x y r r' answer
      → IsAnswered o p s asked answer seats (set seats i y) r r'
  answered (Ok a) d =
      let e = change_entry p asked a in
      let it =
      have_changed o p seats r r' i x y at are d.knows d.knows' e refl d.entry (mark_at d.mark)
      (whole_at d.whole) d.legal in
      record {
        at = it.at;
        goes_on = it.goes_on;
        is_change = subst (λ k. IsChange k e (sight_of seats r) (sight_of (set seats i y) r')) is it.is_change;
        own_are = it.own;
        adds = subst (λ k. AddsEntry k e (mine_of seats r) (mine_of (set seats i y) r')) is it.mine;
        own_stay = tt;
        mine_stay = tt;
      }
  answered (Err b) d =
      let it = have_looked_at o p seats r r' i x y at are d.knows d.knows' d.refused.0 d.refused.1 in
      record {
        at = it.at;
        goes_on = it.goes_on;
        is_change = tt;
        own_are = tt;
        adds = tt;
        own_stay = it.own;
        mine_stay = it.mine;
      }
