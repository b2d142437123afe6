-- What holds of a caller's seats after a freeze and after a strike, made or not.
use Rattle.std.proofs.Common.{◌≡◌, ℕ, List, [], ◌∷◌, ◌++◌, ap}
use Rattle.std.specs.Prelude.{Result, Ok, Err, IfOk, OnOk, OnErr}
use Rattle.turn_lock.specs.Sights.{KnowsOwn}
use Rattle.batch_core.specs.declared.reply.Reply.{Reply}
use Rattle.batch_core.specs.Book.{strike_reply}
use Rattle.call_register.specs.declared.mark.Mark.{Mark}
use Rattle.call_register.specs.declared.mark.Mark.TheVariants.{Freeze, Strike}
use Rattle.call_register.specs.Marks.{struck_by}
use Rattle.call_register.specs.Weaving.{freeze_entry}
use Rattle.shard_office.specs.declared.no_memory.NoMemory.{NoMemory}
use Rattle.shard_office.specs.Names.{strike_answer}
use Rattle.shard_office.specs.Owners.{owner_of_mark}
use Rattle.shard_office.specs.Office.{OfficeState}
use Rattle.shard_office.specs.Sight.{calls_in, GoesOn, AddsMark}
use Rattle.shard_office.specs.Moves.{Looked, Gave, Looks, GoOn}
use Rattle.shard_office.specs.Passes.{ShardSeat, RegisterSeat, sight_of, mine_of, AreAt}
use Rattle.shard_office.proofs.Called.{HaveLooked}
use Rattle.shard_office.proofs.Marked.{went, go_on, none_looked, all_looked-at, all_looked-own, all_looked-on}
use Rattle.shard_office.proofs.Marked.{marked-on, frozen-at, frozen-own, struck-at, struck-own}
use Rattle.shard_office.proofs.Mine.{nothing-mine, marked-mine}

-- what holds of a caller's seats after the mark of a freeze
pub record HaveFrozen (o : OfficeState) (p : ℕ) (seats seats' : List ShardSeat)
    (r r' : RegisterSeat) : Type 0 where
  pub at : AreAt o p seats' r'
  pub goes_on : GoesOn (sight_of seats r) (sight_of seats' r')
  pub own : calls_in p (sight_of seats' r') ≡ calls_in p (sight_of seats r) ++ freeze_entry p ∷ []
  pub mine : AddsMark (Freeze p) (mine_of seats r) (mine_of seats' r')

module _ (o : OfficeState) (p : ℕ) (seats seats' : List ShardSeat) (r r' : RegisterSeat)
    (are : AreAt o p seats r) (looks : Looks seats seats') (knows' : KnowsOwn owner_of_mark r') where
  on : GoOn seats seats'
  on = go_on seats seats' looks

  pub have_looked : Looked r r' → HaveLooked o p seats seats' r r'
  have_looked looked =
      let it = went r r' looked in
      record {
        at = all_looked-at o p seats seats' r r' are on knows' it;
        goes_on = all_looked-on o p seats seats' r r' are on knows' it;
        own = all_looked-own o p seats seats' r r' are on knows' it;
        mine = nothing-mine seats seats' r r' on it.mine;
      }

  pub have_frozen : Gave r r' (Freeze p) → HaveFrozen o p seats seats' r r'
  have_frozen gave = record {
    at = frozen-at o p seats seats' r r' are on knows' gave;
    goes_on = marked-on o p seats seats' r r' are on knows' (Freeze p) gave;
    own = frozen-own o p seats seats' r r' are on knows' gave;
    mine = marked-mine seats seats' r r' on (Freeze p) gave;
  }

-- what became of the register's seat at a strike
pub record DidStrike (p k : ℕ) (r r' : RegisterSeat) (answer : Result Reply NoMemory) : Type 0 where
  pub knows : KnowsOwn owner_of_mark r'
  pub mark : OnOk answer (Gave r r' (Strike p k))
  pub answered :
      IfOk answer
      (λ a. (front : List Mark) → r'.seen ≡ front ++ Strike p k ∷ [] → a ≡ strike_reply (struck_by front) k)
  pub refused : OnErr answer (Looked r r')

-- what holds of a caller's seats after a strike
pub record HaveStruck (o : OfficeState) (p k : ℕ) (seats : List ShardSeat) (r r' : RegisterSeat)
    (answer : Result Reply NoMemory) : Type 0 where
  pub at : AreAt o p seats r'
  pub goes_on : GoesOn (sight_of seats r) (sight_of seats r')
  pub own_are :
      IfOk answer
      (λ a. calls_in p (sight_of seats r') ≡ calls_in p (sight_of seats r) ++ strike_answer p k a ∷ [])
  pub own_stay : OnErr answer (calls_in p (sight_of seats r') ≡ calls_in p (sight_of seats r))

module _ (o : OfficeState) (p k : ℕ) (seats : List ShardSeat) (r r' : RegisterSeat)
    (are : AreAt o p seats r) where
  pub have_struck :
      (answer : Result Reply NoMemory) → DidStrike p k r r' answer
      → HaveStruck o p k seats r r' answer
  have_struck (Ok a) d =
      let still = go_on seats seats (none_looked o p seats r are) in
      record {
        at = struck-at o p seats seats r r' are still d.knows k d.mark;
        goes_on = marked-on o p seats seats r r' are still d.knows (Strike p k) d.mark;
        own_are =
            struck-own o p seats seats r r' are still d.knows k d.mark a
            (d.answered (r.seen ++ d.mark.0) (ap (λ z. z.seen) d.mark.1));
        own_stay = tt;
      }
  have_struck (Err b) d =
      let it = have_looked o p seats seats r r' are (none_looked o p seats r are) d.knows d.refused in
      record { at = it.at; goes_on = it.goes_on; own_are = tt; own_stay = it.own }
