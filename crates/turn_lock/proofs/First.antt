-- The first seat of a lock: where it stands, and what it knows of the numbers that it may give.
use Rattle.std.proofs.Common.{◌≡◌, ℕ, ◌<◌, true, false, List, [], sym, ap, ◌∙◌, arith, Option}
use Rattle.std.proofs.lemmas.List.Elements.{filter-append}
use Rattle.turn_lock.specs.declared.view.View.{View}
use Rattle.turn_lock.specs.Entries.{owned_by, owned}
use Rattle.turn_lock.specs.Numbers.{has}
use Rattle.turn_lock.specs.Turns.{At, Counts, IsKept}
use Rattle.turn_lock.proofs.Booleans.{is_false}
use Rattle.turn_lock.proofs.Owned.{nothing_left}
use Rattle.turn_lock.proofs.Places.{at_place}
use Rattle.turn_lock.proofs.Views.{St}

module _ {T E N : Type 0} (entries : T → List E) (owner : E → Option ℕ) (name_of : T → N) where
  module _ (name : N) (s : St T E N) (r : IsKept entries owner name_of name s) (id : ℕ) (v : View E N) (at : At s.views id v)
      (first : v.is_first ≡ true) where
    pub is_zero : id ≡ 0
    is_zero = r.one_first id v at first

    pub counts : Counts s.views r.gave v
    counts = (r.first v (at_place s.views id 0 v is_zero at)).2

    -- a number above all given is not out
    pub new_is_not_out : (c : ℕ) → v.given < c → has c v.out ≡ false
    new_is_not_out c above = is_false (has c v.out) (λ h. let x = (counts.bound c h).1 in omega arith)

    -- it gave nothing
    pub new_gave_nothing : (c : ℕ) → v.given < c → r.gave c ≡ []
    new_gave_nothing c above = counts.back c (omega arith) (new_is_not_out c above) ∙ counts.above c above

    -- and it owns nothing that was seen
    pub new_owns_nothing : (c : ℕ) → v.lives ≡ true → v.given < c → owned_by owner c v.seen ≡ []
    new_owns_nothing c lives above =
        let seen = (r.fits id v at lives).seen in
        nothing_left (owned_by owner c v.seen) (owned_by owner c seen.0)
        (sym (filter-append _ v.seen seen.0)
        ∙ (ap (owned_by owner c) (sym seen.1) ∙ (r.owners c ∙ ap (owned owner) (new_gave_nothing c above))))
