use Rattle.std.proofs.Common.{Option, ◌++◌, ◌∷◌, [], refl, sym, subst, ℕ}
use Rattle.ballot_table.specs.Held.{IsHolding}
use Rattle.ballot_table.proofs.HeldLemmas.{put_none}
use Rattle.ballot_table.proofs.holders.Holders.put.Goals as goal

pub returns-in-None-clause-holding : goal.returns-in-None-clause-holding
returns-in-None-clause-holding c = λ ranks is.
    put_none ranks _ _ _ (subst (IsHolding ranks) (sym c.self.view_is) is) refl refl (λ r is_r from_one inside. cc)

pub returns-in-Some-clause-holding : goal.returns-in-Some-clause-holding
returns-in-Some-clause-holding c = λ ranks is.
    subst (λ (q : Option ℕ). IsHolding (ranks ++ q ∷ []) c.hold.new.self) (sym c.in-Some.is)
    (c.hold.ensures.holding ranks is)
