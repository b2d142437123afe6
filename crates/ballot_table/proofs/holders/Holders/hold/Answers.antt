use Rattle.std.proofs.Common.{◌≡◌, ◌-◌, ◌++◌, ◌∷◌, [], refl, arith, ap, set, subst, sym, Some}
use Rattle.ballot_table.specs.Held.{IsHolding}
use Rattle.ballot_table.proofs.HeldLemmas.{put_none, put_some}
use Rattle.ballot_table.proofs.holders.Holders.hold.Goals as goal
use Rattle.ballot_table.proofs.holders.Holders.hold.Goals.{else-rank-ge1-via-else-rank-ge1}
use Rattle.ballot_table.proofs.holders.Holders.hold.Goals.{else-rank-ge1-via-then-rank-ge1+else-rank-le-ROOM}

pub returns-then-rank-le-ROOM-clause-holding : goal.returns-then-rank-le-ROOM-clause-holding
returns-then-rank-le-ROOM-clause-holding c = λ ranks is.
    let r = c.args.rank in
    put_some ranks r (r - 1) _ _ (subst (IsHolding ranks) (sym c.self.view_is) is) refl (omega arith) (omega arith)
    (ap (set c.self.inside.held (r - 1)) c.with.ensures)

pub returns-else-rank-ge1-clause-holding : goal.returns-else-rank-ge1-clause-holding
returns-else-rank-ge1-clause-holding c = λ ranks is.
    let old = subst (IsHolding ranks) (sym c.self.view_is) is in
    elim c.else-rank-ge1.branch [
      | else-rank-ge1-via-else-rank-ge1 w ↦
          subst (IsHolding (ranks ++ Some c.args.rank ∷ [])) (sym w.self-is)
          (put_none ranks (Some c.args.rank) _ _ old refl refl
          (λ r is_r from_one inside. let same : c.args.rank ≡ r = cc is_r in omega arith))
      | else-rank-ge1-via-then-rank-ge1+else-rank-le-ROOM w ↦
          subst (IsHolding (ranks ++ Some c.args.rank ∷ [])) (sym w.self-is)
          (put_none ranks (Some c.args.rank) _ _ old refl refl
          (λ r is_r from_one inside. let same : c.args.rank ≡ r = cc is_r in omega arith))
    ]
