use Rattle.std.proofs.Common.{◌≡◌, ℕ, ◌+◌, ◌++◌, List, length, take, drop, arith, refl, ap, sym, subst, ◌∙◌}
use Rattle.std.proofs.lemmas.List.{take_at}
use Rattle.vote_spread.specs.Class.{AreOf}
use Rattle.vote_spread.specs.KeepingSeen.{KeepingSeen, settled, classes_of}
use Rattle.vote_spread.specs.Stem.{Stem}
use Rattle.vote_spread.specs.Rows.{seen, total}
use Rattle.shared_work.specs.Shares.{share}
use Rattle.vote_spread.specs.Shares.{share_of, CanCount, HasCounted}
use Rattle.vote_spread.specs.LaneSeen.{LaneSeen, IsFit}
use Rattle.vote_spread.proofs.WalkLemmas.{part-le}
use Rattle.vote_spread.proofs.lane.Lane.count.Goals as goal

-- what the rows of a lane that is fit give in all
fit_total :
    (keeping own : KeepingSeen) (stems rows : List Stem) (k lanes p : ℕ) (lane : LaneSeen)
    → CanCount keeping stems → IsFit (settled keeping) stems k lanes lane → rows ≡ lane.rows → own ≡ keeping
    → total own.one own.keeps (p + 1) rows ≡ share_of keeping.one keeping.keeps (p + 1) stems k lanes
fit_total keeping own stems rows k lanes p lane can fit is same =
    let are : AreOf keeping.one keeping.keeps (classes_of keeping) =
    record { whole = can.whole; same = refl } in
    ap (λ (v : KeepingSeen). total v.one v.keeps (p + 1) rows) same
    ∙ (ap (total keeping.one keeping.keeps (p + 1)) is
    ∙ (fit.rows refl).gives keeping.one keeping.keeps (p + 1) are)

pub walk-requires-clause-room : goal.walk-requires-clause-room
walk-requires-clause-room c =
    let keeping = c.args.task.now.keeping in
    let stems = c.args.task.now.branches in
    let k = c.args.admission.number in
    let n = c.args.count in
    let rows : seen c.as_slice.result.now ≡ c.renew.new.self.rows =
    ap seen c.as_slice.ensures.value ∙ ap (λ (l : LaneSeen). l.rows) c.self.view_is in
    let many : length c.as_mut_slice-2.result.now ≡ length keeping.keeps =
    ap length c.as_mut_slice-2.ensures.value
    ∙ (ap (λ (l : LaneSeen). length l.tally) c.self.view_is
    ∙ (ap length c.renew.ensures.same_tally ∙ c.requires.of_all)) in
    let fit : IsFit (settled keeping) stems k n c.renew.new.self =
    subst (λ m. IsFit (settled keeping) stems m n c.renew.new.self) c.number.ensures c.renew.ensures.fit in
    λ p lt.
    let whole =
    fit_total keeping c.leaving.result stems (seen c.as_slice.result.now) k n p c.renew.new.self
    c.requires.can fit rows c.leaving.ensures in
    let room = c.requires.can.room p (omega arith) in
    omega (
      arith,
      whole,
      part-le keeping.one keeping.keeps (p + 1) stems (share (length stems) k n)
          (share (length stems) (k + 1) n),
    )

pub returns-clause-counted : goal.returns-clause-counted
returns-clause-counted c =
    let keeping = c.args.task.now.keeping in
    let stems = c.args.task.now.branches in
    let k = c.args.admission.number in
    let n = c.args.count in
    let inside = c.self.inside in
    let new = c.walk.new.tally in
    let rows : seen c.as_slice.result.now ≡ c.renew.new.self.rows =
    ap seen c.as_slice.ensures.value ∙ ap (λ (l : LaneSeen). l.rows) c.self.view_is in
    let same : length new ≡ length inside.tally.items =
    c.walk.ensures.same_length ∙ ap length c.as_mut_slice-2.ensures.value in
    let many : length inside.tally.items ≡ length keeping.keeps =
    ap (λ (l : LaneSeen). length l.tally) c.self.view_is ∙ (ap length c.renew.ensures.same_tally ∙ c.requires.of_all) in
    let fit : IsFit (settled keeping) stems k n c.renew.new.self =
    subst (λ m. IsFit (settled keeping) stems m n c.renew.new.self) c.number.ensures c.renew.ensures.fit in
    let all : take inside.tally.len (new ++ drop (length new) inside.tally.items) ≡ new =
    take_at new (drop (length new) inside.tally.items) inside.tally.len
    (omega (arith, inside.tally.ok.0)) in
    subst (λ (t : List ℕ). HasCounted keeping stems k n t) (sym all)
    (record {
      of_all = same ∙ many;
      share =
          λ p lt.
          c.walk.ensures.total p (omega (arith, ap length c.as_mut_slice-2.ensures.value))
          ∙ fit_total keeping c.leaving.result stems (seen c.as_slice.result.now) k n p c.renew.new.self
          c.requires.can fit rows c.leaving.ensures;
    })
