use Rattle.std.proofs.Common.{◌≡◌, ◌≢◌, ℕ, ◌+◌, ◌<◌, List, length, get_or, set, refl, sym, subst, inl, inr, arith}
use Rattle.std.proofs.lemmas.Bool.{cases_eq}
use Rattle.std.proofs.lemmas.List.{get_or-set_same, get_or-set_other}
use Rattle.std.proofs.Math.ListN.{length-set}
use Rattle.vote_spread.specs.KeepingSeen.{settled}
use Rattle.vote_spread.specs.Shares.{HasCounted}
use Rattle.vote_spread.specs.LaneSeen.{LaneSeen, IsFit}
use Rattle.vote_spread.proofs.run.run_part.Goals as goal

-- what holds at a place once a lane was put to another, or to this one
at_set :
    (P : ℕ → LaneSeen → Type 0) (l : List LaneSeen) (i : ℕ) (x : LaneSeen) → i < length l → P i x
    → (k : ℕ) (d : LaneSeen) → (k ≢ i → P k (get_or l k d)) → P k (get_or (set l i x) k d)
at_set P l i x lt here k d there = elim (cases_eq k i) [
  | inl e ↦ subst (λ n. P n (get_or (set l i x) n d)) (sym e) (subst (P i) (sym (get_or-set_same l i x d lt)) here)
  | inr other ↦ subst (P k) (sym (get_or-set_other l i k x d other)) (there other)
]

pub loop-k-init : goal.loop-k-init
loop-k-init g c = record {
  as_many = refl;
  of_all = c.requires.of_all;
  counted = λ k d h. absurd (omega (arith, h));
  renewed = λ k d h. absurd (omega (arith, h));
  fit = λ k d _ h. c.requires.fit.each k d h;
}

pub count-requires-clause-of_all : goal.count-requires-clause-of_all
count-requires-clause-of_all g c =
    c.loop-k.invariant.of_all c.loop-k.k c.index-lanes-k.result
    (omega (arith, c.loop-k-test.true, c.loop-k.invariant.as_many))

pub count-requires-clause-fit : goal.count-requires-clause-fit
count-requires-clause-fit g c =
    let lane = get_or c.loop-k.lanes c.loop-k.k c.index-lanes-k.result in
    subst (λ (n : ℕ). IsFit c.args.task.now.keeping c.args.task.now.branches n c.args.count lane)
    (sym c.pass-admission.ensures)
    (c.loop-k.invariant.fit c.loop-k.k c.index-lanes-k.result (omega arith)
    (omega (arith, c.loop-k-test.true, c.loop-k.invariant.as_many)))

pub loop-k-preserved : goal.loop-k-preserved
loop-k-preserved g c =
    let keeping = c.args.task.now.keeping in
    let stems = c.args.task.now.branches in
    let first = c.args.first in
    let count = c.args.count in
    let i = c.loop-k.k in
    let l = c.loop-k.lanes in
    let x = c.count.new.self in
    let inv = c.loop-k.invariant in
    let lt : i < length l = omega (arith, c.loop-k-test.true, inv.as_many) in
    let long : length (set l i x) ≡ length l = length-set l i x in
    let counted : HasCounted keeping stems (first + i) count x.tally =
    subst (λ (n : ℕ). HasCounted keeping stems n count x.tally) c.pass-admission.ensures
    c.count.ensures.counted in
    let fit : IsFit (settled keeping) stems (first + i) count x =
    subst (λ (n : ℕ). IsFit (settled keeping) stems n count x) c.pass-admission.ensures c.count.ensures.fit in
    record {
      as_many = omega (arith, long, inv.as_many);
      of_all =
          λ k d h. at_set (λ n (lane : LaneSeen). length lane.tally ≡ length keeping.keeps) l i x lt
          counted.of_all k
          d (λ _. inv.of_all k d (omega (arith, h, long)));
      counted =
          λ k d h. at_set (λ n (lane : LaneSeen). HasCounted keeping stems (first + n) count lane.tally) l i x
          lt counted k d (λ other. inv.counted k d (omega (arith, h, other)));
      renewed =
          λ k d h. at_set (λ n (lane : LaneSeen). IsFit (settled keeping) stems (first + n) count lane) l i x
          lt
          fit k d (λ other. inv.renewed k d (omega (arith, h, other)));
      fit =
          λ k d from h. subst (IsFit keeping stems (first + k) count)
          (sym (get_or-set_other l i k x d (λ e. omega (arith, e, from))))
          (inv.fit k d (omega (arith, from)) (omega (arith, h, long)));
    }

pub returns-clause-counted : goal.returns-clause-counted
returns-clause-counted g c =
    record {
      each =
          λ k d lt. c.loop-k.invariant.counted k d
          (omega (arith, lt, c.loop-k-test.false, c.loop-k.invariant.as_many));
    }

pub returns-clause-fit : goal.returns-clause-fit
returns-clause-fit g c =
    record {
      each =
          λ k d lt. c.loop-k.invariant.renewed k d
          (omega (arith, lt, c.loop-k-test.false, c.loop-k.invariant.as_many));
    }
