use Rattle.std.proofs.Common.{◌≡◌, ◌⊎◌, List, [], ◌∷◌, ◌++◌, Bool, cond, not, inl, inr, ⊎_elim, sym, ap, ◌∙◌, subst, map}
use Rattle.std.specs.Slice.Iter.{iter_rest, iter_mut_rest}
use Rattle.std.specs.Iterator.Adapters.{zip_first, zip_second}
use Rattle.std.proofs.lemmas.List.{nil_from_length}
use Rattle.lane_sheet.specs.Due.{CountDue, dues_of}
use Rattle.lane_sheet.proofs.BegunCounts.{IsBeginning, begun_more, begun_all}
use Rattle.lane_sheet.proofs.begun_counts.begin_counts.Goals as goal

pub loop-roll-preserved : goal.loop-roll-preserved
loop-roll-preserved g c =
    let items : c.push.new.self.items ≡ c.loop-roll.counts.items ++ c.in_ok-count.count ∷ [] =
    c.push.ensures.items
    ∙ ap (λ (ok : Bool). cond ok (c.loop-roll.counts.items ++ c.in_ok-count.count ∷ []) c.loop-roll.counts.items)
    (c.is_err-in-loop-roll-2.ensures.negation ∙ ap not c.if-is_err.false) in
    let all = dues_of c.args.omega c.args.lots.now c.args.rolls.now (map g.D.Spread.ballots c.args.spreads.now) in
    let more =
    begun_more g.D.Spread.ballots g.D.Spread.candidates g.D.Spread.can_spread g.row.P c.args.omega
    c.args.lots.now c.loop-roll.invariant.2 c.in-Some.roll.now _ c.in-Some.spread.now _ c.in_ok-count.count
    c.in-Some.ensures.steps.0 c.in-Some.ensures.steps.1 c.in_ok-count.ensures.due
    c.in_ok-count.ensures.sheet in (
      (tt, tt),
      tt,
      subst (λ (begun : List CountDue). IsBeginning g.D.Spread.ballots g.D.Spread.candidates
          g.D.Spread.can_spread g.row.P c.args.omega c.args.lots.now all begun
          (iter_rest (zip_first c.next.new.self)) (iter_mut_rest (zip_second c.next.new.self))) (sym items)
          more,
    )

pub returns-clause-due : goal.returns-clause-due
returns-clause-due g c =
    let rolls = iter_rest (zip_first c.loop-roll.roll-iterator) in
    let spreads = iter_mut_rest (zip_second c.loop-roll.roll-iterator) in
    let left : (rolls ≡ []) ⊎ (spreads ≡ []) =
    ⊎_elim
    (λ first. inl (nil_from_length rolls first.1.0))
    (λ second. inr (nil_from_length spreads second.1.0))
    c.in-None.ensures.steps in
    begun_all g.D.Spread.ballots g.D.Spread.candidates g.D.Spread.can_spread g.row.P c.args.omega
    c.args.lots.now c.loop-roll.invariant.2 left
