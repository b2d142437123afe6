use Rattle.std.proofs.Common.{ap, sym, subst, List, ℕ}
use Rattle.std.specs.Prelude.{IsPermutation}
use Rattle.plain_ballots.specs.Ballots.{plain}
use Rattle.meek_rule.specs.Rule.{Warren}
use Rattle.meek_rule.specs.Situation.{Situation}
use Rattle.sheet_check.proofs.Counted.{IsCountOf, wrote_sheet}
use Rattle.sheet_check.proofs.counting.write_warren.Goals as goal

-- the plan's ballots are the ballots in another order
pub returns : goal.returns
returns g c =
    let ballots = c.in_ok-spread.spread.ballots in
    let of : IsCountOf c.args.terms.now.omega ballots c.args.roll.now c.args.terms.now.lots c.in_ok-count.count = record {
      omega_is = ap (λ (now : Situation). now.omega) c.in_ok-count.ensures.opens;
      ballots_are = c.in_ok-count.ensures.ballots;
      roll_is = c.in_ok-count.ensures.roll;
      lots_are = c.in_ok-count.ensures.lots;
    } in
    let moved : IsPermutation ballots (plain c.args.ballots.lines) =
    subst (λ (b : List (List ℕ)). IsPermutation b (plain c.args.ballots.lines)) (sym c.in_ok-spread.ensures.ballots)
    c.in_ok-plans.ensures.ballots in
    wrote_sheet g.K.Sink.written g.K.Sink.faults c.args.sink.now c.write_sheet.new.sink Warren g.row.P c.args.terms.now.omega ballots
    (plain c.args.ballots.lines) c.args.roll.now c.args.terms.now.lots c.in_ok-count.count c.write_sheet.result of
    c.sheets_are_unique.ensures.orders moved c.write_sheet.ensures.all c.write_sheet.ensures.front
    c.write_sheet.ensures.faults
