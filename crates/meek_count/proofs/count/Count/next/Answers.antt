use Rattle.std.proofs.Common.{◌≡◌, ℕ, ◌≤◌, true, false, List, [], ◌∷◌, length, sum, arith, refl, ap, sym, subst, ◌∙◌}
use Rattle.std.proofs.lemmas.List.FromFn.{length-map-range_with_len}
use Rattle.fixed_place.specs.Rounding.{scale, most}
use Rattle.fixed_place.proofs.RoundingLemmas.{scale_pos}
use Rattle.meek_rule.specs.Situation.{Situation, is_complete}
use Rattle.meek_rule.specs.Iteration.{HasOnlyRunningVotes, Settle}
use Rattle.meek_rule.specs.Weights.{votes_under}
use Rattle.meek_count.specs.Progress.{Progress, RowsLead}
use Rattle.meek_count.proofs.EndLemmas.{finished-twice, on_its_way-finished}
use Rattle.meek_count.proofs.StepLemmas.{round_fits, iteration_fits, only_running, votes_fit, votes-same, keeps-elected}
use Rattle.meek_count.specs.Rows.{IteratesTo}
use Rattle.meek_count.proofs.Leading.{leads_one}
use Rattle.meek_count.proofs.WholeCount.{rows_exist}
use Rattle.meek_count.proofs.count.Count.next.Goals as goal

-- the end keeps what a count keeps
pub invariant_of-self : goal.invariant_of-self
invariant_of-self g c =
    let same : length c.finish.new.self.states ≡ length c.self.inside.situation.states =
    c.finish.ensures.same_candidates in (
      c.self.invariant.0,
      c.self.invariant.1,
      c.self.invariant.2,
      c.self.invariant.3 ∙ sym same,
      c.self.invariant.4 ∙ sym same,
      λ stand. absurd (cc),
      record {
        valid = c.finish.ensures.valid;
        on_its_way =
            rw c.finish.ensures.finished
            (on_its_way-finished _ c.self.inside.situation c.self.invariant.6.on_its_way);
        order_of_lots = c.self.invariant.6.order_of_lots;
        lots_of_all = c.self.invariant.6.lots_of_all ∙ sym same;
        names_of_all = c.self.invariant.6.names_of_all ∙ sym same;
        row_of_all = rw same c.self.invariant.6.row_of_all;
        few_ballots = c.self.invariant.6.few_ballots;
      },
    )

pub returns-then-is_complete-clause-settled : goal.returns-then-is_complete-clause-settled
returns-then-is_complete-clause-settled g c = λ is. rw c.finish.ensures.finished (finished-twice c.self.inside.situation)

-- the votes are those of the ballots, so the rule can settle them
pub settle-requires : goal.settle-requires
settle-requires g c =
    let now : Situation = c.self.inside.situation in
    let going : is_complete now ≡ false = sym c.is_complete.ensures ∙ c.if-is_complete.false in
    let cast : List ℕ =
    votes_under g.D.Spread.rule (scale g.row.P) now.keeps (g.D.Spread.ballots c.self.inside.spread)
    (length now.states) in
    let tally : c.distribute.new.tally ≡ cast =
    c.distribute.ensures.votes
    ∙ votes-same g.D.Spread.rule (scale g.row.P) c.keeps.result.now now.keeps
    (g.D.Spread.ballots c.self.inside.spread) (g.D.Spread.candidates c.self.inside.spread)
    (length now.states) c.keeps.ensures c.self.invariant.3 in
    let running : HasOnlyRunningVotes now.states c.distribute.new.tally =
    subst (λ (v : List ℕ). HasOnlyRunningVotes now.states v) (sym tally)
    (only_running g.D.Spread.rule (scale g.row.P) (g.D.Spread.ballots c.self.inside.spread) now
    (scale_pos g.row.P) c.self.invariant.6.valid) in
    let within : sum c.distribute.new.tally ≤ most g.row.P =
    rw tally (votes_fit g.D.Spread.rule g.row.P (g.D.Spread.ballots c.self.inside.spread) now
    c.self.invariant.6.valid c.self.invariant.6.few_ballots) in
    let of_all : length c.distribute.new.tally ≡ length now.states =
    ap (λ (v : List ℕ). length v) tally ∙ length-map-range_with_len _ 0 (length now.states) in (
      omega arith,
      (
        omega arith,
        (
          omega arith,
          (
            going,
            (
              round_fits (scale g.row.P) _ now c.self.invariant.6.valid c.self.invariant.6.on_its_way going,
              (
                iteration_fits g.row.P now c.self.invariant.1 c.self.invariant.6.on_its_way,
                (of_all, (c.self.invariant.6.lots_of_all, (c.self.invariant.6.row_of_all, (running, within)))),
              ),
            ),
          ),
        ),
      ),
    )

pub returns-clause-rest : goal.returns-clause-rest
returns-clause-rest g c =
    rows_exist g.D.Spread.rule (scale g.row.P) (g.D.Spread.ballots c.distribute.new.spread)
    c.self.inside.lots.now c.settle.new.self (scale_pos g.row.P) c.settle.ensures.valid
    c.self.invariant.6.order_of_lots
    (c.self.invariant.6.lots_of_all ∙ sym c.settle.ensures.same_candidates)

-- the row leads on
pub returns-clause-leads : goal.returns-clause-leads
returns-clause-leads g c = λ is.
    let now : Situation = c.self.inside.situation in
    let going : is_complete now ≡ false = sym c.is_complete.ensures ∙ c.if-is_complete.false in
    let old : Progress =
    record {
      roll = c.self.inside.roll.now;
      lots = c.self.inside.lots.now;
      ballots = g.D.Spread.ballots c.self.inside.spread;
      situation = now;
      has_row = c.self.inside.has_row;
      row = c.self.inside.row;
    } in
    let new : Progress =
    record {
      roll = c.self.inside.roll.now;
      lots = c.self.inside.lots.now;
      ballots = g.D.Spread.ballots c.distribute.new.spread;
      situation = c.settle.new.self;
      has_row = true;
      row = c.settle.new.row;
    } in
    let tally :
    c.distribute.new.tally
    ≡ votes_under g.D.Spread.rule (scale g.row.P) now.keeps old.ballots (length now.states) =
    c.distribute.ensures.votes
    ∙ votes-same g.D.Spread.rule (scale g.row.P) c.keeps.result.now now.keeps
    (g.D.Spread.ballots c.self.inside.spread) (g.D.Spread.candidates c.self.inside.spread)
    (length now.states) c.keeps.ensures c.self.invariant.3 in
    let iterates : IteratesTo g.D.Spread.rule (scale g.row.P) old.ballots old.lots now new.row new.situation =
    subst (λ (v : List ℕ). Settle (scale g.row.P) now v old.lots new.row new.situation) tally c.settle.ensures.settle in
    subst (λ (p : Progress). RowsLead g.D.Spread.rule (scale g.row.P) p (new.row ∷ []) new) c.self.view_is
    (leads_one g.D.Spread.rule (scale g.row.P) old new going iterates
    (record { roll = refl; lots = refl; ballots = c.distribute.ensures.same }))

-- an iteration keeps what a count keeps, and after an election the votes stand
pub invariant_of-self-2 : goal.invariant_of-self-2
invariant_of-self-2 g c =
    let now : Situation = c.self.inside.situation in
    let next : Situation = c.settle.new.self in
    let ballots : List (List ℕ) = g.D.Spread.ballots c.self.inside.spread in
    let candidates : ℕ = g.D.Spread.candidates c.self.inside.spread in
    let same : length next.states ≡ length now.states = c.settle.ensures.same_candidates in
    let of_all : candidates ≡ length next.states = c.self.invariant.3 ∙ sym same in
    let tally :
    c.distribute.new.tally
    ≡ votes_under g.D.Spread.rule (scale g.row.P) c.keeps.result.now ballots candidates =
    c.distribute.ensures.votes in (
      c.self.invariant.0,
      c.self.invariant.1,
      c.distribute.ensures.still_can,
      c.distribute.ensures.same_candidates ∙ of_all,
      ap (λ (v : List ℕ). length v) tally ∙ (length-map-range_with_len _ 0 candidates ∙ of_all),
      λ stands.
          let kept : next.keeps ≡ c.keeps.result.now =
          keeps-elected (scale g.row.P) now c.distribute.new.tally c.self.inside.lots.now c.settle.new.row
          next c.settle.ensures.settle (c.is_election-self-inside.ensures.0 stands)
          ∙ sym c.keeps.ensures in
          rw (kept, c.distribute.ensures.same, c.distribute.ensures.same_candidates) tally,
      record {
        valid = c.settle.ensures.valid;
        on_its_way = c.settle.ensures.on_its_way c.self.invariant.6.on_its_way;
        order_of_lots = c.self.invariant.6.order_of_lots;
        lots_of_all = c.self.invariant.6.lots_of_all ∙ sym same;
        names_of_all = c.self.invariant.6.names_of_all ∙ sym same;
        row_of_all = c.settle.ensures.row_of_all;
        few_ballots = rw c.distribute.ensures.same c.self.invariant.6.few_ballots;
      },
    )
