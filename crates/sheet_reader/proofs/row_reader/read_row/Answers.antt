use Rattle.std.proofs.Common.{arith, ℕ, length, sym, ◌∙◌, ap, subst}
use Rattle.meek_rule.specs.Row.{Row}
use Rattle.meek_count.specs.Ranges.{HasTiedFor}
use Rattle.sheet_reader.proofs.LineParts.{heads, behind_places}
use Rattle.sheet_reader.proofs.ReadRow.{in_parts, of_parts, behind_three}
use Rattle.sheet_reader.proofs.row_reader.read_row.Goals as goal

pub returns-in_default : goal.returns-in_default
returns-in_default g c row rest is e =
    c.in_default.ensures row.round row.iteration _ is.round is.iteration (in_parts g.row.P row rest is.of_all.states e)

pub returns-then-not-read_standings : goal.returns-then-not-read_standings
returns-then-not-read_standings g c row rest is e =
    let all = sym (ap (λ (r : Row). length r.states) c.row.view_is) in
    let at_standings = (heads _ _ _ _ (sym c.in-Some.ensures.2 ∙ in_parts g.row.P row rest (is.of_all.states ∙ all) e)).1 in
    c.if-not-read_standings.ensures.read row.states row.keeps row.votes _ (is.of_all.keeps ∙ all)
    (is.of_all.votes ∙ all) is.keeps is.votes at_standings

pub returns-in_default-read_amounts : goal.returns-in_default-read_amounts
returns-in_default-read_amounts g c row rest is e =
    let all = sym (ap (λ (r : Row). length r.states) c.row.view_is) in
    let at_standings = (heads _ _ _ _ (sym c.in-Some.ensures.2 ∙ in_parts g.row.P row rest (is.of_all.states ∙ all) e)).1 in
    let at_amounts = behind_places _ _ _ _ _ (sym c.if-not-read_standings.ensures.read.2 ∙ at_standings) in
    c.in_default-read_amounts.ensures row.total row.quota row.surplus _ is.total is.quota is.surplus at_amounts

pub returns-in_default-read_decision : goal.returns-in_default-read_decision
returns-in_default-read_decision g c row rest is e =
    let all = sym (ap (λ (r : Row). length r.states) c.row.view_is) in
    let marked = sym (ap (λ (r : Row). length r.tied) c.row.view_is ∙ c.requires.room.tied) in
    let at_standings = (heads _ _ _ _ (sym c.in-Some.ensures.2 ∙ in_parts g.row.P row rest (is.of_all.states ∙ all) e)).1 in
    let at_amounts = behind_places _ _ _ _ _ (sym c.if-not-read_standings.ensures.read.2 ∙ at_standings) in
    let at_decision = behind_three (sym c.in-Some-read_amounts.ensures.3 ∙ at_amounts) in
    c.in_default-read_decision.ensures.read row.elected row.capped row.tied row.step rest
    (is.of_all.elected ∙ marked) (is.of_all.capped ∙ marked) (is.of_all.tied ∙ marked)
    (subst (λ (j : ℕ). HasTiedFor j row.step row.tied) marked is.tied) at_decision

pub returns : goal.returns
returns g c =
    let all = ap (λ (r : Row). length r.states) c.row.view_is in
    let marked = ap (λ (r : Row). length r.tied) c.row.view_is ∙ c.requires.room.tied in
    let numbers = c.in-Some.ensures in
    let standings = c.if-not-read_standings.ensures.read in
    let amounts = c.in-Some-read_amounts.ensures in
    let decision = c.in-Some-read_decision.ensures.read in
    of_parts g.row.P _ (record {
      of_all = record {
        states = c.read_standings.ensures.states ∙ all;
        keeps = c.read_standings.ensures.keeps ∙ all;
        votes = c.read_standings.ensures.votes ∙ all;
        elected = c.read_decision.ensures.elected ∙ marked;
        capped = c.read_decision.ensures.capped ∙ marked;
        tied = c.read_decision.ensures.tied ∙ marked;
      };
      round = numbers.0;
      iteration = numbers.1;
      keeps = standings.0;
      votes = standings.1;
      total = amounts.0;
      quota = amounts.1;
      surplus = amounts.2;
      tied = subst (λ (j : ℕ). HasTiedFor j c.in-Some-read_decision.step c.read_decision.new.tied) marked decision.0;
    }) c.read_standings.ensures.states numbers.2 standings.2 amounts.3 decision.1

pub read_decision-requires : goal.read_decision-requires
read_decision-requires g c =
    let marked = ap (λ (r : Row). length r.tied) c.row.view_is ∙ c.requires.room.tied in
    record {
      few = omega (arith, marked, c.requires.few);
      elected = ap (λ (r : Row). length r.elected) c.row.view_is ∙ c.requires.room.elected ∙ sym marked;
      capped = ap (λ (r : Row). length r.capped) c.row.view_is ∙ c.requires.room.capped ∙ sym marked;
    }

pub read_standings-requires : goal.read_standings-requires
read_standings-requires g c =
    let all = ap (λ (r : Row). length r.states) c.row.view_is in
    let keeps = ap (λ (r : Row). length r.keeps) c.row.view_is ∙ c.requires.room.keeps ∙ sym all in
    let votes = ap (λ (r : Row). length r.votes) c.row.view_is ∙ c.requires.room.votes ∙ sym all in
    (omega arith, (omega arith, (c.requires.places, (omega (arith, all, c.requires.few), (keeps, votes)))))
