use Rattle.std.proofs.Common.{◌≡◌, ℕ, List, length, ap, sym, subst, ◌∙◌}
use Rattle.std.proofs.lemmas.List.{length-replicate}
use Rattle.fixed_place.specs.Rounding.{scale}
use Rattle.fixed_place.proofs.RoundingLemmas.{scale_pos}
use Rattle.meek_rule.specs.Situation.{Situation}
use Rattle.meek_rule.specs.Row.{HasRoomFor}
use Rattle.meek_count.proofs.WholeCount.{rows_exist, length-opening}
use Rattle.meek_count.proofs.count.Count.begin.Goals as goal

-- there is one of each for each candidate
pub invariant_of-result : goal.invariant_of-result
invariant_of-result g c =
    let states : length c.in_ok-situation.situation.states ≡ length c.args.roll.now.names =
    ap (λ (now : Situation). length now.states) c.in_ok-situation.ensures.opening
    ∙ length-opening (scale g.row.P) c.args.omega c.args.roll.now c.candidates-n.ensures.sound in
    let all : c.candidates-n.result ≡ length c.in_ok-situation.situation.states =
    c.candidates-n.ensures.value ∙ sym states in (
      c.requires.places.0,
      c.requires.places.1,
      c.requires.can_spread,
      c.requires.spread_of_all ∙ sym states,
      ap (λ (v : List ℕ). length v) c.in_ok-tally.ensures ∙ (length-replicate _ _ ∙ all),
      λ stand. absurd (cc),
      record {
        valid = c.in_ok-situation.ensures.valid;
        on_its_way = c.in_ok-situation.ensures.on_its_way;
        order_of_lots = c.candidates-order.ensures.order;
        lots_of_all = c.requires.lots_of_all ∙ sym states;
        names_of_all = sym states;
        row_of_all = subst (λ (n : ℕ). HasRoomFor n c.in_ok-row.row) all c.in_ok-row.ensures.room;
        few_ballots = c.requires.few_ballots;
      },
    )

pub returns-clause-rest : goal.returns-clause-rest
returns-clause-rest g c =
    let states : length c.in_ok-situation.situation.states ≡ length c.args.roll.now.names =
    ap (λ (now : Situation). length now.states) c.in_ok-situation.ensures.opening
    ∙ length-opening (scale g.row.P) c.args.omega c.args.roll.now c.candidates-n.ensures.sound in
    rows_exist g.D.Spread.rule (scale g.row.P) (g.D.Spread.ballots c.args.spread) c.args.lots.now
    c.in_ok-situation.situation (scale_pos g.row.P)
    c.in_ok-situation.ensures.valid c.candidates-order.ensures.order (c.requires.lots_of_all ∙ sym states)
