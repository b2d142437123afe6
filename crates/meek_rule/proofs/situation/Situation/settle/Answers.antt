use Rattle.std.proofs.Common.{◌≡◌, ◌-◌, ◌≤◌, true, List, length, arith, ap, sym, subst, ◌∙◌}
use Rattle.std.proofs.lemmas.List.FromFn.{length-map-range_with_len}
use Rattle.fixed_place.specs.Rounding.{scale, most}
use Rattle.candidate_roll.specs.declared.state.State.{State}
use Rattle.lot_order.specs.Flags.{mark_at}
use Rattle.meek_rule.specs.Situation.{Situation, hopeful_count}
use Rattle.meek_rule.specs.Row.{Row}
use Rattle.meek_rule.specs.Ties.{tied}
use Rattle.meek_rule.specs.Steps.{IsCounted}
use Rattle.meek_rule.proofs.ValidLemmas.{winners-electable}
use Rattle.meek_rule.proofs.TieLemmas.{somebody_hopeful, tied-somebody, tied-hopeful}
use Rattle.meek_rule.proofs.SettleLemmas.{settled-valid, settled-nearer, settled-on_its_way, settled-same, settled-room}
use Rattle.meek_rule.proofs.situation.Situation.settle.Goals as goal

pub elect-requires : goal.elect-requires
elect-requires g c =
    let counted =
    subst (λ (r : Row). IsCounted c.args.self.now c.args.votes.now c.args.lots.now r) (sym c.row.view_is)
    c.count.ensures.counted in (
      omega arith,
      (
        c.requires.rounds,
        winners-electable (scale g.row.P) c.args.self.now c.args.votes.now c.args.lots.now
            c.row.inside.quota c.row.inside.elected c.count.ensures.valid counted.winners,
      ),
    )

pub first_of-loser-requires-clause-lengths : goal.first_of-loser-requires-clause-lengths
first_of-loser-requires-clause-lengths g c =
    let states : c.self.inside.states ≡ c.args.self.now.states = ap (λ (x : Situation). x.states) c.self.view_is in
    let tied_is : c.mark_tied.new.marks ≡ tied c.args.self.now.states c.args.votes.now c.row.inside.surplus =
    c.mark_tied.ensures ∙ ap (λ (l : List State). tied l c.args.votes.now c.row.inside.surplus) states in
    ap length tied_is ∙ (length-map-range_with_len _ 0 _ ∙ sym c.requires.lots_of_all)

-- somebody is hopeful, so somebody is tied
pub first_of-loser-requires-clause-marked : goal.first_of-loser-requires-clause-marked
first_of-loser-requires-clause-marked g c =
    let states : c.self.inside.states ≡ c.args.self.now.states = ap (λ (x : Situation). x.states) c.self.view_is in
    let tied_is : c.mark_tied.new.marks ≡ tied c.args.self.now.states c.args.votes.now c.row.inside.surplus =
    c.mark_tied.ensures ∙ ap (λ (l : List State). tied l c.args.votes.now c.row.inside.surplus) states in
    let some : 1 ≤ hopeful_count c.args.self.now.states =
    somebody_hopeful (scale g.row.P) c.args.self.now c.count.ensures.valid c.requires.open in
    rw tied_is (tied-somebody c.args.self.now.states c.args.votes.now c.args.lots.now c.row.inside.surplus
    c.candidates-order.ensures.order c.requires.lots_of_all some)

pub defeat-requires : goal.defeat-requires
defeat-requires g c =
    let states : c.self.inside.states ≡ c.args.self.now.states = ap (λ (x : Situation). x.states) c.self.view_is in
    let tied_is : c.mark_tied.new.marks ≡ tied c.args.self.now.states c.args.votes.now c.row.inside.surplus =
    c.mark_tied.ensures ∙ ap (λ (l : List State). tied l c.args.votes.now c.row.inside.surplus) states in
    let marked :
    mark_at (tied c.args.self.now.states c.args.votes.now c.row.inside.surplus)
    (c.first_of-loser.result - 1) ≡ true =
    rw tied_is at c.first_of-loser.ensures.is_marked in
    let loser =
    tied-hopeful c.args.self.now.states c.args.votes.now c.row.inside.surplus
    (c.first_of-loser.result - 1) marked in (
      omega arith,
      (
        c.requires.rounds,
        (
          (
            c.first_of-loser.ensures.candidate.0,
            omega (arith, c.first_of-loser.ensures.candidate.1, c.requires.lots_of_all),
          ),
          loser.1,
        ),
      ),
    )

pub returns-then-count_marked-gt0-clause-settle : goal.returns-then-count_marked-gt0-clause-settle
returns-then-count_marked-gt0-clause-settle g c =
    let counted =
    subst (λ (r : Row). IsCounted c.args.self.now c.args.votes.now c.args.lots.now r) (sym c.row.view_is)
    c.count.ensures.counted in
    record {
      round = counted.round;
      iteration = counted.iteration;
      states = counted.states;
      keeps = counted.keeps;
      votes_are = counted.votes_are;
      total = counted.total;
      quota_is = counted.quota_is;
      winners = counted.winners;
      surplus_is = counted.surplus_is;
      leaves = (omega (arith, c.count_marked.ensures), c.elect.ensures, counted.capped, counted.tied);
    }

pub returns-then-has_to_defeat-clause-settle : goal.returns-then-has_to_defeat-clause-settle
returns-then-has_to_defeat-clause-settle g c =
    let counted =
    subst (λ (r : Row). IsCounted c.args.self.now c.args.votes.now c.args.lots.now r) (sym c.row.view_is)
    c.count.ensures.counted in
    let states : c.self.inside.states ≡ c.args.self.now.states = ap (λ (x : Situation). x.states) c.self.view_is in
    let tied_is : c.mark_tied.new.marks ≡ tied c.args.self.now.states c.args.votes.now c.row.inside.surplus =
    c.mark_tied.ensures ∙ ap (λ (l : List State). tied l c.args.votes.now c.row.inside.surplus) states in
    record {
      round = counted.round;
      iteration = counted.iteration;
      states = counted.states;
      keeps = counted.keeps;
      votes_are = counted.votes_are;
      total = counted.total;
      quota_is = counted.quota_is;
      winners = counted.winners;
      surplus_is = counted.surplus_is;
      leaves = (
        omega (arith, c.count_marked.ensures),
        sym c.has_to_defeat.ensures ∙ c.if-has_to_defeat.true,
        rw counted.votes_are tied_is,
        c.first_of-loser.ensures.first,
        c.defeat.ensures,
        counted.capped,
      );
    }

pub returns-else-has_to_defeat-clause-settle : goal.returns-else-has_to_defeat-clause-settle
returns-else-has_to_defeat-clause-settle g c =
    let counted =
    subst (λ (r : Row). IsCounted c.args.self.now c.args.votes.now c.args.lots.now r) (sym c.row.view_is)
    c.count.ensures.counted in
    record {
      round = counted.round;
      iteration = counted.iteration;
      states = counted.states;
      keeps = counted.keeps;
      votes_are = counted.votes_are;
      total = counted.total;
      quota_is = counted.quota_is;
      winners = counted.winners;
      surplus_is = counted.surplus_is;
      leaves = (
        omega (arith, c.count_marked.ensures),
        sym c.has_to_defeat.ensures ∙ c.if-has_to_defeat.false,
        rw counted.votes_are c.transfer.ensures.capped,
        rw counted.votes_are c.transfer.ensures.next,
        counted.tied,
      );
    }

pub returns-then-count_marked-gt0-clause-valid : goal.returns-then-count_marked-gt0-clause-valid
returns-then-count_marked-gt0-clause-valid g c =
    settled-valid (scale g.row.P) _ _ _ _ _ (returns-then-count_marked-gt0-clause-settle g c)
    c.count.ensures.valid c.requires.open c.candidates-order.ensures.order c.requires.lots_of_all

pub returns-then-count_marked-gt0-clause-nearer : goal.returns-then-count_marked-gt0-clause-nearer
returns-then-count_marked-gt0-clause-nearer g c =
    settled-nearer (scale g.row.P) (most g.row.P) _ _ _ _ _ (returns-then-count_marked-gt0-clause-settle g c)
    c.count.ensures.valid c.requires.open c.candidates-order.ensures.order c.requires.lots_of_all
    c.requires.votes_of_all c.requires.few

pub returns-then-count_marked-gt0-clause-on_its_way : goal.returns-then-count_marked-gt0-clause-on_its_way
returns-then-count_marked-gt0-clause-on_its_way g c =
    settled-on_its_way (scale g.row.P) (most g.row.P) _ _ _ _ _
    (returns-then-count_marked-gt0-clause-settle g c) c.count.ensures.valid c.requires.open
    c.candidates-order.ensures.order c.requires.lots_of_all c.requires.votes_of_all c.requires.few

pub returns-then-count_marked-gt0-clause-same_candidates : goal.returns-then-count_marked-gt0-clause-same_candidates
returns-then-count_marked-gt0-clause-same_candidates g c =
    settled-same (scale g.row.P) _ _ _ _ _ (returns-then-count_marked-gt0-clause-settle g c)

pub returns-then-count_marked-gt0-clause-row_of_all : goal.returns-then-count_marked-gt0-clause-row_of_all
returns-then-count_marked-gt0-clause-row_of_all g c =
    settled-room (scale g.row.P) _ _ _ _ _ (returns-then-count_marked-gt0-clause-settle g c)
    c.count.ensures.valid c.requires.votes_of_all

pub returns-then-has_to_defeat-clause-valid : goal.returns-then-has_to_defeat-clause-valid
returns-then-has_to_defeat-clause-valid g c =
    settled-valid (scale g.row.P) _ _ _ _ _ (returns-then-has_to_defeat-clause-settle g c)
    c.count.ensures.valid c.requires.open c.candidates-order.ensures.order c.requires.lots_of_all

pub returns-then-has_to_defeat-clause-nearer : goal.returns-then-has_to_defeat-clause-nearer
returns-then-has_to_defeat-clause-nearer g c =
    settled-nearer (scale g.row.P) (most g.row.P) _ _ _ _ _ (returns-then-has_to_defeat-clause-settle g c)
    c.count.ensures.valid c.requires.open c.candidates-order.ensures.order c.requires.lots_of_all
    c.requires.votes_of_all c.requires.few

pub returns-then-has_to_defeat-clause-on_its_way : goal.returns-then-has_to_defeat-clause-on_its_way
returns-then-has_to_defeat-clause-on_its_way g c =
    settled-on_its_way (scale g.row.P) (most g.row.P) _ _ _ _ _ (returns-then-has_to_defeat-clause-settle g c)
    c.count.ensures.valid c.requires.open c.candidates-order.ensures.order c.requires.lots_of_all
    c.requires.votes_of_all c.requires.few

pub returns-then-has_to_defeat-clause-same_candidates : goal.returns-then-has_to_defeat-clause-same_candidates
returns-then-has_to_defeat-clause-same_candidates g c =
    settled-same (scale g.row.P) _ _ _ _ _ (returns-then-has_to_defeat-clause-settle g c)

pub returns-then-has_to_defeat-clause-row_of_all : goal.returns-then-has_to_defeat-clause-row_of_all
returns-then-has_to_defeat-clause-row_of_all g c =
    settled-room (scale g.row.P) _ _ _ _ _ (returns-then-has_to_defeat-clause-settle g c)
    c.count.ensures.valid c.requires.votes_of_all

pub returns-else-has_to_defeat-clause-valid : goal.returns-else-has_to_defeat-clause-valid
returns-else-has_to_defeat-clause-valid g c =
    settled-valid (scale g.row.P) _ _ _ _ _ (returns-else-has_to_defeat-clause-settle g c)
    c.count.ensures.valid c.requires.open c.candidates-order.ensures.order c.requires.lots_of_all

pub returns-else-has_to_defeat-clause-nearer : goal.returns-else-has_to_defeat-clause-nearer
returns-else-has_to_defeat-clause-nearer g c =
    settled-nearer (scale g.row.P) (most g.row.P) _ _ _ _ _ (returns-else-has_to_defeat-clause-settle g c)
    c.count.ensures.valid c.requires.open c.candidates-order.ensures.order c.requires.lots_of_all
    c.requires.votes_of_all c.requires.few

pub returns-else-has_to_defeat-clause-on_its_way : goal.returns-else-has_to_defeat-clause-on_its_way
returns-else-has_to_defeat-clause-on_its_way g c =
    settled-on_its_way (scale g.row.P) (most g.row.P) _ _ _ _ _ (returns-else-has_to_defeat-clause-settle g c)
    c.count.ensures.valid c.requires.open c.candidates-order.ensures.order c.requires.lots_of_all
    c.requires.votes_of_all c.requires.few

pub returns-else-has_to_defeat-clause-same_candidates : goal.returns-else-has_to_defeat-clause-same_candidates
returns-else-has_to_defeat-clause-same_candidates g c =
    settled-same (scale g.row.P) _ _ _ _ _ (returns-else-has_to_defeat-clause-settle g c)

pub returns-else-has_to_defeat-clause-row_of_all : goal.returns-else-has_to_defeat-clause-row_of_all
returns-else-has_to_defeat-clause-row_of_all g c =
    settled-room (scale g.row.P) _ _ _ _ _ (returns-else-has_to_defeat-clause-settle g c)
    c.count.ensures.valid c.requires.votes_of_all
