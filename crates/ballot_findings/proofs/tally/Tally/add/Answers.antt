use Rattle.std.proofs.Common.{◌∙◌, ℕ, ◌*◌, Bool, List, cond, length, ap, arith, subst, sym}
use Rattle.std.specs.Prelude.{◌||◌}
use Rattle.plain_ballots.specs.Ranking.{IsRanking}
use Rattle.candidate_roll.specs.Roll.{is_listed}
use Rattle.ballot_findings.specs.Counts.{has_first, is_empty, ranks_withdrawn}
use Rattle.ballot_findings.specs.Tally.{TallyList, first_of, was_ranked}
use Rattle.ballot_findings.proofs.Counting.{ballots_more, how_many_more, rank_count_more, ranked_more}
use Rattle.ballot_findings.proofs.LineItems.{ranks_bound}
use Rattle.ballot_findings.proofs.tally.Tally.add.Goals as goal

pub overflow_mul-self : goal.overflow_mul-self
overflow_mul-self c =
    let n = length c.args.roll.now.names in
    let small =
    ranks_bound n c.args.line.now.count c.ranks-ranks.result.now
    (subst (IsRanking n) (sym c.ranks-ranks.ensures.value) c.requires.ranking) c.requires.few in
    omega (arith, small, c.requires.room)

pub overflow_add-self-3 : goal.overflow_add-self-3
overflow_add-self-3 c =
    let n = length c.args.roll.now.names in
    let small =
    ranks_bound n c.args.line.now.count c.ranks-ranks.result.now
    (subst (IsRanking n) (sym c.ranks-ranks.ensures.value) c.requires.ranking) c.requires.few in
    let same = ap (λ (t : TallyList). t.ballots) c.self.view_is in
    omega (arith, small, same, c.requires.room, c.self.invariant.ranks, c.self.invariant.ballots)

pub add_first-requires-clause-ranking : goal.add_first-requires-clause-ranking
add_first-requires-clause-ranking c =
    let all = ap (λ (t : TallyList). length t.firsts) c.self.view_is ∙ c.requires.all_firsts in
    subst (λ (n : ℕ). IsRanking n c.ranks-ranks.result.now) (sym all)
    (subst (IsRanking (length c.args.roll.now.names)) (sym c.ranks-ranks.ensures.value) c.requires.ranking)

pub add_first-requires-clause-room : goal.add_first-requires-clause-room
add_first-requires-clause-room c = λ k d below.
    let few = c.self.invariant.firsts k d below in
    let same = ap (λ (t : TallyList). t.ballots) c.self.view_is in
    omega (arith, few, same, c.requires.room)

pub mark_ranked-requires : goal.mark_ranked-requires
mark_ranked-requires c =
    let all = ap (λ (t : TallyList). length t.ranked) c.self.view_is ∙ c.requires.all_ranked in
    subst (λ (n : ℕ). IsRanking n c.ranks-ranks.result.now) (sym all)
    (subst (IsRanking (length c.args.roll.now.names)) (sym c.ranks-ranks.ensures.value) c.requires.ranking)

pub invariant_of-self : goal.invariant_of-self
invariant_of-self c =
    let n = length c.args.roll.now.names in
    let small =
    ranks_bound n c.args.line.now.count c.ranks-ranks.result.now
    (subst (IsRanking n) (sym c.ranks-ranks.ensures.value) c.requires.ranking) c.requires.few in
    let same = ap (λ (t : TallyList). t.ballots) c.self.view_is in
    record {
      ballots = omega (arith, same, c.requires.room);
      empty = omega (arith, c.self.invariant.empty, c.count_if.ensures.few);
      ranks = omega (arith, c.self.invariant.ranks, small);
      of_withdrawn = omega (arith, c.self.invariant.of_withdrawn, c.count_if-2.ensures.few);
      firsts = c.add_first.ensures.few c.self.inside.ballots c.self.invariant.firsts;
    }

pub returns : goal.returns
returns c =
    let line = c.args.line.now in
    let count = line.count in
    let ranks = c.ranks-ranks.ensures.value in
    let old = c.self.view_is in
    let firsts_all = ap (λ (t : TallyList). length t.firsts) old ∙ c.requires.all_firsts in
    let ranked_all = ap (λ (t : TallyList). length t.ranked) old ∙ c.requires.all_ranked in
    λ before is. record {
      ballots = omega (arith, ballots_more before line, is.ballots, ap (λ (t : TallyList). t.ballots) old);
      empty =
          let more = c.count_if.ensures.value
          ∙ ap (λ (b : Bool). count * cond b 1 0) (c.ranks_nobody.ensures ∙ ap is_empty ranks) in
          omega (arith, how_many_more is_empty before line, is.empty, ap (λ (t : TallyList). t.empty) old, more);
      ranks =
          let more = ap (λ (r : List ℕ). count * length r) ranks in
          omega (arith, rank_count_more before line, is.ranks, ap (λ (t : TallyList). t.ranks) old, more);
      of_withdrawn =
          let test = ranks_withdrawn c.args.roll.now.withdrawn in
          let more = c.count_if-2.ensures.value
          ∙ ap (λ (b : Bool). count * cond b 1 0) (c.ranks_withdrawn.ensures ∙ ap test ranks) in
          omega (arith, how_many_more test before line, is.of_withdrawn, ap (λ (t : TallyList). t.of_withdrawn) old, more);
      firsts = λ n from below.
          let more = c.add_first.ensures.more n from (omega (arith, below, firsts_all)) in
          let here = ap (λ (r : List ℕ). count * cond (has_first n r) 1 0) ranks in
          let was = ap (λ (t : TallyList). first_of t n) old in
          omega (arith, how_many_more (has_first n) before line, is.firsts n from below, more, here, was);
      ranked = λ n from below.
          c.mark_ranked.ensures.marked n from (omega (arith, below, ranked_all))
          ∙ ((λ i. (ap (λ (t : TallyList). was_ranked t n) old ∙ is.ranked n from below) i || is_listed (ranks i) n)
          ∙ sym (ranked_more before line n c.requires.counted));
      all_firsts = c.add_first.ensures.all ∙ firsts_all;
      all_ranked = c.mark_ranked.ensures.all ∙ ranked_all;
    }
