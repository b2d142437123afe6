use Rattle.std.proofs.Common.{◌≡◌, ℕ, List, ◌+◌, ◌*◌, ◌<◌, ◌≤◌, length, get_or, sum_by, arith, ap, sym, ◌∙◌, subst}
use Rattle.std.specs.List.{All}
use Rattle.std.proofs.lemmas.List.{take_all}
use Rattle.std.proofs.lemmas.List.Elements.{All-get_or}
use Rattle.fixed_place.specs.Rounding.{scale, most}
use Rattle.fixed_place.proofs.RoundingLemmas.{most_votes, scale_pos}
use Rattle.plain_ballots.specs.declared.ballot_line.BallotLine.{BallotLine}
use Rattle.plain_ballots.specs.Ranking.{IsRanking}
use Rattle.meek_rule.specs.Rule.{Meek}
use Rattle.meek_rule.specs.Weights.{given}
use Rattle.meek_rule.proofs.WeightLemmas.{room_for_line, votes-from_places}
use Rattle.meek_rule.proofs.flat_spread.spread_lines.Goals as goal

-- the line's candidates are candidates, and there is room for it
pub give_line-requires : goal.give_line-requires
give_line-requires g c =
    let s = scale g.row.P in
    let i = c.loop-line.line-index in
    let n = length c.args.tally.now in
    let same : n ≡ length c.loop-line.tally = sym c.loop-line.invariant.same_length in
    let line = c.line-item.result in
    let ranking : IsRanking n line.ranking =
    subst (λ (l : BallotLine). IsRanking n l.ranking) (sym c.line-item.is)
    (All-get_or (λ (l : BallotLine). IsRanking n l.ranking) c.args.lines.now i line c.loop-line-test.true
    c.requires.sound.rankings) in
    let read : c.ranks.result.now ≡ line.ranking = cc in
    let numbers : All (λ (r : ℕ). (1 ≤ r) × (r ≤ length c.loop-line.tally)) c.ranks.result.now =
    rw read (subst (λ (m : ℕ). All (λ (r : ℕ). (1 ≤ r) × (r ≤ m)) line.ranking) same ranking.numbers) in
    let keeps : length c.items.result.now ≡ length c.loop-line.tally =
    ap length c.items.ensures ∙ (c.requires.keeps_of_all ∙ same) in
    let room :
    (p : ℕ) → p < length c.loop-line.tally
    → get_or c.loop-line.tally p 0 + line.count * s ≤ most g.row.P =
    λ p below.
    rw c.line-item.is
    (room_for_line Meek s (most g.row.P) c.args.keeps.now c.args.lines.now i (p + 1) _ line
    (scale_pos g.row.P) c.len-bound.ensures.bound (most_votes g.row.P) c.loop-line-test.true
    c.requires.sound.bounded (c.loop-line.invariant.so_far p (omega arith))) in (
      omega arith,
      (
        omega arith,
        (
          c.len-bound.ensures.places,
          (numbers, (keeps, (rw c.items.ensures c.len-bound.ensures.bound, room))),
        ),
      ),
    )

pub returns : goal.returns
returns g c =
    votes-from_places Meek (scale g.row.P) c.args.keeps.now c.args.lines.now c.loop-line.tally
    (length c.args.tally.now) c.loop-line.invariant.same_length
    (λ p below. c.loop-line.invariant.so_far p below
    ∙ ap (λ (ls : List BallotLine). sum_by (λ (line : BallotLine).
    line.count * given (scale g.row.P) c.args.keeps.now (scale g.row.P) line.ranking (p + 1))
    ls) (take_all c.loop-line.line-index c.args.lines.now (omega arith)))
