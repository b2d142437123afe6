use Rattle.std.proofs.Common.{◌≡◌, ℕ, ◌+◌, ◌≤◌, ◌++◌, List, length, take, replicate, arith, ◌∙◌, sym, subst}
use Rattle.std.specs.List.Sorted.{IsPermutation}
use Rattle.std.proofs.lemmas.List.{take_all}
use Rattle.plain_ballots.specs.declared.limits.TheConstants.{MOST_BALLOTS}
use Rattle.plain_ballots.specs.declared.ballot_line.BallotLine.{BallotLine}
use Rattle.plain_ballots.specs.Ballots.{IsSound, ballot_count, plain}
use Rattle.plain_ballots.specs.Ranking.{IsRanking}
use Rattle.day_replay.proofs.PackedLines.{line_packed, line_room, line_ranking}
use Rattle.day_replay.proofs.packing.put.Goals as goal

-- all of a line's ranks are taken
whole : (ranks ranking : List ℕ) → ranks ≡ ranking → take (length ranks) ranks ≡ ranking
whole ranks ranking is = take_all (length ranks) ranks (omega arith) ∙ is

pub take-requires-clause-ranking : goal.take-requires-clause-ranking
take-requires-clause-ranking c =
    let lines = c.lines-line-items.result.now in
    let n = c.args.ballots.now.candidates in
    let ranks = c.ranks-ranks.result.now in
    let sound : IsSound n lines =
    subst (IsSound n) (sym c.lines-line-items.ensures.lines) c.lines-line-items.ensures.sound in
    subst (λ (m : ℕ). IsRanking m (take (length ranks) ranks)) (c.requires.candidates ∙ sym c.loop-line.invariant.candidates)
    (subst (IsRanking n) (sym (whole ranks c.line-item.result.ranking c.ranks-ranks.ensures.value))
    (line_ranking n lines c.loop-line.line-index c.line-item.result sound c.loop-line-test.true c.line-item.is))

pub take-requires-clause-room : goal.take-requires-clause-room
take-requires-clause-room c =
    let old = c.args.packed.now.lines in
    let lines = c.lines-line-items.result.now in
    line_room old c.loop-line.packed.lines lines c.loop-line.line-index c.line-item.result c.loop-line-test.true
    c.line-item.is c.loop-line.invariant.ballots MOST_BALLOTS
    (subst (λ (l : List BallotLine). ballot_count old + ballot_count l ≤ MOST_BALLOTS)
    (sym c.lines-line-items.ensures.lines) c.requires.room)

pub loop-line-preserved : goal.loop-line-preserved
loop-line-preserved c =
    let now = c.loop-line.packed.lines in
    let new = c.take.new.self.lines in
    let line = c.line-item.result in
    record {
      candidates = c.take.ensures.candidates ∙ c.loop-line.invariant.candidates;
      ballots =
          line_packed c.args.packed.now.lines now c.lines-line-items.result.now c.loop-line.line-index line
          c.loop-line-test.true c.line-item.is c.loop-line.invariant.ballots new
          (subst (λ (r : List ℕ). IsPermutation (plain new) (plain now ++ replicate line.count r))
          (whole c.ranks-ranks.result.now line.ranking c.ranks-ranks.ensures.value) c.in_ok-take.ensures.ballots);
    }
