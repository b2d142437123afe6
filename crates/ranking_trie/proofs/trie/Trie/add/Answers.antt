use Rattle.std.proofs.Common.{◌≡◌, ℕ, ◌<◌, length, get_or, arith, sym, ap, subst, ◌∙◌}
use Rattle.plain_ballots.specs.Ballots.{ballot_count, IsSound}
use Rattle.plain_ballots.specs.Ranking.{IsRanking}
use Rattle.ranking_trie.proofs.LineLemmas.{line_added, line_counted, count_left, ranking_at, ranks_more, visits_more}
use Rattle.ranking_trie.proofs.trie.Trie.add.Goals as goal

pub add_line-requires-clause-ranking : goal.add_line-requires-clause-ranking
add_line-requires-clause-ranking g c =
    let lines = c.lines-line-items.result.now in
    let n = c.args.ballots.now.candidates in
    let sound : IsSound n lines =
    subst (IsSound n) (sym c.lines-line-items.ensures.lines) c.lines-line-items.ensures.sound in
    subst (λ (m : ℕ). IsRanking m c.line-item.result.ranking) (c.requires.candidates ∙ sym c.loop-line.invariant.candidates)
    (ranking_at n lines c.loop-line.line-index c.line-item.result sound c.loop-line-test.true c.line-item.is)

pub add_line-requires-clause-few : goal.add_line-requires-clause-few
add_line-requires-clause-few g c =
    let left =
    count_left c.lines-line-items.result.now c.loop-line.line-index c.line-item.result
    c.loop-line-test.true c.line-item.is in
    omega (arith, left, ap ballot_count c.lines-line-items.ensures.lines)

pub loop-line-preserved : goal.loop-line-preserved
loop-line-preserved g c =
    let lines = c.lines-line-items.result.now in
    let i = c.loop-line.line-index in
    let line = c.line-item.result in
    let inside : i < length lines = c.loop-line-test.true in
    let at : line ≡ get_or lines i line = c.line-item.is in
    record {
      candidates = c.add_line.ensures.candidates ∙ c.loop-line.invariant.candidates;
      bag =
          line_added c.args.self.now.ballots c.loop-line.self.ballots c.add_line.new.self.ballots lines i line
          inside at c.loop-line.invariant.bag c.add_line.ensures.bag;
      counted =
          line_counted (length c.args.self.now.ballots) c.loop-line.self.ballots c.add_line.new.self.ballots
          lines i line inside at c.loop-line.invariant.counted c.add_line.ensures.bag;
      room = omega (arith, ranks_more lines i line inside at);
      cost = omega (arith, visits_more lines i line inside at);
    }
