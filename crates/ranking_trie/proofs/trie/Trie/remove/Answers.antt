use Rattle.std.proofs.Common.{◌≡◌, ◌++◌, ◌<◌, List, length, get_or, arith, sym, subst, ◌∙◌}
use Rattle.std.specs.List.Sorted.{IsPermutation}
use Rattle.plain_ballots.specs.declared.ballot_line.BallotLine.{BallotLine}
use Rattle.plain_ballots.specs.Ballots.{plain}
use Rattle.ranking_trie.proofs.LineLemmas.{line_held, line_removed, line_uncounted, visits_more}
use Rattle.ranking_trie.proofs.trie.Trie.remove.Goals as goal

pub remove_line-requires-clause-held : goal.remove_line-requires-clause-held
remove_line-requires-clause-held g c =
    let held = c.requires.held in
    let own : IsPermutation c.args.self.now.ballots (plain c.lines-line-items.result.now ++ held.others) =
    subst (λ (ls : List BallotLine). IsPermutation c.args.self.now.ballots (plain ls ++ held.others))
    (sym c.lines-line-items.ensures.lines) held.are in
    line_held c.args.self.now.ballots c.loop-line.self.ballots held.others c.lines-line-items.result.now
    c.loop-line.line-index c.line-item.result c.loop-line-test.true c.line-item.is own
    c.loop-line.invariant.bag

pub loop-line-preserved : goal.loop-line-preserved
loop-line-preserved g c =
    let lines = c.lines-line-items.result.now in
    let i = c.loop-line.line-index in
    let line = c.line-item.result in
    let inside : i < length lines = c.loop-line-test.true in
    let at : line ≡ get_or lines i line = c.line-item.is in
    record {
      candidates = c.remove_line.ensures.candidates ∙ c.loop-line.invariant.candidates;
      bag =
          line_removed c.args.self.now.ballots c.loop-line.self.ballots c.remove_line.new.self.ballots lines i
          line inside at c.loop-line.invariant.bag c.remove_line.ensures.bag;
      counted =
          line_uncounted (length c.args.self.now.ballots) c.loop-line.self.ballots
          c.remove_line.new.self.ballots lines i line inside at c.loop-line.invariant.counted
          c.remove_line.ensures.bag;
      room = omega arith;
      cost = omega (arith, visits_more lines i line inside at);
    }
