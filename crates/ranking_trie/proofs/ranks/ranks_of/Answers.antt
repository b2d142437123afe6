use Rattle.std.proofs.Common.{◌≡◌, length, arith, ap, sym, subst}
use Rattle.plain_ballots.specs.Ballots.{IsSound}
use Rattle.ranking_trie.proofs.LineLemmas.{few_ranks, ranks_left}
use Rattle.ranking_trie.proofs.ranks.ranks_of.Goals as goal

pub overflow_add-ranks : goal.overflow_add-ranks
overflow_add-ranks c =
    let n = c.args.ballots.now.candidates in
    let lines = c.lines-line-items.result.now in
    let sound : IsSound n lines =
    subst (IsSound n) (sym c.lines-line-items.ensures.lines) c.lines-line-items.ensures.sound in
    let few = few_ranks n lines (omega arith) sound in
    let left = ranks_left lines c.loop-line.line-index c.line-item.result c.loop-line-test.true c.line-item.is in
    let size : length c.ranks.result.now ≡ length c.line-item.result.ranking = ap length c.ranks.ensures.value in
    omega arith
