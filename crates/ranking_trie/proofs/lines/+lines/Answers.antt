use Rattle.std.proofs.Common.{◌≡◌, ℕ, ◌+◌, List, ◌++◌, length, map, arith, ap, sym, subst, ◌∙◌}
use Rattle.std.specs.List.{All}
use Rattle.std.proofs.lemmas.List.{length-append}
use Rattle.plain_ballots.specs.Ballots.{BallotList, ballot_count}
use Rattle.plain_ballots.specs.Ranking.{IsRanking}
use Rattle.ranking_trie.specs.Forest.{Forest}
use Rattle.ranking_trie.specs.Bag.{bag, below, node_count}
use Rattle.ranking_trie.specs.Lines.{behind, lines_of, node_lines, line_of}
use Rattle.ranking_trie.specs.Siblings.{forest_of}
use Rattle.ranking_trie.proofs.ListLemmas.{All-left, All-right}
use Rattle.ranking_trie.proofs.ListingLemmas.{lines_step, count_step, count-push, node_listed, rankings_below, length-below}
use Rattle.ranking_trie.proofs.lines.+lines.Goals as goal

pub push_lines-push_node-requires : goal.push_lines-push_node-requires
push_lines-push_node-requires t c =
    let now = c.loop-node.invariant in
    let n = c.args.ballots.now.candidates in
    let front = c.args.ranks.now.items in
    let node = c.in-Some.node in
    let is = c.in-Some.ensures.some.1 in
    let own = below node.candidate node.ends (bag (forest_of node.inner)) in
    let next = bag (forest_of node.next) in
    let all : All (λ r. IsRanking n (front ++ r)) (own ++ next) =
    subst (λ (x : Forest). All (λ r. IsRanking n (front ++ r)) (bag x)) is now.rankings in
    let here : All (λ r. IsRanking n (front ++ r)) own = All-left (λ r. IsRanking n (front ++ r)) own next all in
    let nodes = ap node_count is in
    let size : length (bag (forest_of c.loop-node.rest)) ≡ length (own ++ next) = ap (λ (x : Forest). length (bag x)) is in
    let both = length-append own next in (
      omega (arith, nodes),
      (
        subst (λ (m : ℕ). All (λ r. IsRanking m (c.loop-node.ranks.items ++ r)) own) (sym now.candidates)
            (subst (λ (f : List ℕ). All (λ r. IsRanking n (f ++ r)) own) (sym now.ranks) here),
        omega arith,
      ),
    )

pub push_lines-loop-node-smaller : goal.push_lines-loop-node-smaller
push_lines-loop-node-smaller t c = omega (arith, ap node_count c.in-Some.ensures.some.1)

pub push_lines-loop-node-preserved : goal.push_lines-loop-node-preserved
push_lines-loop-node-preserved t c =
    let now = c.loop-node.invariant in
    let n = c.args.ballots.now.candidates in
    let front = c.args.ranks.now.items in
    let node = c.in-Some.node in
    let is = c.in-Some.ensures.some.1 in
    let inner = forest_of node.inner in
    let next = forest_of node.next in
    let own = below node.candidate node.ends (bag inner) in
    let new = c.push_node.new.ballots.lines in
    let added : new ≡ c.loop-node.ballots.lines ++ map (behind front) (node_lines node.candidate node.ends (lines_of inner)) =
    ap (λ (b : BallotList). b.lines) c.in_ok-push_node.ensures.lines
    ∙ ap (λ (f : List ℕ). c.loop-node.ballots.lines
    ++ map (behind f) (node_lines node.candidate node.ends (lines_of inner))) now.ranks in
    let all : All (λ r. IsRanking n (front ++ r)) (own ++ bag next) =
    subst (λ (x : Forest). All (λ r. IsRanking n (front ++ r)) (bag x)) is now.rankings in
    let more = count_step c.loop-node.ballots.lines new front node.candidate node.ends inner added in
    let size : length (bag (forest_of c.loop-node.rest)) ≡ length (own ++ bag next) = ap (λ (x : Forest). length (bag x)) is in
    let both = length-append own (bag next) in
    let nodes = ap node_count is in
    record {
      ranks = c.in_ok-push_node.ensures.ranks ∙ now.ranks;
      candidates = ap (λ (b : BallotList). b.candidates) c.in_ok-push_node.ensures.lines ∙ now.candidates;
      lines =
          lines_step c.loop-node.ballots.lines new front node.candidate node.ends inner next added
          ∙ (ap (λ (x : Forest). c.loop-node.ballots.lines ++ map (behind front) (lines_of x)) (sym is) ∙ now.lines);
      rankings = All-right (λ r. IsRanking n (front ++ r)) own (bag next) all;
      few = omega arith;
      nodes = omega (arith, nodes);
    }

pub push_node-push_lines-requires : goal.push_node-push_lines-requires
push_node-push_lines-requires t c =
    let n = c.args.ballots.now.candidates in
    let front = c.args.ranks.now.items in
    let inner = forest_of c.args.inner in
    let added = c.in_ok-push_line.ensures in
    let same : c.push_line.new.ballots.candidates ≡ n = ap (λ (b : BallotList). b.candidates) added in
    let lines :
    c.push_line.new.ballots.lines
    ≡ c.args.ballots.now.lines ++ line_of c.args.ends c.as_slice.result.now =
    ap (λ (b : BallotList). b.lines) added in
    let count : ballot_count c.push_line.new.ballots.lines ≡ ballot_count c.args.ballots.now.lines + c.args.ends =
    ap ballot_count lines ∙ count-push c.args.ballots.now.lines c.args.ends c.as_slice.result.now in
    let size = length-below c.args.c c.args.ends (bag inner) in (
      omega arith,
      (
        subst (λ (m : ℕ). All (λ r. IsRanking m (c.push.new.self.items ++ r)) (bag inner)) (sym same)
            (subst (λ (f : List ℕ). All (λ r. IsRanking n (f ++ r)) (bag inner)) (sym c.in_ok-push.ensures.items)
            (rankings_below n front c.args.c c.args.ends (bag inner) c.requires.rankings)),
        omega arith,
      ),
    )

pub push_node-returns-clause-lines : goal.push_node-returns-clause-lines
push_node-returns-clause-lines t c =
    node_listed c.args.ballots.now c.push_line.new.ballots c.push_lines.new.ballots c.args.ranks.now.items
    c.as_slice.result.now c.push.new.self.items c.args.c c.args.ends (forest_of c.args.inner)
    (c.as_slice.ensures.value ∙ c.in_ok-push.ensures.items) c.in_ok-push.ensures.items c.in_ok-push_line.ensures
    c.in_ok-push_lines.ensures.lines
