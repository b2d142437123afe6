use Rattle.std.proofs.Common.{◌≡◌, ℕ, List, [], ◌++◌, replicate, ap, sym, subst, ◌∙◌}
use Rattle.std.specs.List.{All}
use Rattle.plain_ballots.specs.Ballots.{BallotList, plain}
use Rattle.plain_ballots.specs.Ranking.{IsRanking}
use Rattle.ranking_trie.specs.Bag.{bag, IsRising}
use Rattle.ranking_trie.specs.Forest.{Forest}
use Rattle.ranking_trie.specs.Siblings.{forest_of}
use Rattle.ranking_trie.specs.Arena.{forest_in}
use Rattle.ranking_trie.specs.BallotBag.{BallotBag}
use Rattle.ranking_trie.proofs.ListLemmas.{All-right}
use Rattle.ranking_trie.proofs.ListingLemmas.{all_listed, plain-listed}
use Rattle.ranking_trie.proofs.FormLemmas.{listed_rise}
use Rattle.ranking_trie.specs.Lines.{HaveRisingRankings}
use Rattle.ranking_trie.proofs.trie.Trie.to_ballots.Goals as goal

pub push_lines-requires-clause-rankings : goal.push_lines-requires-clause-rankings
push_lines-requires-clause-rankings c =
    let t = c.self.inside in
    let f = forest_in t.arena t.first in
    let same : c.push_line.new.ballots.candidates ≡ t.candidates =
    ap (λ (b : BallotList). b.candidates) c.in_ok-push_line.ensures
    ∙ ap (λ (b : BallotList). b.candidates) c.new-listed.ensures in
    subst (λ (g : Forest). All (λ r. IsRanking c.push_line.new.ballots.candidates (c.new-ranks.result.items ++ r)) (bag g))
    (sym c.siblings-forest.ensures)
    (subst (λ (m : ℕ). All (λ r. IsRanking m (c.new-ranks.result.items ++ r)) (bag f)) (sym same)
    (subst (λ (l : List ℕ). All (λ r. IsRanking t.candidates (l ++ r)) (bag f)) (sym c.new-ranks.ensures.items)
    (All-right (λ r. IsRanking t.candidates r) (replicate t.ends []) (bag f) c.self.invariant.0.rankings)))

pub returns-clause-ballots : goal.returns-clause-ballots
returns-clause-ballots c =
    let t = c.self.inside in
    let f = forest_of c.siblings-forest.result in
    let is =
    all_listed t.candidates t.ends c.new-listed.result c.push_line.new.ballots c.push_lines.new.ballots
    c.new-ranks.result.items f c.new-listed.ensures c.new-ranks.ensures.items
    c.in_ok-push_line.ensures c.in_ok-push_lines.ensures.lines in
    ap (λ (b : BallotList). plain b.lines) is
    ∙ (plain-listed t.ends f
    ∙ (ap (λ (g : Forest). replicate t.ends [] ++ bag g) c.siblings-forest.ensures
    ∙ ap (λ (s : BallotBag). s.ballots) c.self.view_is))

pub returns-clause-different : goal.returns-clause-different
returns-clause-different c =
    let t = c.self.inside in
    let f = forest_of c.siblings-forest.result in
    let is =
    all_listed t.candidates t.ends c.new-listed.result c.push_line.new.ballots c.push_lines.new.ballots
    c.new-ranks.result.items f c.new-listed.ensures c.new-ranks.ensures.items
    c.in_ok-push_line.ensures c.in_ok-push_lines.ensures.lines in
    let rising : IsRising 0 f = subst (IsRising 0) (sym c.siblings-forest.ensures) c.self.invariant.1 in
    subst (λ (b : BallotList). HaveRisingRankings b.lines) (sym is) (listed_rise t.ends f rising)
