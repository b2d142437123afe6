use Rattle.std.proofs.Common.{◌≡◌, ◌+◌, ◌≤◌, ◌++◌, length, take}
use Rattle.std.specs.List.Sorted.{IsPermutation}
use Rattle.plain_ballots.specs.Ballots.{ballot_count, plain}
use Rattle.ranking_trie.specs.Lines.{visit_count}
use Rattle.ranking_trie.proofs.trie.Trie.remove.Given as goal

abbrev pub invariant-loop-line : goal.invariant-loop-line
invariant-loop-line g l = record {
  candidates : l.self.candidates ≡ l.initial.self.candidates;
  bag : IsPermutation l.initial.self.ballots (plain (take l.line-index l.line-items) ++ l.self.ballots);
  counted : length l.initial.self.ballots ≡ length l.self.ballots + ballot_count (take l.line-index l.line-items);
  room : l.initial.self.spare ≤ l.self.spare;
  cost : l.steps ≡ l.initial.steps + visit_count (take l.line-index l.line-items);
}
