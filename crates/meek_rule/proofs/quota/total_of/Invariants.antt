use Rattle.std.proofs.Common.{◌≡◌, sum, take}
use Rattle.meek_rule.proofs.quota.total_of.Given as goal

-- the total of the votes so far
abbrev pub invariant-loop-vote : goal.invariant-loop-vote
invariant-loop-vote g l = l.total ≡ sum (take l.vote-index l.vote-items)
