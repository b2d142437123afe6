use Rattle.std.proofs.Common.{◌≡◌, ◌≤◌, length}
use Rattle.std.specs.Prelude.{vec_capacity}
use Rattle.frozen_plan.specs.Dealt.{AreEmpty}
use Rattle.frozen_plan.proofs.dealing.empty_shares.Given as goal

abbrev pub invariant-loop-i : goal.invariant-loop-i
invariant-loop-i l = record {
  as_many : length l.shares.items ≡ l.i;
  room : l.shards ≤ vec_capacity l.shares;
  empty : AreEmpty l.candidates l.shares.items;
}
