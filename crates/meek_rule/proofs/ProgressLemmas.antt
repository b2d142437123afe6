-- Each step leads nearer to the end, and rounds and iterations stay few.
use Rattle.std.proofs.Common.{◌≡◌, ℕ, ◌+◌, ◌<◌, ◌≤◌, Bool, List, length, arith, unwrap_or, ◌*◌, Some, None}
use Rattle.std.proofs.Math.Nat.{mul-le-mul_right, add-mul}
use Rattle.std.proofs.lemmas.List.Sums.{count_by-le-length}
use Rattle.meek_rule.specs.Situation.{IsOnItsWay, Situation, is_hopeful, hopeful_count, opening}

-- fewer hopeful candidates are nearer to the end, whatever the surplus was
pub nearer_by_round :
    (most fewer hopeful before : ℕ) → fewer < hopeful
    → fewer * (most + 2) + (most + 1) < hopeful * (most + 2) + before
nearer_by_round most fewer hopeful before less =
    let at_least : (fewer + 1) * (most + 2) ≤ hopeful * (most + 2) = mul-le-mul_right (most + 2) (omega arith) in
    let split : (fewer + 1) * (most + 2) ≡ fewer * (most + 2) + 1 * (most + 2) = add-mul fewer 1 (most + 2) in
    omega arith

-- a count begins with few rounds and iterations
pub on_its_way-opening : (most s least seats : ℕ) (withdrawn : List Bool) → IsOnItsWay most (opening s least seats withdrawn)
on_its_way-opening most s least seats withdrawn = record {
  rounds = omega (arith, count_by-le-length is_hopeful (opening s least seats withdrawn).states);
  iterations = omega arith;
}

-- where one hopeful candidate fewer is left rounds stay few
pub on_its_way-round :
    (most : ℕ) (now next : Situation) → IsOnItsWay most now → next.round ≡ now.round + 1 → next.iteration ≡ 1
    → next.previous ≡ None → hopeful_count next.states < hopeful_count now.states
    → length next.states ≡ length now.states → IsOnItsWay most next
on_its_way-round most now next on round iteration previous fewer same =
    record {
      rounds = omega (arith, on.rounds);
      iterations = rw (iteration, previous) (omega arith);
    }

-- where the surplus falls iterations stay few
pub on_its_way-iteration :
    (most u : ℕ) (now next : Situation) → IsOnItsWay most now → next.round ≡ now.round
    → next.iteration ≡ now.iteration + 1 → next.previous ≡ Some u → u < unwrap_or now.previous (most + 1)
    → next.states ≡ now.states → IsOnItsWay most next
on_its_way-iteration most u now next on round iteration previous falls same =
    record {
      rounds = rw (round, same) on.rounds;
      iterations = rw (iteration, previous) (omega (arith, on.iterations));
    }
