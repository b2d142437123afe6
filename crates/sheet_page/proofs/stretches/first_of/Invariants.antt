use Rattle.std.proofs.Common.{◌≡◌, ℕ, ◌≤◌, true}
use Rattle.sheet_page.specs.Stretches.{have_one_number}
use Rattle.sheet_page.proofs.stretches.first_of.Given as goal

abbrev pub invariant-loop-i : goal.invariant-loop-i
invariant-loop-i g l = (k : ℕ) → l.i ≤ k → k ≤ l.last → have_one_number l.rows k l.last ≡ true
