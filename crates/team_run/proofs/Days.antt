-- The scripts of a day file can be run.
use Rattle.std.proofs.Common.{ℕ, suc, ◌<◌, ◌≤◌, List, [], ◌∷◌, All, AllPairs, arith}
use Rattle.std.proofs.lemmas.List.Elements.{All-head, All-weaker}
use Rattle.day_reader.specs.declared.script.Script.{Script}
use Rattle.day_reader.specs.Said.{AreScripts}
use Rattle.team_run.specs.Teams.{RisesFrom, MayRun}

abbrev IsBefore : Script → Script → Type 0
IsBefore one other = one.team < other.team

rises : (n : ℕ) (scripts : List Script) → All (λ s. n < s.team) scripts → AllPairs IsBefore scripts → RisesFrom n scripts
rises n [] above rising = tt
rises n (script ∷ scripts) above rising = (
  All-head (λ (s : Script). n < s.team) script scripts above,
  rises script.team scripts
      (λ k d inside. rising 0 (suc k) d (omega arith) (omega (arith, inside)))
      (λ i j d before inside. rising (suc i) (suc j) d (omega (arith, before)) (omega (arith, inside))),
)

pub may_run : (candidates : ℕ) (scripts : List Script) → AreScripts candidates scripts → MayRun candidates scripts
may_run candidates scripts are = record {
  numbers =
      rises 0 scripts (All-weaker (λ (s : Script). (1 ≤ s.team) × (s.team ≤ 16)) (λ (s : Script). 0 < s.team)
      (λ s h. (let one = h.0 in omega arith)) scripts are.numbers) are.rising;
  calls = are.calls;
}
