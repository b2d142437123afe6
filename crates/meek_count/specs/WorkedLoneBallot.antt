-- A whole count worked by hand in which a keep value falls until it is so small that it rises by rounding.
use Rattle.std.specs.Prelude.{ℕ, true, false, List, [], ◌∷◌}
use Rattle.candidate_roll.specs.declared.state.State.TheVariants.{Elected as IsElected, Defeated}
use Rattle.meek_rule.specs.declared.step.Step.TheVariants.{Elected, Defeat}
use Rattle.meek_rule.specs.Row.{Row}
use Rattle.meek_count.specs.Rows.{IsCount}
use Rattle.meek_count.specs.Worked.{opened, unmoved, moved, three_for_two, first_is_elected}

-- One ballot for candidate 1, who reaches the quota at once. Nobody else has votes, so whatever 1 doesn't keep is lost.

abbrev pub lone_ballot : List (List ℕ)
lone_ballot = (1 ∷ []) ∷ []

-- The keep value falls to about a third each time, and rises from 19116 to 52313 when the roundings weigh more than
-- that. So the surplus doesn't fall, and of the tied the first in the lots is defeated.
abbrev pub lone_rows : List Row
lone_rows =
    let first : Row = record (opened 1000000000 (1000000000 ∷ 0 ∷ 0 ∷ []) 1000000000 333333334 666666666) {
      elected = true ∷ false ∷ false ∷ [];
      step = Elected;
    } in
    -- an iteration of round 2 with a transfer: what candidate 1 keeps of the ballot is all that there is
    let transferring : (iteration keep quota surplus : ℕ) → Row = λ iteration keep quota surplus.
    record (moved (unmoved first first_is_elected) (keep ∷ 1000000000 ∷ 1000000000 ∷ []) (keep ∷ 0 ∷ 0 ∷ []) keep quota surplus) {
      iteration = iteration;
    } in
    first
    ∷ transferring 1 1000000000 333333334 666666666
    ∷ transferring 2 333333334 111111112 222222222
    ∷ transferring 3 111111114 37037039 74074075
    ∷ transferring 4 37037043 12345682 24691361
    ∷ transferring 5 12345695 4115232 8230463
    ∷ transferring 6 4115281 1371761 2743520
    ∷ transferring 7 1371960 457321 914639
    ∷ transferring 8 457740 152581 305159
    ∷ transferring 9 152926 50976 101950
    ∷ transferring 10 52313 17438 34875
    ∷ transferring 11 19116 6373 12743
    ∷ record (transferring 12 52313 17438 34875) { tied = false ∷ true ∷ true ∷ []; step = Defeat 2 }
    ∷ []

abbrev pub LoneBallot : Type 0
LoneBallot =
    IsCount 9 1000 lone_ballot three_for_two (2 ∷ 3 ∷ 1 ∷ []) lone_rows (IsElected ∷ Defeated ∷ IsElected ∷ [])
