use Rattle.std.proofs.Common.{ℕ, List, take, length, arith, ap, subst}
use Rattle.std.specs.List.Sorted.{IsPermutation}
use Rattle.std.proofs.lemmas.List.Sorted.{sum_by-IsPermutation, IsPermutation-trans}
use Rattle.packed_ballots.specs.declared.packed_line.PackedLine.{PackedLine}
use Rattle.packed_ballots.specs.Packed.{rests}
use Rattle.frozen_plan.specs.Plan.{plan_ballots}
use Rattle.frozen_plan.proofs.RunLemmas.{length-rests}
use Rattle.frozen_plan.proofs.ShareLemmas.{sorted_lines, sorted_rests}
use Rattle.frozen_plan.proofs.plan.Plan.of_lines.Goals as goal

pub rows_of_lines-requires-clause-sound : goal.rows_of_lines-requires-clause-sound
rows_of_lines-requires-clause-sound c =
    c.merge-kept.ensures.sound c.args.candidates
    (sorted_lines c.args.candidates c.args.ranks.now c.args.lines.now c.sort_unstable_by_key.new.self
    c.sort_unstable_by_key.ensures.permutation c.requires.sound)

pub rows_of_lines-requires-clause-few : goal.rows_of_lines-requires-clause-few
rows_of_lines-requires-clause-few c =
    let counts : PackedLine → ℕ = λ l. l.count in
    let bytes = c.args.ranks.now in
    let sorted = c.sort_unstable_by_key.new.self in
    omega (
      arith,
      length-rests bytes 0 (take c.merge-kept.result c.merge-kept.new.lines),
      ap length c.merge-kept.ensures.ballots,
      length-rests bytes 0 sorted,
      sum_by-IsPermutation counts c.args.lines.now sorted c.sort_unstable_by_key.ensures.permutation,
      c.requires.few,
    )

pub returns-clause-ballots : goal.returns-clause-ballots
returns-clause-ballots c =
    let bytes = c.args.ranks.now in
    let lines = c.args.lines.now in
    let sorted = c.sort_unstable_by_key.new.self in
    let rows = plan_ballots c.in_ok-rows.rows.items in
    let made : IsPermutation rows (rests bytes 0 sorted) =
    subst (λ (l : List (List ℕ)). IsPermutation rows l) c.merge-kept.ensures.ballots c.in_ok-rows.ensures.ballots in
    IsPermutation-trans rows (rests bytes 0 sorted) (rests bytes 0 lines) made
    (sorted_rests bytes lines sorted c.sort_unstable_by_key.ensures.permutation)
