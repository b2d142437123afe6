use Rattle.std.proofs.Common.{ℕ, ◌+◌, List, length, arith, ap, sym, subst}
use Rattle.plain_ballots.specs.Ballots.{ballot_count}
use Rattle.packed_ballots.specs.declared.packed_line.PackedLine.{PackedLine}
use Rattle.packed_ballots.specs.Packed.{IsPacked, line_count, lines_of}
use Rattle.frozen_plan.proofs.RunLemmas.{length-rests}
use Rattle.frozen_plan.proofs.ShareLemmas.{share_few}
use Rattle.frozen_plan.proofs.deal.Deal.plan_of.Goals as goal

pub of_lines-requires-clause-sound : goal.of_lines-requires-clause-sound
of_lines-requires-clause-sound c =
    let n = c.self.inside.candidates in
    let bytes = c.self.inside.ranks.items in
    let all = subst (IsPacked n bytes) (sym c.as_slice-lines.ensures.value) c.self.invariant.1 in
    subst (λ (b : List ℕ). IsPacked n b c.as_mut_slice.result.now) (sym c.as_slice.ensures.value)
    (subst (IsPacked n bytes) (sym c.as_mut_slice.ensures.value) ((c.in_ok-own.ensures bytes).sound n all))

pub of_lines-requires-clause-few : goal.of_lines-requires-clause-few
of_lines-requires-clause-few c =
    let bytes = c.self.inside.ranks.items in
    let lines = c.as_slice-lines.result.now in
    omega (
      arith,
      ap line_count c.as_mut_slice.ensures.value,
      length-rests bytes 0 c.in_ok-own.own.items,
      ap length (c.in_ok-own.ensures bytes).ballots,
      share_few c.self.inside.shards (c.args.turn + 1) 0 (lines_of bytes lines),
      ap (λ (l : List PackedLine). ballot_count (lines_of bytes l)) c.as_slice-lines.ensures.value,
      c.self.invariant.2,
    )
