use Rattle.std.proofs.Common.{◌≡◌, ◌∙◌, subst, arith, ℕ}
use Rattle.std.specs.List.Sorted.{IsPermutation}
use Rattle.std.proofs.lemmas.List.{get_or_default}
use Rattle.plain_ballots.specs.Ballots.{plain}
use Rattle.day_replay.specs.Places.{first_lines}
use Rattle.day_replay.proofs.PackedLines.{batch_packed}
use Rattle.day_replay.proofs.PlaceLemmas.{all_batches}
use Rattle.day_replay.proofs.packing.pack_placed.Goals as goal

pub loop-place-preserved : goal.loop-place-preserved
loop-place-preserved c = record {
  candidates = c.put_at.ensures.candidates ∙ c.loop-place.invariant.candidates;
  ballots =
      batch_packed c.args.entries.now c.args.places.now c.loop-place.place-index _ c.loop-place.packed.lines
      c.put_at.new.packed.lines c.loop-place-test.true (get_or_default c.args.places.now c.loop-place.place-index _ _ c.loop-place-test.true)
      c.loop-place.invariant.ballots c.in_ok-put_at.ensures.ballots;
  few = let more = c.in_ok-put_at.ensures.few in let so_far = c.loop-place.invariant.few in omega (arith, more, so_far);
}

pub returns-clause-ballots : goal.returns-clause-ballots
returns-clause-ballots c =
    let entries = c.args.entries.now in
    let places = c.args.places.now in
    let all : c.loop-place.place-index ≡ 9999 =
    let stop = c.loop-place-test.false in
    omega (arith, stop, c.loop-place.auto.place-index-end, c.requires.numbered) in
    subst (λ (n : ℕ). IsPermutation (plain c.loop-place.packed.lines) (plain (first_lines entries places n)))
    (all_batches c.loop-place.place-index all) c.loop-place.invariant.ballots
