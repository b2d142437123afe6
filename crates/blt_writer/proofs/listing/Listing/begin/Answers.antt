use Rattle.std.proofs.Common.{◌≤◌, List, All, length, arith, sym, subst}
use Rattle.std.specs.Prelude.{IsPermutation}
use Rattle.std.proofs.lemmas.List.Sorted.{IsPermutation-trans, length_permutation}
use Rattle.plain_ballots.specs.declared.ballot_line.BallotLine.{BallotLine}
use Rattle.plain_ballots.specs.Ballots.{plain}
use Rattle.blt_writer.specs.Merge.{all_plain}
use Rattle.blt_writer.specs.Packed.{AreListed}
use Rattle.blt_writer.specs.Shelves.{AreShelved, AreSorted}
use Rattle.blt_writer.proofs.ExportLemmas.{written_back}
use Rattle.blt_writer.proofs.ShelfLemmas.{sorted_ballots, sorted_listed, sorted_shelved}
use Rattle.blt_writer.proofs.listing.Listing.begin.Goals as goal

pub invariant_of-result : goal.invariant_of-result
invariant_of-result g c =
    let lines = c.args.ballots.lines in
    let shelves = c.in_ok-shelves.shelves in
    let now = c.sort_each.new.shelves in
    let back = written_back now shelves.items shelves.len (omega (arith, c.sort_each.ensures.as_many)) in
    let are : AreSorted shelves.items now =
    subst (λ (s : List (List BallotLine)). AreSorted s now) c.as_mut_slice.ensures.value
    c.sort_each.ensures in
    let ballots = IsPermutation-trans _ _ _ (sorted_ballots shelves.items now are) c.in_ok-shelves.ensures.ballots in
    let same = length_permutation (all_plain now) (plain lines) ballots in (
      subst AreShelved (sym back) (sorted_shelved shelves.items now are c.in_ok-shelves.ensures.shelved),
      subst (All AreListed) (sym back) (sorted_listed shelves.items now are),
      subst (λ (l : List (List BallotLine)). length (all_plain l) ≤ 999999999) (sym back)
          (omega (arith, same, c.lines_stand_for_ballots.ensures.count lines, c.lines-sound.ensures.sound.bounded)),
    )

pub returns-clause-ballots : goal.returns-clause-ballots
returns-clause-ballots g c =
    let lines = c.args.ballots.lines in
    let shelves = c.in_ok-shelves.shelves in
    let now = c.sort_each.new.shelves in
    let back = written_back now shelves.items shelves.len (omega (arith, c.sort_each.ensures.as_many)) in
    let are : AreSorted shelves.items now =
    subst (λ (s : List (List BallotLine)). AreSorted s now) c.as_mut_slice.ensures.value
    c.sort_each.ensures in
    subst (λ (l : List (List BallotLine)). IsPermutation (all_plain l) (plain lines)) (sym back)
    (IsPermutation-trans _ _ _ (sorted_ballots shelves.items now are) c.in_ok-shelves.ensures.ballots)
