use Rattle.std.proofs.Common.{ℕ, List, ◌++◌, length, replicate, arith, ◌∙◌, subst}
use Rattle.std.specs.List.Sorted.{IsPermutation}
use Rattle.std.specs.Result.{OnOk}
use Rattle.std.proofs.lemmas.List.{take_all}
use Rattle.plain_ballots.specs.Ballots.{plain}
use Rattle.packed_ballots.proofs.packed_ballots.PackedBallots.take_whole.Goals as goal

-- as many first ranks as there are are all ranks
pub returns-clause-ballots : goal.returns-clause-ballots
returns-clause-ballots c =
    let ranks = c.ranks-ranks.result.now in
    let old = c.args.self.now.lines in
    let new = c.take.new.self.lines in
    subst (λ (r : List ℕ). OnOk c.take.result (IsPermutation (plain new) (plain old ++ replicate c.args.line.count r)))
    (take_all (length ranks) ranks (omega arith) ∙ c.ranks-ranks.ensures.value) c.take.ensures.ballots
