use Rattle.std.proofs.Common.{◌≡◌, ℕ, Bool, true, false, cond, List, [], sym, ◌∙◌}
use Rattle.std.proofs.lemmas.List.Sorted.{IsPermutation-refl}
use Rattle.plain_ballots.specs.declared.ballot_line.BallotLine.{BallotLine}
use Rattle.plain_ballots.specs.Ballots.{plain}
use Rattle.shard_book.specs.Rows.{lines_at}
use Rattle.shard_book.specs.Turnover.{brought, is_done, AreExchanged}
use Rattle.shard_book.proofs.turnover.follow.Goals as goal

nothing_moves :
    (done : Bool) (out into : List BallotLine) (ballots : List (List ℕ)) → done ≡ false
    → AreExchanged ballots (plain (cond done out [])) (plain (cond done into [])) ballots
nothing_moves true out into ballots refused = absurd (cc refused)
nothing_moves false out into ballots refused =
    record { kept = ballots; before = IsPermutation-refl ballots; after = IsPermutation-refl ballots }

pub returns-else-is_done-clause-exchanged : goal.returns-else-is_done-clause-exchanged
returns-else-is_done-clause-exchanged g c =
    nothing_moves (is_done c.args.reply) (lines_at c.args.entries.now.items c.args.place)
    (brought c.args.change.now) c.args.trie.now.ballots (sym c.is_done.ensures ∙ c.if-is_done.false)
