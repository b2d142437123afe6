use Rattle.std.proofs.Common.{ℕ, List, refl, sym, ap, ◌∙◌, length, subst}
use Rattle.plain_ballots.specs.Ballots.{BallotList}
use Rattle.ballot_table.specs.Left.{AreRowsRead}
use Rattle.ballot_table.proofs.reader.read_rows.Goals as goal

pub returns-in-Ok-imported : goal.returns-in-Ok-imported
returns-in-Ok-imported c =
    let head = c.args.named.head in
    let taken = c.in-Ok.ensures in
    subst (AreRowsRead c.args.asked.now head.columns.items c.args.named.names c.args.sheet.now.records.rest)
    (sym c.in-Ok-imported.ensures) (record {
      sound = taken.sound;
      names_are = refl;
      candidates = taken.candidates ∙ ap (λ (b : BallotList). b.candidates) c.new-taken.ensures.ballots ∙ c.requires.named;
      ballots_are = taken.ballots_are;
      tally_is = taken.tally_is;
    })
