use Rattle.std.proofs.Common.{[], ◌∷◌}
use Rattle.std.specs.Prelude.{codes}
use Rattle.sheet_page.specs.Html.{rounds_title, words_explained}
use Rattle.sheet_page.specs.RoundTable.{table_frame}
use Rattle.sheet_page.proofs.Printing.{wrapped}
use Rattle.sheet_page.proofs.Pens.{later, renamed}
use Rattle.sheet_page.proofs.rounds.write_rounds.Goals as goal

pub returns : goal.returns
returns g c =
    renamed (wrapped (codes "section") ([]) (rounds_title ∷ table_frame c.args.names g.row.P c.args.values.now ∷ words_explained ∷ []))
    (later c.open.ensures (later c.write_title.ensures (later c.write_frame.ensures (later c.write_words.ensures c.close.ensures))))
