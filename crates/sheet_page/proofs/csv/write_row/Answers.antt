use Rattle.csv_text.specs.Csv.{record_text}
use Rattle.sheet_page.specs.Csv.{csv_record}
use Rattle.sheet_page.proofs.Pens.{nothing, place_more}
use Rattle.sheet_page.proofs.csv.write_row.Goals as goal

pub loop-p-init : goal.loop-p-init
loop-p-init g c = nothing _ _

pub loop-p-preserved : goal.loop-p-preserved
loop-p-preserved g c =
    place_more (λ p. record_text (csv_record g.row.P c.args.values.now c.args.row.now p)) c.loop-p.p
    c.loop-p.invariant c.write_line.ensures
