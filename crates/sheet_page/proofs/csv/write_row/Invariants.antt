use Rattle.std.specs.List.{flat_map}
use Rattle.csv_text.specs.Csv.{record_text}
use Rattle.sheet_page.specs.Csv.{csv_record}
use Rattle.sheet_page.specs.Prints.{Prints}
use Rattle.sheet_page.specs.Values.{all_places}
use Rattle.sheet_page.proofs.csv.write_row.Given as goal

abbrev pub invariant-loop-p : goal.invariant-loop-p
invariant-loop-p g l =
    Prints g.K.Sink l.initial.pen l.pen
    (flat_map (λ p. record_text (csv_record g.row.P l.values l.row p)) (all_places l.p))
