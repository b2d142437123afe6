use Rattle.std.proofs.Common.{List, arith, subst, sym}
use Rattle.meek_words.specs.Numerals.{Word}
use Rattle.import_words.specs.Asks.{AreDistinguished}
use Rattle.import_words.specs.Values.{given_by}
use Rattle.import_words.proofs.ExitLemmas.{where_none}
use Rattle.import_words.proofs.OneLemmas.{one_distinguished}
use Rattle.import_words.proofs.asked.Asked.read.Goals as goal

pub returns-in_err-layout-clause-refused : goal.returns-in_err-layout-clause-refused
returns-in_err-layout-clause-refused c _ asked says =
    where_none _ c.in_err-layout.ensures.ok_part c.layout.ensures.none asked.layout says.layout

pub returns-in_err-output-clause-refused : goal.returns-in_err-output-clause-refused
returns-in_err-output-clause-refused c _ asked says =
    where_none _ c.in_err-output.ensures.ok_part c.output.ensures.none asked.output says.output

pub returns-in_err-empty-clause-refused : goal.returns-in_err-empty-clause-refused
returns-in_err-empty-clause-refused c _ asked says =
    where_none _ c.in_err-empty.ensures.ok_part c.empty_rows.ensures.none asked.empty says.empty

pub returns-in_err-treatment-clause-refused : goal.returns-in_err-treatment-clause-refused
returns-in_err-treatment-clause-refused c _ asked says =
    where_none _ c.in_err-treatment.ensures.ok_part c.treatment.ensures.none asked.treatment says.treatment

pub returns-in_err-roll-clause-refused : goal.returns-in_err-roll-clause-refused
returns-in_err-roll-clause-refused c refused asked says =
    c.in_err-roll.ensures.refused (grind (arith, c.from_residual-in_err-roll.ensures, refused)) asked.roll
    says.roll

pub returns-in_err-table-clause-refused : goal.returns-in_err-table-clause-refused
returns-in_err-table-clause-refused c refused asked says =
    c.in_err-table.ensures.refused (grind (arith, c.from_residual-in_err-table.ensures, refused)) asked.table
    says.table

pub returns-in_err-cells-clause-refused : goal.returns-in_err-cells-clause-refused
returns-in_err-cells-clause-refused c refused asked says =
    c.in_err-cells.ensures.refused (grind (arith, c.from_residual-in_err-cells.ensures, refused)) asked.cells
    says.cells

pub returns-in_err-distinguish-clause-refused : goal.returns-in_err-distinguish-clause-refused
returns-in_err-distinguish-clause-refused c refused asked says =
    c.in_err-distinguish.ensures.refused (grind (arith, c.from_residual-in_err-distinguish.ensures, refused))
    (subst (λ (names : List Word). AreDistinguished c.in_ok-cells.cells names) (sym c.items.ensures)
    (one_distinguished (given_by c.args.values.now) asked c.in_ok-cells.cells c.in_ok-roll.roll
    c.in_ok-cells.ensures.accepted c.in_ok-roll.ensures.accepted says))
