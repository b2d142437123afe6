use Rattle.std.proofs.Common.{refl, sym, subst, arith, List, All}
use Rattle.std.specs.Borrow.{Bor}
use Rattle.meek_words.specs.Numerals.{Word}
use Rattle.import_words.specs.Labels.{IsLabel}
use Rattle.import_words.specs.Values.{texts_in}
use Rattle.import_words.proofs.ExitLemmas.{where_none}
use Rattle.import_words.proofs.table_words.TableWords.read.Goals as goal

pub returns-in_err-names-clause-refused : goal.returns-in_err-names-clause-refused
returns-in_err-names-clause-refused c _ table says =
    where_none _ c.in_err-names.ensures.ok_part c.head_names.ensures.none table.names says.names

pub returns-in_err-head-clause-refused : goal.returns-in_err-head-clause-refused
returns-in_err-head-clause-refused c _ table says =
    where_none _ c.in_err-head.ensures.ok_part c.head_words.ensures.none table.head says.head

pub returns-in_err-columns-clause-refused : goal.returns-in_err-columns-clause-refused
returns-in_err-columns-clause-refused c refused table says =
    c.in_err-columns.ensures.refused (grind (arith, c.from_residual-in_err-columns.ensures, refused)) _
    (refl, subst (λ (texts : List (Bor Word)). All IsLabel (texts_in texts)) (sym c.as_slice-2.ensures.value) says.columns.1)

pub returns-in_err-chosen-clause-refused : goal.returns-in_err-chosen-clause-refused
returns-in_err-chosen-clause-refused c refused table says =
    c.in_err-chosen.ensures.refused (grind (arith, c.from_residual-in_err-chosen.ensures, refused)) table.chosen
    says.chosen
