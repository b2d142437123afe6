use Rattle.sheet_check.proofs.TrueSheets.{other_places, sheets_true}
use Rattle.sheet_check.proofs.laws.sheets_are_true.Goals as goal

pub returns-clause-by_its_terms : goal.returns-clause-by_its_terms
returns-clause-by_its_terms c = sheets_true c.sheets_are_read_back.ensures.form

pub returns-clause-by_no_other_places : goal.returns-clause-by_no_other_places
returns-clause-by_no_other_places c =
    other_places c.sheets_are_read_back.ensures.form c.iterations_say_their_places.ensures.places
