use Rattle.std.proofs.Common.{◌∙◌, ap, sym, subst, ℕ, List, [], ◌∷◌, ◌++◌}
use Rattle.std.proofs.lemmas.List.{append_cancel_right}
use Rattle.sheet_page.specs.JsonGrammar.{IsTextOf}
use Rattle.day_page.specs.DayValues.{day_value}
use Rattle.day_page.proofs.DayTexts.{day_is, day_members, day_written}
use Rattle.day_page.proofs.laws.days_are_json.Goals as goal

pub returns-clause-texts : goal.returns-clause-texts
returns-clause-texts c places input v short form = (
  day_members places v,
  ap (λ (l : List ℕ). l ++ 10 ∷ []) (day_written places v),
  day_is c.lawful_calls_leave_lawful_batches.ensures.numbered places input v short form,
)

pub returns-clause-values : goal.returns-clause-values
returns-clause-values c places first second v w short few form other same =
    let numbered = c.lawful_calls_leave_lawful_batches.ensures.numbered in
    let one = day_members places v in
    let two = day_members places w in
    let texts =
    sym (day_written places v) ∙ append_cancel_right _ _ (10 ∷ []) same ∙ day_written places w in
    c.sheets_are_json.ensures.one_thing (day_value places v) (day_value places w) two
    (subst (λ (l : List ℕ). IsTextOf (day_value places v) l) texts (day_is numbered places first v short form))
    (day_is numbered places second w few other)
