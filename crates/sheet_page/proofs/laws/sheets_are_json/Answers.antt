use Rattle.std.proofs.Common.{ap, ℕ, List, [], ◌∷◌, ◌++◌}
use Rattle.sheet_page.proofs.JsonOneThing.{texts_say}
use Rattle.sheet_page.proofs.JsonSheets.{json_says}
use Rattle.sheet_page.proofs.SheetJson.{sheet_text, sheet-written, sheet-is}
use Rattle.sheet_page.proofs.laws.sheets_are_json.Goals as goal

pub returns-clause-texts : goal.returns-clause-texts
returns-clause-texts c places v is =
    (sheet_text places v, ap (λ (l : List ℕ). l ++ 10 ∷ []) (sheet-written places v), sheet-is places v is)

pub returns-clause-one_thing : goal.returns-clause-one_thing
returns-clause-one_thing c = texts_say

pub returns-clause-values : goal.returns-clause-values
returns-clause-values c = json_says
