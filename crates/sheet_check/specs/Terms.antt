-- By what terms a count went of which a text is held to be the sheet.
use Rattle.std.specs.Prelude.{ℕ, List}
use Rattle.candidate_roll.specs.Roll.{RollList}
use Rattle.check_words.specs.declared.asked.Asked.{Asked}
use Rattle.check_words.specs.declared.count_rule.CountRule.{CountRule}
use Rattle.check_words.specs.declared.count_rule.CountRule.TheVariants as said
use Rattle.check_words.specs.declared.places.Places.{Places}
use Rattle.check_words.specs.declared.places.Places.TheVariants as of
use Rattle.meek_rule.specs.Rule.{Rule, Meek, Warren}
use Rattle.sheet_text.specs.Sheet.{IsSheetUnder}
use Rattle.sheet_check.specs.declared.terms.Terms.{Terms}

abbrev pub rule_of : CountRule → Rule
rule_of said.Meek = Meek
rule_of said.Warren = Warren

abbrev pub places_of : Places → ℕ
places_of of.Six = 6
places_of of.Seven = 7
places_of of.Eight = 8
places_of of.Nine = 9

-- the terms that words ask for
abbrev pub terms_of : Asked → Terms
terms_of asked = record { lots = asked.lots; rule = asked.rule; places = asked.places; omega = asked.omega }

-- the text is the sheet of these ballots, counted at so many places and else by these terms
abbrev pub IsSheetBy : Terms → (places : ℕ) → List (List ℕ) → RollList → (text : List ℕ) → Type 0
IsSheetBy terms places ballots roll text = IsSheetUnder (rule_of terms.rule) places terms.omega ballots roll terms.lots text
