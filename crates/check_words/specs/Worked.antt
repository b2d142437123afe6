-- Words worked by hand.
use Rattle.std.specs.Prelude.{ℕ, List, [], ◌∷◌, ◌++◌, codes}
use Rattle.meek_words.specs.Numerals.{Word}
use Rattle.check_words.specs.Asks.{Asks}
use Rattle.check_words.specs.declared.asked.Asked.{Asked}
use Rattle.check_words.specs.declared.count_rule.CountRule.{CountRule}
use Rattle.check_words.specs.declared.count_rule.CountRule.TheVariants.{Meek, Warren}
use Rattle.check_words.specs.declared.places.Places.{Places}
use Rattle.check_words.specs.declared.places.Places.TheVariants.{Six, Seven, Eight, Nine}

-- whatever is meant, these words do not ask for it
abbrev pub AskNothing : List Word → Type 0
AskNothing words = (asked : Asked) → ¬ (Asks words asked)

abbrev pub lots : Word → List Word
lots word = codes "--lots" ∷ word ∷ []

abbrev pub rule : Word → List Word
rule word = codes "--rule" ∷ word ∷ []

abbrev pub places_are : Word → List Word
places_are word = codes "--places" ∷ word ∷ []

abbrev pub omega_is : Word → List Word
omega_is word = codes "--omega" ∷ word ∷ []

pub record RefusedWords : Type 0 where
  pub none : AskNothing []
  pub no_lots : AskNothing (rule (codes "warren"))
  pub lots_twice : AskNothing (lots (codes "1,2") ++ lots (codes "1,2"))
  pub rule_twice : AskNothing (lots (codes "1,2") ++ rule (codes "meek") ++ rule (codes "warren"))
  pub no_rule : AskNothing (lots (codes "1,2") ++ rule (codes "Meek"))
  pub places_twice : AskNothing (lots (codes "1,2") ++ places_are (codes "9") ++ places_are (codes "9"))
  pub five_places : AskNothing (lots (codes "1,2") ++ places_are (codes "5"))
  pub ten_places : AskNothing (lots (codes "1,2") ++ places_are (codes "10"))
  pub no_zero_before : AskNothing (lots (codes "1,2") ++ places_are (codes "09"))
  pub omega_of_nothing : AskNothing (lots (codes "1,2") ++ omega_is (codes "0"))
  pub a_unit_too_many : AskNothing (lots (codes "1,2") ++ omega_is (codes "1000001"))
  pub no_value : AskNothing (lots (codes "1,2") ++ codes "--omega" ∷ [])
  pub another_option : AskNothing (lots (codes "1,2") ++ codes "--place" ∷ codes "9" ∷ [])

-- the lots 2 and 1, a rule, places and an omega
abbrev pub asked_of : CountRule → Places → (omega : ℕ) → Asked
asked_of rule places omega = record { lots = 2 ∷ 1 ∷ []; rule = rule; places = places; omega = omega }

pub record AcceptedWords : Type 0 where
  pub lots_alone : Asks (lots (codes "2,1")) (asked_of Meek Nine 1000)
  pub usual_said : Asks (lots (codes "2,1") ++ rule (codes "meek") ++ places_are (codes "9") ++ omega_is (codes "1000")) (asked_of Meek Nine 1000)
  pub six_places : Asks (places_are (codes "6") ++ lots (codes "2,1")) (asked_of Meek Six 1000)
  pub seven_places : Asks (places_are (codes "7") ++ lots (codes "2,1")) (asked_of Meek Seven 1000)
  pub eight_places : Asks (lots (codes "2,1") ++ places_are (codes "8")) (asked_of Meek Eight 1000)
  pub least_omega : Asks (lots (codes "2,1") ++ omega_is (codes "1")) (asked_of Meek Nine 1)
  pub other_order : Asks (omega_is (codes "1000000") ++ rule (codes "warren") ++ lots (codes "2,1")) (asked_of Warren Nine 1000000)
