-- What holds of words, whoever reads them.
use Rattle.std.specs.Prelude.{◌≡◌, ℕ, List, [], ◌∷◌, codes}
use Rattle.fixed_place.specs.declared.omega.TheConstants.{USUAL_OMEGA}
use Rattle.meek_words.specs.Numerals.{Word, IsLotList}
use Rattle.check_words.specs.Asks.{Asks}
use Rattle.check_words.specs.declared.asked.Asked.{Asked}
use Rattle.check_words.specs.declared.count_rule.CountRule.TheVariants.{Meek}
use Rattle.check_words.specs.declared.places.Places.TheVariants.{Nine}

-- words ask for one thing at most
abbrev pub AskOneThing : Type 0
AskOneThing = (words : List Word) (one other : Asked) → Asks words one → Asks words other → one ≡ other

-- Words that are a list of lots and nothing else ask for Meek's rule, nine places and the usual omega.
abbrev pub LotsAloneAskForTheUsual : Type 0
LotsAloneAskForTheUsual =
    (word : Word) (lots : List ℕ) → IsLotList word lots
    → Asks (codes "--lots" ∷ word ∷ []) (record { lots = lots; rule = Meek; places = Nine; omega = USUAL_OMEGA })
