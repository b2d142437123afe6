-- A list of lots alone is one pair.
use Rattle.std.proofs.Common.{refl, [], ◌∷◌}
use Rattle.check_words.specs.Laws.{LotsAloneAskForTheUsual}
use Rattle.check_words.specs.declared.check_option.CheckOption.TheVariants.{Lots}

pub lots_alone : LotsAloneAskForTheUsual
lots_alone word lots list = record {
  pairs = record { option = Lots; value = word } ∷ [];
  spelled = refl;
  says = record { lots = list; rule = refl; places = refl; omega = refl };
}
