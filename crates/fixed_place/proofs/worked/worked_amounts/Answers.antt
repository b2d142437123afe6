use Rattle.std.proofs.Common.{refl}
use Rattle.std.specs.Fmt.{digits}
use Rattle.fixed_place.specs.Text.{text_of, last_digits}
use Rattle.fixed_place.proofs.worked.worked_amounts.Goals as goal

pub returns-clause-roundings : goal.returns-clause-roundings
returns-clause-roundings c =
    record {
      kept = refl;
      least = refl;
      nothing = refl;
      nearly_all = refl;
      all = refl;
      over = refl;
      over_itself = refl;
      over_less = refl;
      over_most = refl;
    }

pub returns-clause-texts : goal.returns-clause-texts
unfolding text_of last_digits digits
returns-clause-texts c = record { quota = refl; nothing = refl; six_places = refl; largest = refl }
