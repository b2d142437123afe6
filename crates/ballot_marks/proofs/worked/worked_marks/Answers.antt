use Rattle.std.proofs.Common.{refl}
use Rattle.ballot_marks.proofs.worked.worked_marks.Goals as goal

pub returns-clause-equal : goal.returns-clause-equal
returns-clause-equal c = record {
  refused = record { first = refl; refused = refl };
  cut = record { ranked_are = refl; closed_is = refl; passed_is = refl; cut_is = refl };
  passed = record { ranked_are = refl; closed_is = refl; passed_is = refl; cut_is = refl };
  passed_is_not_skipped = record { first = refl; refused = refl };
  not_passed_behind_a_cut = record { ranked_are = refl; closed_is = refl; passed_is = refl; cut_is = refl };
}

pub returns-clause-skipped : goal.returns-clause-skipped
returns-clause-skipped c = record {
  refused = record { first = refl; refused = refl };
  closed = record { ranked_are = refl; closed_is = refl; passed_is = refl; cut_is = refl };
  one_closed = record { ranked_are = refl; closed_is = refl; passed_is = refl; cut_is = refl };
  none_closed = record { ranked_are = refl; closed_is = refl; passed_is = refl; cut_is = refl };
  judged_first = record { first = refl; refused = refl };
}

pub returns-clause-repeated : goal.returns-clause-repeated
returns-clause-repeated c = record {
  refused = record { first = refl; refused = refl };
  cut = record { ranked_are = refl; closed_is = refl; passed_is = refl; cut_is = refl };
  passed = record { ranked_are = refl; closed_is = refl; passed_is = refl; cut_is = refl };
  no_mark = record { ranked_are = refl; closed_is = refl; passed_is = refl; cut_is = refl };
}
