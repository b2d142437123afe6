use Rattle.std.proofs.Common.{refl, inl, inr, []}
use Rattle.packed_ballots.proofs.worked.worked_lines.Goals as goal

pub returns : goal.returns
returns c = record {
  stand = record {
    stands = refl;
    ballots = refl;
    count = refl;
    fourth = refl;
    ninth = refl;
    behind = refl;
    left = refl;
    front_of_three = refl;
    front_of_none = refl;
    front_of_nine = refl;
  };
  taken = record {
    equal = inl (record { before = []; behind = _; had = 2; was = refl; now = refl });
    own = inr refl;
  };
}
