-- Tallies worked by hand.
use Rattle.std.specs.Prelude.{◌≡◌, ℕ, List, ◌++◌, codes}
use Rattle.ballot_marks.specs.declared.choice.Treat.{Treat}
use Rattle.ballot_marks.specs.declared.choice.Treat.TheVariants.{Refuse, Cut, Pass}
use Rattle.preflib_text.specs.declared.tally.Tally.{Tally}
use Rattle.preflib_text.specs.Ballots.{orders}
use Rattle.preflib_text.specs.Tallies.{tally}
use Rattle.preflib_text.specs.Worked.{three}

-- lines after three candidates have this tally
abbrev pub Tallies : Treat → List ℕ → Tally → Type 0
Tallies equal lines numbers = tally equal (orders (three ++ lines)) ≡ numbers

-- 3 ballots with an item after a candidate, 1 ballot with it in front of one, and 2 with none
abbrev pub some_equal : List ℕ
some_equal = codes "3: 2,{1,3}\n1: {1,2},3\n2: 1\n"

pub record WorkedTallies : Type 0 where
  pub none : Tallies Cut (codes "") (record { orders = 0; ballots = 0; empty = 0; passed = 0; cut = 0 })
  pub plain :
      Tallies Refuse (codes "3: 2,1\n2: 3\n") (record { orders = 2; ballots = 5; empty = 0; passed = 0; cut = 0 })
  pub cut : Tallies Cut some_equal (record { orders = 3; ballots = 6; empty = 1; passed = 0; cut = 4 })
  pub passed : Tallies Pass some_equal (record { orders = 3; ballots = 6; empty = 0; passed = 4; cut = 0 })
  pub nobody_left :
      Tallies Pass (codes "4: {1,2,3}\n1: 2\n") (record { orders = 2; ballots = 5; empty = 4; passed = 4; cut = 0 })
  pub one_in_braces :
      Tallies Cut (codes "2: {1},2\n") (record { orders = 1; ballots = 2; empty = 0; passed = 0; cut = 0 })
