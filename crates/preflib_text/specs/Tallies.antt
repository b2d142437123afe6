-- What becomes of the ballots of a text.
use Rattle.std.specs.Prelude.{ℕ, ◌==◌, Bool, false, List, length, filter, sum_by}
use Rattle.std.specs.Option.{option_map_or}
use Rattle.ballot_marks.specs.Ballot.{ranked, is_passed, is_cut}
use Rattle.ballot_marks.specs.declared.choice.Treat.{Treat}
use Rattle.preflib_text.specs.declared.tally.Tally.{Tally}
use Rattle.preflib_text.specs.Ballots.{treating}
use Rattle.preflib_text.specs.Items.{Order}

-- how many ballots orders stand for
abbrev pub ballots_of : List Order → ℕ
ballots_of orders = sum_by (λ order. order.count) orders

-- whether the ballots of an order rank nobody
abbrev pub ranks_nobody : Treat → Order → Bool
ranks_nobody equal order = option_map_or (λ ranks. length ranks == 0) (ranked (treating equal) order.marks) false

-- The tally of orders: how many they are, and how many ballots stand for all of them, for those that rank nobody,
-- for those of which a mark is passed, and for those that are cut.
abbrev pub tally : Treat → List Order → Tally
tally equal orders = record {
  orders = length orders;
  ballots = ballots_of orders;
  empty = ballots_of (filter (ranks_nobody equal) orders);
  passed = ballots_of (filter (λ order. is_passed (treating equal) order.marks) orders);
  cut = ballots_of (filter (λ order. is_cut (treating equal) order.marks) orders);
}
