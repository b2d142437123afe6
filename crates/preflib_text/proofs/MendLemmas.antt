-- What is accepted where equal ranks are refused, under other treatments.
use Rattle.std.proofs.Common.{◌≡◌, ℕ, List, [], ◌∷◌, replicate, Some, ap, ◌∙◌}
use Rattle.std.specs.Option.{option_map}
use Rattle.ballot_marks.specs.Ballot.{ranked}
use Rattle.ballot_marks.specs.Laws.{TreatmentsOnlyMend as MarksAreOnlyMended}
use Rattle.ballot_marks.specs.declared.choice.Treat.{Treat}
use Rattle.ballot_marks.specs.declared.choice.Treat.TheVariants.{Refuse}
use Rattle.preflib_text.specs.Asked.{Asked}
use Rattle.preflib_text.specs.Ballots.{treating, orders, plain_of, ballots}
use Rattle.preflib_text.specs.Items.{Order}
use Rattle.preflib_text.specs.Laws.{SaysBallots, refusing}
use Rattle.preflib_text.proofs.Options.{mapped, joined, parted}

module _ (mends : MarksAreOnlyMended) (equal : Treat) where
  mended_order : (order : Order) (all : List (List ℕ)) → plain_of Refuse order ≡ Some all
      → plain_of equal order ≡ Some all
  mended_order order all is =
      let from = mapped (replicate order.count) (ranked (treating Refuse) order.marks) all is in
      ap (option_map (replicate order.count)) (mends (treating equal) order.marks from.0 from.1).ranked_are
      ∙ ap Some from.2

  mended_orders : (os : List Order) (all : List (List ℕ)) → ballots Refuse os ≡ Some all
      → ballots equal os ≡ Some all
  mended_orders [] all is = is
  mended_orders (order ∷ os) all is =
      let parts = parted (plain_of Refuse order) (ballots Refuse os) all is in
      ap (λ o. joined o (ballots equal os)) (mended_order order parts.front parts.first_is)
      ∙ (ap (joined (Some parts.front)) (mended_orders os parts.back parts.rest_is) ∙ ap Some parts.all_is)

pub mended_text :
    MarksAreOnlyMended → (asked : Asked) (bytes : List ℕ) (rankings : List (List ℕ))
    → SaysBallots (refusing asked) bytes rankings → SaysBallots asked bytes rankings
mended_text mends asked bytes rankings says = record {
  metadata_sound = says.metadata_sound;
  whole_sound = says.whole_sound;
  orders_sound = says.orders_sound;
  total_sound = says.total_sound;
  ranked = mended_orders mends asked.equal (orders bytes) rankings says.ranked;
}
