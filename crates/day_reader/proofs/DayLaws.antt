-- The laws of the table of day files.
use Rattle.std.proofs.Common.{◌≡◌, List, [], refl, subst, Ok}
use Rattle.std.specs.Prelude.{Some}
use Rattle.input_text.specs.Token.{Item}
use Rattle.input_text.specs.Judged.{after, Progress, GoesOn, Ends, ended}
use Rattle.input_text.proofs.Judgements.{same_some, none_not}
use Rattle.input_text.proofs.Following.{Follows, expects, follows_open, one_value}
use Rattle.input_text.proofs.Ruling.{refuses_by_rule, accepts, refuses_else}
use Rattle.day_reader.specs.declared.day.Day.{Day}
use Rattle.day_reader.specs.Day.{IsDay}
use Rattle.day_reader.specs.DayTable.{Expected, at_file_token}
use Rattle.day_reader.specs.Front.{IsFileFront}
use Rattle.day_reader.specs.Said.{start, HasOneDay, FollowsOpenLists, ExpectsRightly, AcceptsDays}
use Rattle.day_reader.specs.Said.{RefusesByTheRule, RefusesAllElse}
use Rattle.day_reader.specs.Shared.{Shared}
use Rattle.day_reader.proofs.DaySoundness.{day_goes_on}
use Rattle.day_reader.proofs.DayCompleteness.{reads_front, reads_day, can_go_on}

module _ (shared : Shared) where
  day_read :
      (expected : Progress Expected Day) (items : List Item) → IsFileFront expected items
      → after at_file_token start items ≡ Ok expected
  day_read (GoesOn expected) items front = reads_front shared expected items front
  day_read (Ends day) items front = reads_day shared items day front

  day_completes :
      (expected : Progress Expected Day) (items : List Item) → IsFileFront expected items
      → (more : List Item) × (last : Progress Expected Day) × (day : Day) × (after at_file_token expected more ≡ Ok last)
      × (ended last ≡ Some day)
  day_completes (GoesOn expected) items front =
      let rest = can_go_on shared expected items front in (rest.0, Ends rest.1, rest.1, rest.2, refl)
  day_completes (Ends day) items front = ([], Ends day, day, refl, refl)

  day_ends :
      (expected : Progress Expected Day) (day : Day) (items : List Item) → IsFileFront expected items
      → ended expected ≡ Some day
      → IsDay items day
  day_ends (GoesOn expected) day items front is = absurd (none_not is)
  day_ends (Ends value) day items front is = subst (IsDay items) (same_some is) front

  pub day_follows : Follows at_file_token ended start IsDay IsFileFront
  day_follows = record {
    begins = refl;
    steps = day_goes_on shared;
    reads_front = day_read;
    goes_on = day_completes;
    ends_file = day_ends;
    reads_file = λ items day is. (Ends day, reads_day shared items day is, refl);
  }

  pub has_one_day : HasOneDay
  has_one_day items one other a b = one_value day_follows items one other a b

  pub follows_open_lists : FollowsOpenLists
  follows_open_lists = follows_open day_follows

  pub expects_rightly : ExpectsRightly
  expects_rightly = expects day_follows

  pub accepts_days : AcceptsDays
  accepts_days = accepts day_follows

  pub refuses_by_the_rule : RefusesByTheRule
  refuses_by_the_rule = refuses_by_rule day_follows

  pub refuses_all_else : RefusesAllElse
  refuses_all_else = refuses_else day_follows
