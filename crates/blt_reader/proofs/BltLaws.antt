-- The tables of ballot files and of rolls follow their files.
use Rattle.std.proofs.Common.{◌≡◌, ℕ, List, [], ◌∷◌, ◌++◌, refl, subst, Ok}
use Rattle.std.specs.Prelude.{Some}
use Rattle.input_text.specs.declared.fault_kind.FaultKind.TheVariants.{TooManyBallots}
use Rattle.plain_ballots.specs.declared.ballot_line.BallotLine.{BallotLine}
use Rattle.input_text.specs.Token.{Item}
use Rattle.blt_reader.specs.Poll.{Poll}
use Rattle.blt_reader.specs.Blt.{IsUpToTitle, IsBlt}
use Rattle.input_text.specs.Judged.{Judged, after, Progress, GoesOn, Ends, ended, closed}
use Rattle.blt_reader.specs.BallotTable.{Limit, Lines, Between, at_line}
use Rattle.blt_reader.specs.BltTable.{Expected, Candidates, at_token, behind_title, at_file_token}
use Rattle.blt_reader.specs.Front.{IsRollFront, IsFileFront, IsLineFront}
use Rattle.blt_reader.specs.Said.{nothing_more, at_roll_token, HasOnePoll, FollowsOpenLists, ExpectsRightly}
use Rattle.blt_reader.specs.Said.{AcceptsFiles, RefusesByTheRule, RefusesAllElse, AcceptsRolls}
use Rattle.blt_reader.specs.Said.{RefusesRollsByTheRule, ExpectsRollsRightly, ExpectsLinesRightly}
use Rattle.input_text.proofs.Judgements.{refused, same_some, none_not}
use Rattle.blt_reader.proofs.BallotSoundness.{no_lines, line_goes_on}
use Rattle.blt_reader.proofs.BallotCompleteness.{reads_line_front}
use Rattle.blt_reader.proofs.BltSoundness.{roll_goes_on, file_goes_on}
use Rattle.blt_reader.proofs.BltCompleteness.{reads_front, reads_up_to_title, can_go_on, reads_blt}
use Rattle.input_text.proofs.Following.{front_behind, Follows, expects, follows_open, one_value}
use Rattle.input_text.proofs.Ruling.{refuses_by_rule, accepts, refuses_else}
use Rattle.input_text.proofs.FrontRuling.{reads_fronts, refuses_fronts}

module _ (limit : Limit) where
  roll_read :
      (expected : Progress Expected Poll) (items : List Item) → IsRollFront limit.most expected items
      → after (at_roll_token limit) (GoesOn Candidates) items ≡ Ok expected
  roll_read (GoesOn expected) items front = reads_front limit nothing_more expected items front
  roll_read (Ends poll) items front = reads_up_to_title limit nothing_more items poll front

  file_read :
      (expected : Progress Expected Poll) (items : List Item) → IsFileFront limit.most expected items
      → after (at_file_token limit) (GoesOn Candidates) items ≡ Ok expected
  file_read (GoesOn expected) items front = reads_front limit behind_title expected items front
  file_read (Ends poll) items front = reads_blt limit items poll front

  abbrev Completes : (Progress Expected Poll → Item → Judged (Progress Expected Poll)) → Progress Expected Poll → Type 0
  Completes table expected =
      (more : List Item) × (last : Progress Expected Poll) × (poll : Poll) × (after table expected more ≡ Ok last)
      × (ended last ≡ Some poll)

  roll_completes :
      (expected : Progress Expected Poll) (items : List Item) → IsRollFront limit.most expected items
      → Completes (at_roll_token limit) expected
  roll_completes (GoesOn expected) items front =
      let rest =
      can_go_on limit nothing_more expected items front in
      (rest.0, Ends rest.1, rest.1, rest.2, refl)
  roll_completes (Ends poll) items front = ([], Ends poll, poll, refl, refl)

  file_completes :
      (expected : Progress Expected Poll) (items : List Item) → IsFileFront limit.most expected items
      → Completes (at_file_token limit) expected
  file_completes (GoesOn expected) items front =
      let rest =
      can_go_on limit behind_title expected items front in
      (rest.0, Ends rest.1, rest.1, rest.2, refl)
  file_completes (Ends poll) items front = ([], Ends poll, poll, refl, refl)

  roll_ends :
      (expected : Progress Expected Poll) (poll : Poll) (items : List Item) → IsRollFront limit.most expected items
      → ended expected ≡ Some poll → IsUpToTitle limit.most items poll
  roll_ends (GoesOn expected) poll items front is = absurd (none_not is)
  roll_ends (Ends value) poll items front is = subst (IsUpToTitle limit.most items) (same_some is) front

  file_ends :
      (expected : Progress Expected Poll) (poll : Poll) (items : List Item) → IsFileFront limit.most expected items
      → ended expected ≡ Some poll → IsBlt limit.most items poll
  file_ends (GoesOn expected) poll items front is = absurd (none_not is)
  file_ends (Ends value) poll items front is = subst (IsBlt limit.most items) (same_some is) front

  pub roll_follows :
      Follows (at_roll_token limit) ended (GoesOn Candidates) (IsUpToTitle limit.most)
      (IsRollFront limit.most)
  roll_follows = record {
    begins = refl;
    steps = roll_goes_on limit;
    reads_front = roll_read;
    goes_on = roll_completes;
    ends_file = roll_ends;
    reads_file = λ items poll is. (Ends poll, reads_up_to_title limit nothing_more items poll is, refl);
  }

  pub file_follows : Follows (at_file_token limit) ended (GoesOn Candidates) (IsBlt limit.most) (IsFileFront limit.most)
  file_follows = record {
    begins = refl;
    steps = file_goes_on limit;
    reads_front = file_read;
    goes_on = file_completes;
    ends_file = file_ends;
    reads_file = λ items poll is. (Ends poll, reads_blt limit items poll is, refl);
  }

pub has_one_poll : HasOnePoll
has_one_poll most items one other a b =
    let limit : Limit = record { most = most; refusal = TooManyBallots } in
    one_value (file_follows limit) items one other a b

pub follows_open_lists : FollowsOpenLists
follows_open_lists limit = follows_open (file_follows limit)

pub expects_rightly : ExpectsRightly
expects_rightly limit = expects (file_follows limit)

pub accepts_files : AcceptsFiles
accepts_files limit = accepts (file_follows limit)

pub refuses_by_the_rule : RefusesByTheRule
refuses_by_the_rule limit = refuses_by_rule (file_follows limit)

pub refuses_all_else : RefusesAllElse
refuses_all_else limit = refuses_else (file_follows limit)

pub accepts_rolls : AcceptsRolls
accepts_rolls limit =
    reads_fronts (at_token limit) Candidates (IsUpToTitle limit.most) (IsRollFront limit.most)
    (roll_follows limit)

pub refuses_rolls_by_the_rule : RefusesRollsByTheRule
refuses_rolls_by_the_rule limit =
    refuses_fronts (at_token limit) Candidates (IsUpToTitle limit.most) (IsRollFront limit.most)
    (roll_follows limit)

pub expects_rolls_rightly : ExpectsRollsRightly
expects_rolls_rightly limit = expects (roll_follows limit)

-- ---- ballot lines

module _ (candidates : ℕ) (limit : Limit) where
  abbrev LineTable : Progress Lines (List BallotLine) → Item → Judged (Progress Lines (List BallotLine))
  LineTable = closed (at_line candidates limit)

  line_steps :
      (expected next : Progress Lines (List BallotLine)) (item : Item) (items : List Item)
      → IsLineFront candidates limit.most expected items → LineTable expected item ≡ Ok next
      → IsLineFront candidates limit.most next (items ++ item ∷ [])
  line_steps (GoesOn lines) next item items is e =
      subst (λ (l : List Item). IsLineFront candidates limit.most next (l ++ item ∷ [])) is.1
      (line_goes_on candidates limit lines next item is.0 e)
  line_steps (Ends lines) next item items is e = absurd (refused e)

pub expects_lines_rightly : ExpectsLinesRightly
expects_lines_rightly candidates limit items expected = (
  front_behind (LineTable candidates limit) (IsLineFront candidates limit.most) (line_steps candidates limit)
      items [] (GoesOn (Between [])) expected
      (no_lines candidates limit.most, refl),
  reads_line_front candidates limit expected items,
)
