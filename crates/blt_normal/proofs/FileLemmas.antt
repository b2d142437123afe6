-- What a ballot file comes to.
use Rattle.std.proofs.Common.{◌≡◌, sym, subst, ℕ, ◌≤◌, List, length}
use Rattle.std.specs.Prelude.{Option, Result, Ok, Err, IsPermutation}
use Rattle.std.proofs.lemmas.List.Sorted.{IsPermutation-trans, IsPermutation-sym}
use Rattle.candidate_roll.specs.Roll.{RollList}
use Rattle.plain_ballots.specs.Ballots.{plain}
use Rattle.blt_reader.specs.Poll.{Poll}
use Rattle.blt_writer.specs.Text.{IsBltText}
use Rattle.blt_writer.specs.Laws.{TextsAreRead}
use Rattle.piece_text.specs.Writing.{Writes}
use Rattle.tool_edge.specs.declared.end.End.TheVariants.{Done}
use Rattle.tool_edge.specs.Streams.{writing}
use Rattle.tool_edge.specs.Contest.{SaysPoll}
use Rattle.tool_edge.specs.Finishing.{Wrote}
use Rattle.tool_edge.specs.Tool.{IsOwedFor, no_history}
use Rattle.tool_edge.specs.declared.opening.TheConstants.{FILE_LIMIT}
use Rattle.blt_normal.specs.Laws.{TextsStay}
use Rattle.blt_normal.specs.Owed.{normal_tool}

-- The text of some ballots is that of the same ballots in another order.
text_moved :
    (one other : List (List ℕ)) (roll : RollList) (text : List ℕ) → IsPermutation one other
    → IsBltText one roll text → IsBltText other roll text
text_moved one other roll text moved (lines, are, is) = (
  lines,
  record { rising = are.rising; counted = are.counted; same = IsPermutation-trans _ _ _ are.same moved },
  is,
)

-- The text of the plans' ballots is owed for the file.
pub owed_for_file :
    (input : List ℕ) (poll : Poll) (ballots : List (List ℕ)) (roll : RollList) (text : List ℕ) → length input ≤ FILE_LIMIT
    → SaysPoll input poll → IsPermutation ballots (plain poll.lines) → roll ≡ poll.roll → IsBltText ballots roll text
    → IsOwedFor normal_tool (tt {0}) input no_history Done text
owed_for_file input poll ballots roll text short says moved same is = (
  short,
  (
    poll,
    says,
    subst (λ (r : RollList). IsBltText (plain poll.lines) r text) same
        (text_moved ballots (plain poll.lines) roll text moved is),
  ),
)

-- what was written, as a tool's end takes it
pub wrote_text :
    {S T E : Type 0} (w : S → Option (List ℕ)) (f : S → ℕ) (a b : S) (text : List ℕ) (r : Result T E) → Writes w f a b text r
    → Wrote text r (writing w f a b)
wrote_text w f a b text (Ok done) wrote = (wrote.calm, wrote.whole)
wrote_text w f a b text (Err stop) wrote = (wrote.rose, wrote.part)

pub texts_stay : TextsAreRead → TextsStay
texts_stay reads roll ballots text named of (lines, are, is) =
    let says = reads roll ballots text named of (lines, are, is) in (
      says.poll,
      says.file,
      subst (λ (r : RollList). IsBltText (plain says.poll.lines) r text) (sym says.roll_is)
          (text_moved ballots (plain says.poll.lines) roll text (IsPermutation-sym _ _ says.ballots_are) (lines, are, is)),
    )
