-- States of the table of day files in which every token is judged in one way, and what is said of a text from there.
use Rattle.std.proofs.Common.{◌≡◌, ℕ, Ok, Err, ◌∙◌, ap}
use Rattle.input_text.specs.declared.fault_kind.FaultKind.{FaultKind}
use Rattle.input_text.specs.declared.input_fault.InputFault.{InputFault}
use Rattle.input_text.specs.Token.{Item, Scan, with_front}
use Rattle.input_text.specs.Judged.{Judged, then_on, Progress, reads}
use Rattle.input_text.specs.Reads.{Stops, Accepts}
use Rattle.input_text.proofs.Reading.{refused_at}
use Rattle.day_reader.specs.declared.keyword.Keyword.{Keyword}
use Rattle.day_reader.specs.declared.day.Day.{Day}
use Rattle.day_reader.specs.Keyword.{word, as_keyword}
use Rattle.day_reader.specs.DayTable.{Expected, at_token}
use Rattle.day_reader.proofs.Keywords.{reads_word}
use Rattle.day_reader.proofs.Steps.{onward, judged_read, judged_stops}

-- What is expected, how the next token is judged there, and what one that is accepted leads to.
pub record State (A : Type 0) : Type 0 where
  pub expected : Expected
  pub judge : Item → Judged A
  pub leads : A → Judged (Progress Expected Day)
  pub rule : (item : Item) → at_token expected item ≡ then_on (judge item) leads

module _ {A : Type 0} (state : State A) {old new : Scan} where
  -- no token is there that the state accepts: the text is refused there
  pub stops_at :
      {fault : InputFault} → Stops state.judge old fault new
      → reads at_token state.expected old ≡ Err (record { fault = fault; rest = new })
  stops_at {fault} is = judged_stops at_token state.expected state.judge state.leads state.rule old new fault is

  -- the next token is accepted, and leads on
  pub read_at :
      {a : A} {next : Progress Expected Day} → Accepts state.judge old a new → state.leads a ≡ Ok next
      → reads at_token state.expected old ≡ onward at_token next new
  read_at {a} {next} is on =
      judged_read at_token state.expected state.judge state.leads state.rule old new a next is on

  -- the next token is one of its kind, and may not stand there
  pub out_of_place :
      {a : A} {kind : FaultKind} (is : Accepts state.judge old a new) → state.leads a ≡ Err kind
      → reads at_token state.expected old
      ≡ Err (record { fault = record { kind = kind; at = is.token.at }; rest = new })
  out_of_place {a} {kind} is refuses =
      refused_at at_token state.expected old new is.token kind is.given
      (state.rule is.token.item ∙ ap (λ (j : Judged A). then_on j state.leads) is.accepted ∙ refuses)

-- a word that is in a text is accepted as that word
abbrev pub is_word :
    {old new : Scan} {at : ℕ} (keyword : Keyword) → old ≡ with_front (record { at = at; item = word keyword }) new
    → Accepts as_keyword old keyword new
is_word {old} {new} {at} keyword given = record {
  token = record { at = at; item = word keyword };
  given = given;
  accepted = reads_word keyword;
}
