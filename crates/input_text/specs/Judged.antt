-- What a table makes of tokens. A table says what an item leads to where something is expected.
use Rattle.std.specs.Prelude.{ℕ, List, [], ◌∷◌, Option, Some, None, Result, Ok, Err}
use Rattle.input_text.specs.declared.fault_kind.FaultKind.{FaultKind}
use Rattle.input_text.specs.declared.fault_kind.FaultKind.TheVariants.{Ended, Trailing}
use Rattle.input_text.specs.declared.input_fault.InputFault.{InputFault}
use Rattle.input_text.specs.Token.{Item, Placed, Ending, AtEnd, AtFault, Scan, ends}

-- an item is accepted, or refused for a reason
abbrev pub Judged : Type 0 → Type 0
Judged A = Result A FaultKind

-- where this is what the table says, go on
abbrev pub then_on : {A B : Type 0} → Judged A → (A → Judged B) → Judged B
then_on (Ok a) next = next a
then_on (Err kind) next = Err kind

-- what is expected after these items, or why the first that is refused is refused
abbrev pub after : {S : Type 0} → (S → Item → Judged S) → S → List Item → Judged S
after table expected [] = Ok expected
after table expected (item ∷ items) = then_on (table expected item) (λ next. after table next items)

-- ---- a text

-- where an item at this place is accepted, go on
abbrev pub at_place : {A B : Type 0} → ℕ → Judged A → (A → Result B InputFault) → Result B InputFault
at_place at (Ok a) next = next a
at_place at (Err kind) next = Err (record { kind = kind; at = at })

-- the refusal of a text that ends where something is expected
abbrev pub ended_by : Ending → InputFault
ended_by (AtEnd at) = record { kind = Ended; at = at }
ended_by (AtFault fault) = fault

-- what a text says that ends where this is what was read
abbrev pub at_ending : {V : Type 0} → Option V → Ending → Result V InputFault
at_ending (Some value) (AtEnd at) = Ok value
at_ending value ending = Err (ended_by ending)

-- The first token that is refused decides, then the fault that ends the text, then whether all was read.
abbrev pub outcome : {S V : Type 0} → (S → Item → Judged S) → (S → Option V) → S → List Placed → Ending → Result V InputFault
outcome table whole expected [] ending = at_ending (whole expected) ending
outcome table whole expected (token ∷ tokens) ending = at_place token.at (table expected token.item) (λ next. outcome table whole next tokens ending)

-- ---- the front of a text

-- Reading goes on, or ends with a value.
pub data Progress (S V : Type 0) : Type 0 where
  GoesOn : (expected : S) → Progress S V
  Ends : (value : V) → Progress S V

-- the value, where reading has ended
abbrev pub ended : {S V : Type 0} → Progress S V → Option V
ended (Ends value) = Some value
ended (GoesOn expected) = None

-- A table within another: it goes on there at a place of the other, and after its end the other goes on.
abbrev pub carried : {S V T W : Type 0} → (S → T) → (V → T) → Judged (Progress S V) → Judged (Progress T W)
carried inside behind (Ok (GoesOn expected)) = Ok (GoesOn (inside expected))
carried inside behind (Ok (Ends value)) = Ok (GoesOn (behind value))
carried inside behind (Err kind) = Err kind

-- The same, where the table's progress has any meaning in the other one.
abbrev pub carried_to : {S V T : Type 0} → (S → T) → (V → T) → Judged (Progress S V) → Judged T
carried_to inside behind (Ok (GoesOn next)) = Ok (inside next)
carried_to inside behind (Ok (Ends value)) = Ok (behind value)
carried_to inside behind (Err kind) = Err kind

-- a refusal, and the text after the last token that was formed
pub record Stopped : Type 0 where
  pub fault : InputFault
  pub rest : Scan

abbrev pub on_progress : {S V : Type 0} → ℕ → Judged (Progress S V) → Scan → (S → Result (V × Scan) Stopped) → Result (V × Scan) Stopped
on_progress at (Ok (GoesOn expected)) rest next = next expected
on_progress at (Ok (Ends value)) rest next = Ok (value, rest)
on_progress at (Err kind) rest next = Err (record { fault = record { kind = kind; at = at }; rest = rest })

-- the value that the front of a text says, with the text after it; or the first refusal
unfoldable pub front_of : {S V : Type 0} → (S → Item → Judged (Progress S V)) → S → List Placed → Ending → Result (V × Scan) Stopped
front_of table expected [] ending = Err (record { fault = ended_by ending; rest = ends ending })
front_of table expected (token ∷ tokens) ending = on_progress token.at (table expected token.item) (record { tokens = tokens; ending = ending }) (λ next. front_of table next tokens ending)

abbrev pub reads : {S V : Type 0} → (S → Item → Judged (Progress S V)) → S → Scan → Result (V × Scan) Stopped
reads table expected text = front_of table expected text.tokens text.ending

-- The table with another after its end.
abbrev pub going_on : {S V : Type 0} → (S → Item → Judged (Progress S V)) → (V → Item → Judged (Progress S V)) → Progress S V → Item → Judged (Progress S V)
going_on table behind (GoesOn expected) item = table expected item
going_on table behind (Ends value) item = behind value item

-- The table with nothing after its end.
abbrev pub closed : {S V : Type 0} → (S → Item → Judged (Progress S V)) → Progress S V → Item → Judged (Progress S V)
closed table = going_on table (λ value item. Err Trailing)
