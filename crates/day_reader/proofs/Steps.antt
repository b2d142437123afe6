-- What a table makes of the next token, and of a front that an inner table reads.
use Rattle.std.proofs.Common.{◌≡◌, ℕ, ◌<◌, List, [], ◌∷◌, length, refl, ◌∙◌, ap, Ok, Err, arith, length-append}
use Rattle.std.specs.Prelude.{Result, Bool}
use Rattle.input_text.specs.declared.fault_kind.FaultKind.{FaultKind}
use Rattle.input_text.specs.declared.input_fault.InputFault.{InputFault}
use Rattle.input_text.specs.declared.input_stop.InputStop.{InputStop}
use Rattle.input_text.specs.declared.input_stop.InputStop.TheVariants as stop
use Rattle.input_text.specs.Token.{Item, Number, Minus, Text, Word, Placed, Ending, Scan, with_front}
use Rattle.input_text.specs.Reader.{Reader}
use Rattle.input_text.specs.Judged.{Judged, then_on, Progress, GoesOn, Ends, Stopped, carried_to, on_progress}
use Rattle.input_text.specs.Judged.{front_of, reads}
use Rattle.input_text.specs.Reads.{Stops, Accepts, as_number, IsBehind, Reads, tokens_left}
use Rattle.input_text.proofs.Judgements.{accepted, same_kind}
use Rattle.input_text.proofs.Tables.{behind_inner}
use Rattle.input_text.proofs.Reading.{goes_on, ends_with, refused_at, stops}
use Rattle.day_reader.specs.declared.keyword.Keyword.{Keyword}
use Rattle.day_reader.specs.Keyword.{word, as_keyword}
use Rattle.day_reader.specs.CallTable.{as_tested}
use Rattle.day_reader.specs.Reads.{Leads, LeadsOrWants}
use Rattle.day_reader.proofs.Keywords.{reads_word}

-- what is said after this progress
abbrev pub onward : {S V : Type 0} → (S → Item → Judged (Progress S V)) → Progress S V → Scan → Result (V × Scan) Stopped
onward table (GoesOn expected) text = reads table expected text
onward table (Ends value) text = Ok (value, text)

-- ---- the next token

module _ {S V A : Type 0} (table : S → Item → Judged (Progress S V)) (expected : S) (judge : Item → Judged A)
    (f : A → Judged (Progress S V)) (rule : (item : Item) → table expected item ≡ then_on (judge item) f)
    (old new : Scan) where
  read_so :
      (a : A) (next : Progress S V) → Accepts judge old a new → f a ≡ Ok next
      → reads table expected old ≡ onward table next new
  read_so a (GoesOn next) is e =
      goes_on table expected old new is.token next is.given
      (rule is.token.item ∙ ap (λ (j : Judged A). then_on j f) is.accepted ∙ e)
  read_so a (Ends value) is e =
      ends_with table expected old new is.token value is.given
      (rule is.token.item ∙ ap (λ (j : Judged A). then_on j f) is.accepted ∙ e)

  -- it is accepted, and leads on
  pub judged_read :
      (a : A) (next : Progress S V) → Accepts judge old a new → f a ≡ Ok next
      → reads table expected old ≡ onward table next new
  judged_read a next is e = read_so a next is e

  -- it is refused, or there is none
  pub judged_stops :
      (fault : InputFault) → Stops judge old fault new
      → reads table expected old ≡ Err (record { fault = fault; rest = new })
  judged_stops fault is =
      stops table expected old new judge fault
      (λ item kind e. rule item ∙ ap (λ (j : Judged A). then_on j f) e) is

module _ {S V : Type 0} (table : S → Item → Judged (Progress S V)) (expected : S) (f : Keyword → Judged (Progress S V))
    (old new : Scan) (keyword : Keyword) (at : ℕ)
    (rule : table expected (word keyword) ≡ then_on (as_keyword (word keyword)) f)
    (given : old ≡ with_front (record { at = at; item = word keyword }) new) where
  word_judged : table expected (word keyword) ≡ f keyword
  word_judged = rule ∙ ap (λ (j : Judged Keyword). then_on j f) (reads_word keyword)

  pub word_leads : (next : Progress S V) → f keyword ≡ Ok next → reads table expected old ≡ onward table next new
  word_leads (GoesOn next) e = goes_on table expected old new _ next given (word_judged ∙ e)
  word_leads (Ends value) e = ends_with table expected old new _ value given (word_judged ∙ e)

  -- a word that may not stand there
  pub word_refused :
      (kind : FaultKind) → f keyword ≡ Err kind → reads table expected old
      ≡ Err (record { fault = record { kind = kind; at = at }; rest = new })
  word_refused kind e = refused_at table expected old new _ kind given (word_judged ∙ e)

-- ---- a front that an inner table reads, after whose end anything may come

module _ {S V T W : Type 0} (inner : S → Item → Judged (Progress S V))
    (outer : T → Item → Judged (Progress T W)) (inside : S → T) (behind : V → Progress T W)
    (same : (expected : S) (item : Item)
    → outer (inside expected) item ≡ carried_to (λ s. GoesOn (inside s)) behind (inner expected item))
  where
    Onward : V → Scan → Result (W × Scan) Stopped
    Onward value rest = onward outer (behind value) rest

    abbrev ReadsOn : List Placed → Ending → Type 0
    ReadsOn tokens ending =
        (expected : S) → front_of outer (inside expected) tokens ending
        ≡ behind_inner (front_of inner expected tokens ending) (λ value rest. onward outer (behind value) rest)

    progress_is :
        (at : ℕ) (rest : Scan) (next : Progress T W)
        → on_progress at (Ok next) rest (λ n. reads outer n rest) ≡ onward outer next rest
    progress_is at rest (GoesOn next) = refl
    progress_is at rest (Ends value) = refl

    on_token :
        (token : Placed) (tokens : List Placed) (ending : Ending) (judged : Judged (Progress S V)) → ReadsOn tokens ending
        → on_progress token.at (carried_to (λ s. GoesOn (inside s)) behind judged)
        (record { tokens = tokens; ending = ending })
        (λ next. front_of outer next tokens ending)
        ≡ behind_inner (on_progress token.at judged (record { tokens = tokens; ending = ending })
        (λ next. front_of inner next tokens ending)) (λ value rest. onward outer (behind value) rest)
    on_token token tokens ending (Ok (GoesOn next)) rest = rest next
    on_token token tokens ending (Ok (Ends value)) rest =
        progress_is token.at (record { tokens = tokens; ending = ending }) (behind value)
    on_token token tokens ending (Err kind) rest = refl

    reads_on : (tokens : List Placed) (ending : Ending) → ReadsOn tokens ending
    unfolding front_of
    reads_on [] ending expected = refl
    reads_on (token ∷ tokens) ending expected =
        ap (λ (j : Judged (Progress T W)). on_progress token.at j (record { tokens = tokens; ending = ending })
        (λ next. front_of outer next tokens ending)) (same expected token.item)
        ∙ on_token token tokens ending (inner expected token.item) (reads_on tokens ending)

    pub within :
        (expected : S) (text : Scan) → reads outer (inside expected) text
        ≡ behind_inner (reads inner expected text) (λ value rest. onward outer (behind value) rest)
    within expected text = reads_on text.tokens text.ending expected

    module _ (expected : S) (old new : Scan) where
      pub within_read :
          (value : V) → reads inner expected old ≡ Ok (value, new)
          → reads outer (inside expected) old ≡ onward outer (behind value) new
      within_read value e =
          within expected old
          ∙ ap (λ (r : Result (V × Scan) Stopped). behind_inner r
          (λ value rest. onward outer (behind value) rest)) e

      pub within_stops :
          (fault : InputFault) → reads inner expected old ≡ Err (record { fault = fault; rest = new })
          → reads outer (inside expected) old ≡ Err (record { fault = fault; rest = new })
      within_stops fault e =
          within expected old
          ∙ ap (λ (r : Result (V × Scan) Stopped). behind_inner r
          (λ value rest. onward outer (behind value) rest)) e

      -- where the inner table fails, what led there fails
      pub within_fails :
          {R Q : Type 0} (found : R → V) (value : Q → W) (begun : T) (start : Scan) (why : InputStop)
          → reads outer begun start ≡ reads outer (inside expected) old → Reads inner expected found old (Err why) new
          → Reads outer begun value start (Err why) new
      within_fails found value begun start (stop.Fault fault) so_far is = so_far ∙ within_stops fault is
      within_fails found value begun start stop.NoMemory so_far is = tt

-- ---- failures

module _ {V : Type 0} (whole part : Result (V × Scan) Stopped) (same : whole ≡ part) where
  -- what led to a text that fails, fails
  pub leads_fail :
      {A B : Type 0} (why : InputStop) (to : A → Result (V × Scan) Stopped)
      (onto : B → Result (V × Scan) Stopped) (rest : Scan)
      → LeadsOrWants part (Err why) to rest → LeadsOrWants whole (Err why) onto rest
  leads_fail (stop.Fault fault) to onto rest is = same ∙ is
  leads_fail stop.NoMemory to onto rest is = tt

-- ---- numbers

-- what is no number is refused as such by every test
pub no_number :
    (test : ℕ → Bool) (refusal : FaultKind) (item : Item) (kind : FaultKind) → as_number item ≡ Err kind
    → as_tested test refusal item ≡ Err kind
no_number test refusal (Number n) kind e = absurd (accepted e)
no_number test refusal (Minus n) kind e = ap Err (same_kind e)
no_number test refusal (Text bytes) kind e = ap Err (same_kind e)
no_number test refusal (Word letters) kind e = ap Err (same_kind e)

-- what leads to a text that leads on, leads on
pub leads :
    {A V : Type 0} {whole part : Result (V × Scan) Stopped} → whole ≡ part
    → (onward : A → Result (V × Scan) Stopped) (rest : Scan) (result : Result A InputFault) → Leads part result onward rest
    → Leads whole result onward rest
leads same onward rest (Ok found) is = same ∙ is
leads same onward rest (Err fault) is = same ∙ is

-- after a token that was given fewer are left
pub fewer_left :
    (old mid new : Reader) (token : Placed) → old.rest ≡ with_front token mid.rest → IsBehind mid new
    → tokens_left new < tokens_left old
fewer_left old mid new token given behind =
    omega (
      arith,
      ap (λ (s : Scan). length s.tokens) given,
      ap (λ (l : List Placed). length l) behind.tokens,
      length-append behind.given new.rest.tokens,
    )
