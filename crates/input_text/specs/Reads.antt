-- What reading functions give, and how they leave a reader.
use Rattle.std.specs.Prelude.{◌≡◌, ℕ, List, [], ◌++◌, length, Result, Ok, Err, ◌⊎◌}
use Rattle.input_text.specs.declared.fault_kind.FaultKind.TheVariants.{BadNumber}
use Rattle.input_text.specs.declared.input_fault.InputFault.{InputFault}
use Rattle.input_text.specs.declared.input_stop.InputStop.{InputStop}
use Rattle.input_text.specs.declared.input_stop.InputStop.TheVariants as stop
use Rattle.input_text.specs.Token.{Item, Number, Placed, Scan, with_front}
use Rattle.input_text.specs.Reader.{Reader}
use Rattle.input_text.specs.Judged.{Judged, ended_by, Progress, reads}

-- A reader of the same bytes, after tokens that it has given.
pub record IsBehind (old new : Reader) : Type 0 where
  pub bytes : new.bytes ≡ old.bytes
  pub given : List Placed
  pub tokens : old.rest.tokens ≡ given ++ new.rest.tokens
  pub ending : old.rest.ending ≡ new.rest.ending

-- the tokens that are still to come
abbrev pub tokens_left : Reader → ℕ
tokens_left reader = length reader.rest.tokens

-- ---- one token

-- The text has ended, and stays.
pub record IsEnded (old : Scan) (fault : InputFault) (new : Scan) : Type 0 where
  pub none_left : old.tokens ≡ []
  pub fault_is : fault ≡ ended_by old.ending
  pub same : new ≡ old

-- The next token is refused, and given.
pub record IsRefusedNext {A : Type 0} (judge : Item → Judged A) (old : Scan) (fault : InputFault) (new : Scan) : Type 0 where
  pub token : Placed
  pub given : old ≡ with_front token new
  pub kind : judge token.item ≡ Err fault.kind
  pub place : token.at ≡ fault.at

-- No token is there that this judgement accepts.
abbrev pub Stops : {A : Type 0} → (Item → Judged A) → Scan → InputFault → Scan → Type 0
Stops judge old fault new = IsEnded old fault new ⊎ IsRefusedNext judge old fault new

-- The next token is accepted as this value, and given.
pub record Accepts {A : Type 0} (judge : Item → Judged A) (old : Scan) (value : A) (new : Scan) : Type 0 where
  pub token : Placed
  pub given : old ≡ with_front token new
  pub accepted : judge token.item ≡ Ok value

abbrev pub as_number : Item → Judged ℕ
as_number (Number n) = Ok n
as_number item = Err BadNumber

-- what a refusal says; want of memory says nothing
abbrev pub OnFault : InputStop → (InputFault → Type 0) → Type 0
OnFault (stop.Fault fault) P = P fault
OnFault stop.NoMemory P = Unit {0}

abbrev pub IfFault : {R : Type 0} → Result R InputStop → (InputFault → Type 0) → Type 0
IfFault (Ok found) P = Unit {0}
IfFault (Err why) P = OnFault why P

-- ---- the front of a text

-- The table reads the front of the text as this, or refuses it. Where memory is wanted nothing is said of the front.
abbrev pub Reads : {S V R : Type 0} → (S → Item → Judged (Progress S V)) → S → (R → V) → Scan → Result R InputStop → Scan → Type 0
Reads table expected value old (Ok found) new = reads table expected old ≡ Ok (value found, new)
Reads table expected value old (Err (stop.Fault fault)) new = reads table expected old ≡ Err (record { fault = fault; rest = new })
Reads table expected value old (Err stop.NoMemory) new = Unit {0}
