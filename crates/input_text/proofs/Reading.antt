-- One token more: what a table makes of it, and where the reader then stands.
use Rattle.std.proofs.Common.{◌≡◌, ℕ, ◌<◌, List, [], ◌∷◌, ◌++◌, length, refl, sym, ◌∙◌, ap, arith, inl, inr}
use Rattle.std.proofs.Common.{append_assoc, Ok, Err}
use Rattle.std.specs.Prelude.{Result}
use Rattle.input_text.specs.declared.fault_kind.FaultKind.{FaultKind}
use Rattle.input_text.specs.declared.input_fault.InputFault.{InputFault}
use Rattle.input_text.specs.declared.input_stop.InputStop.{InputStop}
use Rattle.input_text.specs.declared.input_stop.InputStop.TheVariants as stop
use Rattle.input_text.specs.Token.{Item, Placed, Scan, with_front, ends}
use Rattle.input_text.specs.declared.next.Next.{Next}
use Rattle.input_text.specs.declared.next.Next.TheVariants as next
use Rattle.input_text.specs.Reader.{Reader, placed, Gives}
use Rattle.input_text.specs.Judged.{Judged, Progress, GoesOn, Ends, Stopped, on_progress, front_of, carried, reads}
use Rattle.input_text.specs.Reads.{IsBehind, IsEnded, Stops, Reads}
use Rattle.input_text.proofs.Tables.{behind_inner, reads_inner}

-- ---- where the reader stands

pub behind_one :
    (old new : Reader) (token : Placed) → new.bytes ≡ old.bytes → old.rest ≡ with_front token new.rest → IsBehind old new
behind_one old new token bytes given = record {
  bytes = bytes;
  given = token ∷ [];
  tokens = ap (λ (s : Scan). s.tokens) given;
  ending = ap (λ (s : Scan). s.ending) given;
}

behind_same :
    (bytes : List ℕ) (old new : Scan) → new ≡ old
    → IsBehind (record { bytes = bytes; rest = old }) (record { bytes = bytes; rest = new })
behind_same bytes old new same = record {
  bytes = refl;
  given = [];
  tokens = ap (λ (s : Scan). s.tokens) (sym same);
  ending = ap (λ (s : Scan). s.ending) (sym same);
}

-- whatever was given, an end and a fault among it
pub behind_next :
    (bytes : List ℕ) (old new : Scan) (answer : Next) → Gives bytes old answer new
    → IsBehind (record { bytes = bytes; rest = old }) (record { bytes = bytes; rest = new })
behind_next bytes old new (next.Token token) gives =
    behind_one (record { bytes = bytes; rest = old }) (record { bytes = bytes; rest = new }) (placed bytes token) refl gives
behind_next bytes old new next.End gives = behind_same bytes old new gives.1
behind_next bytes old new (next.Fault fault) gives = behind_same bytes old new gives.1

pub behind_trans : {a b c : Reader} → IsBehind a b → IsBehind b c → IsBehind a c
behind_trans {a} {b} {c} one two = record {
  bytes = two.bytes ∙ one.bytes;
  given = one.given ++ two.given;
  tokens =
      one.tokens ∙ ap (λ (l : List Placed). one.given ++ l) two.tokens
      ∙ sym (append_assoc one.given two.given c.rest.tokens);
  ending = one.ending ∙ two.ending;
}

pub behind_itself : (reader : Reader) → IsBehind reader reader
behind_itself reader = record { bytes = refl; given = []; tokens = refl; ending = refl }

pub fewer_left : (old new : Scan) (token : Placed) → old ≡ with_front token new → length new.tokens < length old.tokens
fewer_left old new token given = omega (arith, ap (λ (s : Scan). length s.tokens) given)

-- ---- what a table makes of the next token

module _ {S V : Type 0} (table : S → Item → Judged (Progress S V)) (expected : S) (old new : Scan) where
  abbrev Made : Placed → Judged (Progress S V) → Result (V × Scan) Stopped
  Made token judged = on_progress token.at judged new (λ next. reads table next new)

  taken :
      (token : Placed) (judged : Judged (Progress S V)) → old ≡ with_front token new → table expected token.item ≡ judged
      → reads table expected old ≡ Made token judged
  unfolding front_of
  taken token judged given is = ap (λ (s : Scan). reads table expected s) given ∙ ap (Made token) is

  pub goes_on :
      (token : Placed) (next : S) → old ≡ with_front token new → table expected token.item ≡ Ok (GoesOn next)
      → reads table expected old ≡ reads table next new
  goes_on token next given is = taken token (Ok (GoesOn next)) given is

  pub ends_with :
      (token : Placed) (value : V) → old ≡ with_front token new → table expected token.item ≡ Ok (Ends value)
      → reads table expected old ≡ Ok (value, new)
  ends_with token value given is = taken token (Ok (Ends value)) given is

  pub refused_at :
      (token : Placed) (kind : FaultKind) → old ≡ with_front token new → table expected token.item ≡ Err kind
      → reads table expected old ≡ Err (record { fault = record { kind = kind; at = token.at }; rest = new })
  refused_at token kind given is = taken token (Err kind) given is

  pub ended_so :
      (fault : InputFault) → IsEnded old fault new → reads table expected old ≡ Err (record { fault = fault; rest = new })
  unfolding front_of
  ended_so fault is =
      let whole : old ≡ ends old.ending =
      ap (λ (l : List Placed). record { tokens = l; ending = old.ending }) is.none_left in
      ap (λ (s : Scan). reads table expected s) whole
      ∙ ap (λ (f : InputFault). Err (record { fault = f; rest = ends old.ending })) (sym is.fault_is)
      ∙ ap (λ (s : Scan). Err (record { fault = fault; rest = s })) (sym (is.same ∙ whole))

  -- a token that this judgement refuses, as the table does, or none
  pub stops :
      {A : Type 0} (judge : Item → Judged A) (fault : InputFault)
      → ((item : Item) (kind : FaultKind) → judge item ≡ Err kind → table expected item ≡ Err kind)
      → Stops judge old fault new
      → reads table expected old ≡ Err (record { fault = fault; rest = new })
  stops judge fault alike (inl is) = ended_so fault is
  stops judge fault alike (inr is) =
      refused_at is.token fault.kind is.given (alike is.token.item fault.kind is.kind)
      ∙ ap (λ (at : ℕ). Err (record { fault = record { kind = fault.kind; at = at }; rest = new })) is.place

-- ---- what a table makes of a front that an inner table reads

module _ {S V T W : Type 0} (inner : S → Item → Judged (Progress S V))
    (outer : T → Item → Judged (Progress T W)) (inside : S → T) (behind : V → T)
    (same : (expected : S) (item : Item)
    → outer (inside expected) item ≡ carried {W = W} inside behind (inner expected item)) (expected : S)
    (old : Scan) where
  in_two :
      reads outer (inside expected) old
      ≡ behind_inner (reads inner expected old) (λ value rest. reads outer (behind value) rest)
  in_two = reads_inner inner outer inside behind same old.tokens old.ending expected

  pub inner_read :
      (value : V) (new : Scan) → reads inner expected old ≡ Ok (value, new)
      → reads outer (inside expected) old ≡ reads outer (behind value) new
  inner_read value new e =
      in_two
      ∙ ap (λ (r : Result (V × Scan) Stopped). behind_inner r (λ value rest. reads outer (behind value) rest))
      e

  pub inner_stopped :
      (stopped : Stopped) → reads inner expected old ≡ Err stopped → reads outer (inside expected) old ≡ Err stopped
  inner_stopped stopped e =
      in_two
      ∙ ap (λ (r : Result (V × Scan) Stopped). behind_inner r (λ value rest. reads outer (behind value) rest))
      e

  pub inner_fails :
      {R Q : Type 0} (found : R → V) (value : Q → W) (begun : T) (start new : Scan) (why : InputStop)
      → reads outer begun start ≡ reads outer (inside expected) old → Reads inner expected found old (Err why) new
      → Reads outer begun value start (Err why) new
  inner_fails found value begun start new (stop.Fault fault) so_far is =
      so_far ∙ inner_stopped (record { fault = fault; rest = new }) is
  inner_fails found value begun start new stop.NoMemory so_far is = tt
