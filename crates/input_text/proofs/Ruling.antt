-- A table that follows files refuses by the rule, and accepts the files.
use Rattle.std.proofs.Common.{◌≡◌, ℕ, List, [], ◌∷◌, ◌++◌, refl, sym, ◌∙◌, ap, subst, inl, inr, append_assoc, Ok, Err}
use Rattle.std.specs.Prelude.{Result, is_ok, IsOk, Option, Some, None, ◌↔◌}
use Rattle.std.proofs.lemmas.Bool.{false≢true}
use Rattle.std.proofs.lemmas.List.{append-nil, map-append}
use Rattle.input_text.specs.declared.fault_kind.FaultKind.{FaultKind}
use Rattle.input_text.specs.declared.fault_kind.FaultKind.TheVariants.{Ended}
use Rattle.input_text.specs.declared.input_fault.InputFault.{InputFault}
use Rattle.input_text.specs.Token.{Item, Placed, Ending, AtEnd, AtFault, Scan}
use Rattle.input_text.specs.Judged.{Judged, then_on, after, at_place, at_ending, outcome}
use Rattle.input_text.specs.Refusal.{items_of, IsOpen, IsAccepted, ByToken, ByLength, IsRefusal}
use Rattle.input_text.proofs.Judgements.{refused, accepted, same_value, same_kind, none_not}
use Rattle.input_text.proofs.Tables.{in_parts}
use Rattle.input_text.proofs.Following.{Follows, front_expected, open_read, Reached, still_open, file_value}

module _ {S V : Type 0} {table : S → Item → Judged S} {whole : S → Option V} {start : S} {IsFile : List Item → V → Type 0}
    {IsFront : S → List Item → Type 0} (follows : Follows table whole start IsFile IsFront) where
  -- ---- refusals

  abbrev Refusal : Scan → InputFault → Type 0
  Refusal = IsRefusal IsFile table start

  further :
      (front : List Placed) (expected next : S) (token : Placed) → Reached follows front expected
      → table expected token.item ≡ Ok next
      → Reached follows (front ++ token ∷ []) next
  further front expected next token reached judged =
      ap (λ (l : List Item). after table start l) (map-append (λ (t : Placed). t.item) front (token ∷ []))
      ∙ in_parts table start expected (items_of front) (token.item ∷ []) reached
      ∙ ap (λ (j : Judged S). then_on j (λ next. Ok next)) judged

  no_further :
      (front : List Item) (expected : S) (item : Item) (kind : FaultKind) → after table start front ≡ Ok expected
      → table expected item ≡ Err kind → IsOpen IsFile (front ++ item ∷ []) → ⊥
  no_further front expected item kind reached judged goes =
      false≢true (sym (ap is_ok
      (in_parts table start expected front (item ∷ []) reached ∙ ap (λ (j : Judged S). then_on j (λ next. Ok next)) judged))
      ∙ open_read follows (front ++ item ∷ []) goes)

  at_the_end :
      (front : List Placed) (expected : S) (ending : Ending) (fault : InputFault) (value : Option V) → Reached follows front expected
      → whole expected ≡ value → at_ending value ending ≡ Err fault
      → Refusal (record { tokens = front; ending = ending }) fault
  at_the_end front expected (AtFault found) fault None reached is e =
      inr (inl (record { open_before = still_open follows front expected reached; ending = ap AtFault (same_kind e) }))
  at_the_end front expected (AtFault found) fault (Some value) reached is e =
      inr (inl (record { open_before = still_open follows front expected reached; ending = ap AtFault (same_kind e) }))
  at_the_end front expected (AtEnd at) fault None reached is e = inr (inr (record {
    open_before = still_open follows front expected reached;
    at = at;
    ending = refl;
    no_file = λ value file. none_not (sym is ∙ file_value follows (items_of front) expected value reached file);
    fault_is = sym (same_kind e);
  }))
  at_the_end front expected (AtEnd at) fault (Some value) reached is e = absurd (accepted e)

  behind_token :
      (front : List Placed) (expected : S) (token : Placed) (tokens : List Placed) (ending : Ending) (fault : InputFault)
      (judged : Judged S) → Reached follows front expected → table expected token.item ≡ judged
      → at_place token.at judged (λ next. outcome table whole next tokens ending) ≡ Err fault
      → ((next : S) → Reached follows (front ++ token ∷ []) next → outcome table whole next tokens ending ≡ Err fault
      → Refusal (record { tokens = (front ++ token ∷ []) ++ tokens; ending = ending }) fault)
      → Refusal (record { tokens = front ++ token ∷ tokens; ending = ending }) fault
  behind_token front expected token tokens ending fault (Err kind) reached judged e rest =
      let is = same_kind e in
      inl (record {
        front = front;
        token = token;
        behind = tokens;
        split = refl;
        open_before = still_open follows front expected reached;
        not_open = no_further (items_of front) expected token.item kind reached judged;
        expected = expected;
        is_expected = reached;
        kind = judged ∙ ap (λ (f : InputFault). Err f.kind) is;
        place = ap (λ (f : InputFault). f.at) (sym is);
      })
  behind_token front expected token tokens ending fault (Ok next) reached judged e rest =
      subst (λ (l : List Placed). Refusal (record { tokens = l; ending = ending }) fault)
      (append_assoc front (token ∷ []) tokens)
      (rest next (further front expected next token reached judged) e)

  refuses_behind :
      (tokens front : List Placed) (expected : S) (ending : Ending) (fault : InputFault) → Reached follows front expected
      → outcome table whole expected tokens ending ≡ Err fault
      → Refusal (record { tokens = front ++ tokens; ending = ending }) fault
  refuses_behind [] front expected ending fault reached e =
      subst (λ (l : List Placed). Refusal (record { tokens = l; ending = ending }) fault) (sym (append-nil front))
      (at_the_end front expected ending fault (whole expected) reached refl e)
  refuses_behind (token ∷ tokens) front expected ending fault reached e =
      behind_token front expected token tokens ending fault (table expected token.item) reached refl e
      (λ next on then. refuses_behind tokens (front ++ token ∷ []) next ending fault on then)

  refuses :
      (text : Scan) (fault : InputFault) → outcome table whole start text.tokens text.ending ≡ Err fault → Refusal text fault
  refuses text fault e = refuses_behind text.tokens [] start text.ending fault refl e

  on_front :
      (token : Placed) (front tokens : List Placed) (ending : Ending) (last : S) (judged : Judged S)
      → then_on judged (λ next. after table next (items_of front)) ≡ Ok last
      → ((next : S) → after table next (items_of front) ≡ Ok last
      → outcome table whole next (front ++ tokens) ending ≡ outcome table whole last tokens ending)
      → at_place token.at judged (λ next. outcome table whole next (front ++ tokens) ending)
      ≡ outcome table whole last tokens ending
  on_front token front tokens ending last (Err kind) e rest = absurd (refused e)
  on_front token front tokens ending last (Ok next) e rest = rest next e

  -- after a front that is accepted the text goes on
  outcome_behind :
      (front tokens : List Placed) (ending : Ending) (expected last : S) → after table expected (items_of front) ≡ Ok last
      → outcome table whole expected (front ++ tokens) ending ≡ outcome table whole last tokens ending
  outcome_behind [] tokens ending expected last e = ap (λ (s : S). outcome table whole s tokens ending) (same_value e)
  outcome_behind (token ∷ front) tokens ending expected last e =
      on_front token front tokens ending last (table expected token.item) e
      (λ next on. outcome_behind front tokens ending next last on)

  outcome_at_end :
      (tokens : List Placed) (ending : Ending) (last : S) → Reached follows tokens last
      → outcome table whole start tokens ending ≡ at_ending (whole last) ending
  outcome_at_end tokens ending last reached =
      ap (λ (l : List Placed). outcome table whole start l ending) (sym (append-nil tokens))
      ∙ outcome_behind tokens [] ending start last reached

  at_a_fault : (value : Option V) (fault : InputFault) → at_ending value (AtFault fault) ≡ Err fault
  at_a_fault None fault = refl
  at_a_fault (Some value) fault = refl

  by_token :
      (text : Scan) (fault : InputFault) → ByToken IsFile table start text fault
      → outcome table whole start text.tokens text.ending ≡ Err fault
  by_token text fault r =
      ap (λ (l : List Placed). outcome table whole start l text.ending) r.split
      ∙ outcome_behind r.front (r.token ∷ r.behind) text.ending start r.expected r.is_expected
      ∙ ap (λ (j : Judged S). at_place r.token.at j (λ next. outcome table whole next r.behind text.ending)) r.kind
      ∙ ap (λ (at : ℕ). Err (record { kind = fault.kind; at = at })) (sym r.place)

  by_ending :
      (text : Scan) (fault : InputFault) (judged : Judged S)
      → after table start (items_of text.tokens) ≡ judged → IsOk judged
      → text.ending ≡ AtFault fault → outcome table whole start text.tokens text.ending ≡ Err fault
  by_ending text fault (Err kind) is ok ending = absurd (false≢true ok)
  by_ending text fault (Ok last) is ok ending =
      outcome_at_end text.tokens text.ending last is ∙ ap (at_ending (whole last)) ending ∙ at_a_fault (whole last) fault

  not_whole :
      (items : List Item) (last : S) (value : Option V) (at : ℕ) → after table start items ≡ Ok last → whole last ≡ value
      → ((v : V) → IsFile items v → ⊥) → at_ending (whole last) (AtEnd at) ≡ Err (record { kind = Ended; at = at })
  not_whole items last (Some value) at reached is none =
      absurd (none value (follows.ends_file last value items (front_expected follows items last reached) is))
  not_whole items last None at reached is none = ap (λ (v : Option V). at_ending v (AtEnd at)) is

  by_length :
      (text : Scan) (fault : InputFault) (judged : Judged S)
      → after table start (items_of text.tokens) ≡ judged → IsOk judged
      → ByLength IsFile table start text fault → outcome table whole start text.tokens text.ending ≡ Err fault
  by_length text fault (Err kind) is ok r = absurd (false≢true ok)
  by_length text fault (Ok last) is ok r =
      outcome_at_end text.tokens text.ending last is
      ∙ ap (at_ending (whole last)) r.ending
      ∙ not_whole (items_of text.tokens) last (whole last) r.at is refl r.no_file
      ∙ ap Err (sym r.fault_is)

  refused_so :
      (text : Scan) (fault : InputFault) → Refusal text fault → outcome table whole start text.tokens text.ending ≡ Err fault
  refused_so text fault (inl r) = by_token text fault r
  refused_so text fault (inr (inl r)) =
      by_ending text fault (after table start (items_of text.tokens)) refl
      (open_read follows (items_of text.tokens) r.open_before) r.ending
  refused_so text fault (inr (inr r)) =
      by_length text fault (after table start (items_of text.tokens)) refl
      (open_read follows (items_of text.tokens) r.open_before) r

  -- A text is refused exactly by the rule.
  pub refuses_by_rule :
      (text : Scan) (fault : InputFault) → (outcome table whole start text.tokens text.ending ≡ Err fault)
      ↔ Refusal text fault
  refuses_by_rule text fault = (refuses text fault, refused_so text fault)

  -- ---- accepted texts

  ends_well :
      (value : Option V) (ending : Ending) (v : V) → at_ending value ending ≡ Ok v
      → (value ≡ Some v) × ((at : ℕ) × (ending ≡ AtEnd at))
  ends_well (Some value) (AtEnd at) v e = (ap Some (same_value e), (at, refl))
  ends_well (Some value) (AtFault fault) v e = absurd (refused e)
  ends_well None (AtEnd at) v e = absurd (refused e)
  ends_well None (AtFault fault) v e = absurd (refused e)

  abbrev ReadsWhole : S → List Placed → Ending → V → Type 0
  ReadsWhole expected tokens ending value =
      (last : S) × (after table expected (items_of tokens) ≡ Ok last) × (whole last ≡ Some value)
      × ((at : ℕ) × (ending ≡ AtEnd at))

  on_token :
      (token : Placed) (tokens : List Placed) (ending : Ending) (value : V) (judged : Judged S)
      → at_place token.at judged (λ next. outcome table whole next tokens ending) ≡ Ok value
      → ((next : S) → outcome table whole next tokens ending ≡ Ok value → ReadsWhole next tokens ending value)
      → (last : S) × (then_on judged (λ next. after table next (items_of tokens)) ≡ Ok last)
      × (whole last ≡ Some value) × ((at : ℕ) × (ending ≡ AtEnd at))
  on_token token tokens ending value (Err kind) e rest = absurd (refused e)
  on_token token tokens ending value (Ok next) e rest = rest next e

  read_whole :
      (tokens : List Placed) (expected : S) (ending : Ending) (value : V)
      → outcome table whole expected tokens ending ≡ Ok value
      → ReadsWhole expected tokens ending value
  read_whole [] expected ending value e =
      let end = ends_well (whole expected) ending value e in (expected, refl, end.0, end.1)
  read_whole (token ∷ tokens) expected ending value e =
      on_token token tokens ending value (table expected token.item) e (λ next on. read_whole tokens next ending value on)

  says :
      (text : Scan) (value : V) → outcome table whole start text.tokens text.ending ≡ Ok value → IsAccepted IsFile text value
  says text value e =
      let read = read_whole text.tokens start text.ending value e in
      record {
        at = read.3.0;
        ending = read.3.1;
        file = follows.ends_file read.0 value (items_of text.tokens)
            (front_expected follows (items_of text.tokens) read.0 read.1) read.2;
      }

  said :
      (text : Scan) (value : V) → IsAccepted IsFile text value → outcome table whole start text.tokens text.ending ≡ Ok value
  said text value is =
      let read = follows.reads_file (items_of text.tokens) value is.file in
      outcome_at_end text.tokens text.ending read.0 read.1
      ∙ ap (at_ending (whole read.0)) is.ending
      ∙ ap (λ (v : Option V). at_ending v (AtEnd is.at)) read.2

  -- A text says a value exactly where its tokens are a file of it.
  pub accepts :
      (text : Scan) (value : V) → (outcome table whole start text.tokens text.ending ≡ Ok value)
      ↔ IsAccepted IsFile text value
  accepts text value = (says text value, said text value)

  decided :
      (text : Scan) (read : Result V InputFault) → outcome table whole start text.tokens text.ending ≡ read
      → ((fault : InputFault) → Refusal text fault → ⊥) → (value : V) × IsAccepted IsFile text value
  decided text (Ok value) is none = (value, says text value is)
  decided text (Err fault) is none = absurd (none fault (refuses text fault is))

  -- There is no refusal exactly where there is a value.
  pub refuses_else :
      (text : Scan) → ((fault : InputFault) → Refusal text fault → ⊥) ↔ ((value : V) × IsAccepted IsFile text value)
  refuses_else text = (
    decided text (outcome table whole start text.tokens text.ending) refl,
    λ is fault r. accepted (sym (said text is.0 is.1) ∙ refused_so text fault r),
  )
