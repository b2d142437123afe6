-- A table that follows files reads the front of a text, and refuses by the rule what has no such front.
use Rattle.std.proofs.Common.{◌≡◌, List, [], ◌∷◌, ◌++◌, refl, sym, ◌∙◌, ap, Ok, Err}
use Rattle.std.specs.Prelude.{Result, Some, ◌↔◌}
use Rattle.input_text.specs.declared.input_fault.InputFault.{InputFault}
use Rattle.input_text.specs.Token.{Item, Placed, Ending, Scan}
use Rattle.input_text.specs.Judged.{Judged, then_on, after, outcome, Progress, GoesOn, Ends, ended, Stopped}
use Rattle.input_text.specs.Judged.{carried_to, on_progress, front_of, reads, closed}
use Rattle.input_text.specs.Refusal.{items_of, IsFrontOf, IsRefusal, IsFrontRefusal}
use Rattle.input_text.proofs.Judgements.{refused, accepted, same_value, same_kind, same_some, none_not}
use Rattle.input_text.proofs.Tables.{behind_front, reads_front}
use Rattle.input_text.proofs.Following.{Follows, front_expected}
use Rattle.input_text.proofs.Ruling.{refuses_by_rule}

module _ {S V : Type 0} (table : S → Item → Judged (Progress S V)) where
  same_end : {a b : V} → ◌≡◌ {A = Judged (Progress S V)} (Ok (Ends a)) (Ok (Ends b)) → a ≡ b
  same_end e = same_some (ap ended (same_value e))

  not_ended : {s : S} {v : V} → ◌≡◌ {A = Judged (Progress S V)} (Ok (GoesOn s)) (Ok (Ends v)) → ⊥
  not_ended e = none_not (ap ended (same_value e))

  ended_is : (progress : Progress S V) (value : V) → ended progress ≡ Some value → progress ≡ Ends value
  ended_is (GoesOn s) value is = absurd (none_not is)
  ended_is (Ends found) value is = ap Ends (same_some is)

  -- ---- a front that is read

  abbrev Ends_at : S → List Placed → Ending → V → Scan → Type 0
  Ends_at expected tokens ending value rest =
      (front : List Placed) × (tokens ≡ front ++ rest.tokens) × (ending ≡ rest.ending)
      × (after (closed table) (GoesOn expected) (items_of front) ≡ Ok (Ends value))

  on_read :
      (expected : S) (token : Placed) (tokens : List Placed) (ending : Ending) (value : V) (rest : Scan)
      (judged : Judged (Progress S V)) → table expected token.item ≡ judged
      → on_progress token.at judged (record { tokens = tokens; ending = ending })
      (λ next. front_of table next tokens ending) ≡ Ok (value, rest)
      → ((next : S) → front_of table next tokens ending ≡ Ok (value, rest) → Ends_at next tokens ending value rest)
      → Ends_at expected (token ∷ tokens) ending value rest
  on_read expected token tokens ending value rest (Err kind) is e on = absurd (refused e)
  on_read expected token tokens ending value rest (Ok (GoesOn next)) is e on =
      let more = on next e in (
        token ∷ more.0,
        ap (λ (l : List Placed). token ∷ l) more.1,
        more.2,
        ap (λ (j : Judged (Progress S V)). then_on j (λ next. after (closed table) next (items_of more.0))) is ∙ more.3,
      )
  on_read expected token tokens ending value rest (Ok (Ends found)) is e on =
      let same = same_value e in
      let rest_is : record { tokens = tokens; ending = ending } ≡ rest = ap (λ (p : V × Scan). p.1) same in (
        token ∷ [],
        ap (λ (r : Scan). token ∷ r.tokens) rest_is,
        ap (λ (r : Scan). r.ending) rest_is,
        ap (λ (j : Judged (Progress S V)). then_on j (λ next. Ok next)) is ∙ ap (λ (p : V × Scan). Ok (Ends p.0)) same,
      )

  read :
      (tokens : List Placed) (ending : Ending) (expected : S) (value : V) (rest : Scan)
      → front_of table expected tokens ending ≡ Ok (value, rest) → Ends_at expected tokens ending value rest
  unfolding front_of
  read [] ending expected value rest e = absurd (refused e)
  read (token ∷ tokens) ending expected value rest e =
      on_read expected token tokens ending value rest (table expected token.item) refl e
      (λ next on. read tokens ending next value rest on)

  nothing_behind :
      (front : List Placed) (found value : V) → after (closed table) (Ends found) (items_of front) ≡ Ok (Ends value)
      → (front ≡ []) × (found ≡ value)
  nothing_behind [] found value e = (refl, same_end e)
  nothing_behind (token ∷ front) found value e = absurd (refused e)

  on_front :
      (token : Placed) (front : List Placed) (rest : Scan) (value : V) (judged : Judged (Progress S V))
      → then_on judged (λ next. after (closed table) next (items_of front)) ≡ Ok (Ends value)
      → ((next : S) → after (closed table) (GoesOn next) (items_of front) ≡ Ok (Ends value)
      → front_of table next (front ++ rest.tokens) rest.ending ≡ Ok (value, rest))
      → on_progress token.at judged (record { tokens = front ++ rest.tokens; ending = rest.ending })
      (λ next. front_of table next (front ++ rest.tokens) rest.ending) ≡ Ok (value, rest)
  on_front token front rest value (Err kind) e on = absurd (refused e)
  on_front token front rest value (Ok (GoesOn next)) e on = on next e
  on_front token front rest value (Ok (Ends found)) e on =
      let last = nothing_behind front found value e in
      ap (λ (l : List Placed). Ok (found, record { tokens = l ++ rest.tokens; ending = rest.ending })) last.0
      ∙ ap (λ (v : V). Ok (v, rest)) last.1

  read_so :
      (front : List Placed) (rest : Scan) (expected : S) (value : V)
      → after (closed table) (GoesOn expected) (items_of front) ≡ Ok (Ends value)
      → front_of table expected (front ++ rest.tokens) rest.ending ≡ Ok (value, rest)
  unfolding front_of
  read_so [] rest expected value e = absurd (not_ended e)
  read_so (token ∷ front) rest expected value e =
      on_front token front rest value (table expected token.item) e
      (λ next on. read_so front rest next value on)

  -- ---- a front that is refused

  pub itself : (judged : Judged (Progress S V)) → judged ≡ carried_to GoesOn Ends judged
  itself (Ok (GoesOn next)) = refl
  itself (Ok (Ends value)) = refl
  itself (Err kind) = refl

  stopped_so :
      (tokens : List Placed) (ending : Ending) (expected : S) (stopped : Stopped)
      → front_of table expected tokens ending ≡ Err stopped
      → outcome (closed table) ended (GoesOn expected) tokens ending ≡ Err stopped.fault
  stopped_so tokens ending expected stopped e =
      reads_front table (closed table) ended GoesOn Ends (λ s item. itself (table s item)) (λ s. refl) tokens ending expected
      ∙ ap (λ (r : Result (V × Scan) Stopped). behind_front r
      (λ value rest. outcome (closed table) ended (Ends value) rest.tokens rest.ending)) e

module _ {S V : Type 0} (table : S → Item → Judged (Progress S V)) (start : S) (IsFile : List Item → V → Type 0)
    (IsFront : Progress S V → List Item → Type 0)
    (follows : Follows (closed table) ended (GoesOn start) IsFile IsFront) where
  reads_so :
      (text : Scan) (value : V) (rest : Scan) → IsFrontOf IsFile text value rest → reads table start text ≡ Ok (value, rest)
  reads_so text value rest is =
      let file = follows.reads_file (items_of is.front) value is.file in
      ap (λ (l : List Placed). front_of table start l text.ending) is.tokens
      ∙ ap (λ (e : Ending). front_of table start (is.front ++ rest.tokens) e) is.ending
      ∙ read_so table is.front rest start value (file.1 ∙ ap Ok (ended_is table file.0 value file.2))

  is_front :
      (text : Scan) (value : V) (rest : Scan) → reads table start text ≡ Ok (value, rest) → IsFrontOf IsFile text value rest
  is_front text value rest e =
      let found = read table text.tokens text.ending start value rest e in
      record {
        front = found.0;
        tokens = found.1;
        ending = found.2;
        file =
            follows.ends_file (Ends value) value (items_of found.0)
            (front_expected follows (items_of found.0) (Ends value) found.3)
            refl;
      }

  -- The front of a text says a value exactly where it is a file.
  pub reads_fronts :
      (text : Scan) (value : V) (rest : Scan) → (reads table start text ≡ Ok (value, rest))
      ↔ IsFrontOf IsFile text value rest
  reads_fronts text value rest = (is_front text value rest, reads_so text value rest)

  abbrev Rule :
      (text : Scan) (fault : InputFault) → (outcome (closed table) ended (GoesOn start) text.tokens text.ending ≡ Err fault)
      ↔ IsRefusal IsFile (closed table) (GoesOn start) text fault
  Rule = refuses_by_rule follows

  is_refused :
      (text : Scan) (fault : InputFault)
      → (rest : Scan) × (reads table start text ≡ Err (record { fault = fault; rest = rest }))
      → IsFrontRefusal IsFile (closed table) (GoesOn start) text fault
  is_refused text fault e = record {
    no_front = λ value rest is. accepted (sym (reads_so text value rest is) ∙ e.1);
    refused =
        (Rule text fault).0
        (stopped_so table text.tokens text.ending start (record { fault = fault; rest = e.0 }) e.1);
  }

  stops :
      (text : Scan) (fault : InputFault) (found : Result (V × Scan) Stopped) → reads table start text ≡ found
      → IsFrontRefusal IsFile (closed table) (GoesOn start) text fault
      → (rest : Scan) × (reads table start text ≡ Err (record { fault = fault; rest = rest }))
  stops text fault (Ok (value, rest)) is r = absurd (r.no_front value rest (is_front text value rest is))
  stops text fault (Err stopped) is r =
      let same : stopped.fault ≡ fault =
      same_kind (sym (stopped_so table text.tokens text.ending start stopped is)
      ∙ (Rule text fault).1 r.refused) in
      (stopped.rest, is ∙ ap (λ (f : InputFault). Err (record { fault = f; rest = stopped.rest })) same)

  -- Otherwise the text is refused exactly by the rule.
  pub refuses_fronts :
      (text : Scan) (fault : InputFault)
      → ((rest : Scan) × (reads table start text ≡ Err (record { fault = fault; rest = rest })))
      ↔ IsFrontRefusal IsFile (closed table) (GoesOn start) text fault
  refuses_fronts text fault = (is_refused text fault, stops text fault (reads table start text) refl)
