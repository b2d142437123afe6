-- Lists of items in parts, and a table within another.
use Rattle.std.proofs.Common.{◌≡◌, List, [], ◌∷◌, ◌++◌, refl, ◌∙◌, ap, Ok, Err}
use Rattle.std.specs.Prelude.{Option, None, Result, IsOk}
use Rattle.input_text.specs.declared.input_fault.InputFault.{InputFault}
use Rattle.input_text.specs.Token.{Item, Placed, Ending, AtEnd, AtFault, Scan}
use Rattle.input_text.specs.Judged.{Judged, then_on, after, at_place, outcome, Progress, GoesOn, Ends}
use Rattle.input_text.specs.Judged.{Stopped, on_progress, front_of, carried, carried_to, closed}
use Rattle.input_text.proofs.Judgements.{refused, same_value}

-- ---- parts

module _ {S : Type 0} (table : S → Item → Judged S) where
  then_rest :
      (judged : Judged S) (last : S) (xs ys : List Item) → then_on judged (λ next. after table next xs) ≡ Ok last
      → ((next : S) → after table next xs ≡ Ok last → after table next (xs ++ ys) ≡ after table last ys)
      → then_on judged (λ next. after table next (xs ++ ys)) ≡ after table last ys
  then_rest (Ok next) last xs ys e rest = rest next e
  then_rest (Err kind) last xs ys e rest = absurd (refused e)

  -- after a part that is accepted the rest goes on
  pub in_parts :
      (start middle : S) (xs ys : List Item) → after table start xs ≡ Ok middle
      → after table start (xs ++ ys) ≡ after table middle ys
  in_parts start middle [] ys e = ap (λ (s : S). after table s ys) (same_value e)
  in_parts start middle (x ∷ xs) ys e = then_rest (table start x) middle xs ys e (λ next on. in_parts next middle xs ys on)

  front_then :
      (judged : Judged S) (last : S) (xs ys : List Item) → then_on judged (λ next. after table next (xs ++ ys)) ≡ Ok last
      → ((next : S) → after table next (xs ++ ys) ≡ Ok last → IsOk (after table next xs))
      → IsOk (then_on judged (λ next. after table next xs))
  front_then (Ok next) last xs ys e rest = rest next e
  front_then (Err kind) last xs ys e rest = absurd (refused e)

  -- no item of a front part of an accepted list is refused
  pub front_read :
      (start last : S) (xs ys : List Item) → after table start (xs ++ ys) ≡ Ok last → IsOk (after table start xs)
  front_read start last [] ys e = refl
  front_read start last (x ∷ xs) ys e = front_then (table start x) last xs ys e (λ next on. front_read next last xs ys on)

-- ---- along another table

-- Each place of the one table is a place of the other, where what the one accepts leads along.
module _ {S T : Type 0} (one : S → Item → Judged S) (other : T → Item → Judged T) (place : S → T)
    (along : (expected next : S) (item : Item) → one expected item ≡ Ok next
    → other (place expected) item ≡ Ok (place next)) where
  and_item :
      (expected last : S) (item : Item) (items : List Item) (judged : Judged S) → one expected item ≡ judged
      → then_on judged (λ next. after one next items) ≡ Ok last
      → ((next : S) → after one next items ≡ Ok last → after other (place next) items ≡ Ok (place last))
      → after other (place expected) (item ∷ items) ≡ Ok (place last)
  and_item expected last item items (Ok next) is e rest =
      ap (λ (j : Judged T). then_on j (λ next. after other next items)) (along expected next item is) ∙ rest next e
  and_item expected last item items (Err kind) is e rest = absurd (refused e)

  -- what the one table accepts, the other accepts
  pub accepts_along :
      (items : List Item) (start last : S) → after one start items ≡ Ok last
      → after other (place start) items ≡ Ok (place last)
  accepts_along [] start last e = ap (λ (s : S). Ok (place s)) (same_value e)
  accepts_along (item ∷ items) start last e =
      and_item start last item items (one start item) refl e (λ next on. accepts_along items next last on)

-- ---- within another table

pub carried_is :
    {S V T W : Type 0} (inside : S → T) (behind : V → T) (judged : Judged (Progress S V))
    → carried {W = W} inside behind judged ≡ carried_to (λ s. GoesOn (inside s)) (λ v. GoesOn (behind v)) judged
carried_is inside behind (Ok (GoesOn next)) = refl
carried_is inside behind (Ok (Ends value)) = refl
carried_is inside behind (Err kind) = refl

abbrev pub place_of : {S V T : Type 0} → (S → T) → (V → T) → Progress S V → T
place_of inside behind (GoesOn next) = inside next
place_of inside behind (Ends value) = behind value

module _ {S V T : Type 0} (inner : S → Item → Judged (Progress S V)) (outer : T → Item → Judged T)
    (inside : S → T) (behind : V → T)
    (same : (expected : S) (item : Item)
    → outer (inside expected) item ≡ carried_to inside behind (inner expected item)) where
  abbrev place : Progress S V → T
  place = place_of inside behind

  leads :
      (judged : Judged (Progress S V)) (next : Progress S V) → judged ≡ Ok next
      → carried_to inside behind judged ≡ Ok (place next)
  leads (Ok (GoesOn found)) next e = ap (λ (p : Progress S V). Ok (place p)) (same_value e)
  leads (Ok (Ends value)) next e = ap (λ (p : Progress S V). Ok (place p)) (same_value e)
  leads (Err kind) next e = absurd (refused e)

  goes_along :
      (expected next : Progress S V) (item : Item) → closed inner expected item ≡ Ok next
      → outer (place expected) item ≡ Ok (place next)
  goes_along (GoesOn expected) next item e = same expected item ∙ leads (inner expected item) next e
  goes_along (Ends value) next item e = absurd (refused e)

  -- what the inner table accepts, the outer one accepts
  pub carries :
      (items : List Item) (start last : Progress S V) → after (closed inner) start items ≡ Ok last
      → after outer (place_of inside behind start) items ≡ Ok (place_of inside behind last)
  carries = accepts_along (closed inner) outer place goes_along

-- ---- texts within another table

-- where the front is read, go on with what is after it
abbrev pub behind_front : {V W : Type 0} → Result (V × Scan) Stopped → (V → Scan → Result W InputFault) → Result W InputFault
behind_front (Ok read) next = next read.0 read.1
behind_front (Err stopped) next = Err stopped.fault

abbrev pub behind_inner :
    {V W : Type 0} → Result (V × Scan) Stopped → (V → Scan → Result (W × Scan) Stopped) → Result (W × Scan) Stopped
behind_inner (Ok read) next = next read.0 read.1
behind_inner (Err stopped) next = Err stopped

module _ {S V T W : Type 0} (inner : S → Item → Judged (Progress S V)) (outer : T → Item → Judged T)
    (whole : T → Option W) (inside : S → T) (behind : V → T)
    (same : (expected : S) (item : Item) → outer (inside expected) item ≡ carried_to inside behind (inner expected item))
    (unfinished : (expected : S) → whole (inside expected) ≡ None) where
  abbrev Onward : V → Scan → Result W InputFault
  Onward value rest = outcome outer whole (behind value) rest.tokens rest.ending

  abbrev ReadsOn : List Placed → Ending → Type 0
  ReadsOn tokens ending =
      (expected : S)
      → outcome outer whole (inside expected) tokens ending
      ≡ behind_front (front_of inner expected tokens ending) Onward

  on_token :
      (token : Placed) (tokens : List Placed) (ending : Ending) (judged : Judged (Progress S V)) → ReadsOn tokens ending
      → at_place token.at (carried_to inside behind judged) (λ next. outcome outer whole next tokens ending)
      ≡ behind_front (on_progress token.at judged (record { tokens = tokens; ending = ending })
      (λ next. front_of inner next tokens ending)) Onward
  on_token token tokens ending (Ok (GoesOn next)) rest = rest next
  on_token token tokens ending (Ok (Ends value)) rest = refl
  on_token token tokens ending (Err kind) rest = refl

  -- a text whose front the inner table reads
  pub reads_front : (tokens : List Placed) (ending : Ending) → ReadsOn tokens ending
  unfolding front_of
  reads_front [] (AtEnd at) expected = rw (unfinished expected) refl
  reads_front [] (AtFault fault) expected = rw (unfinished expected) refl
  reads_front (token ∷ tokens) ending expected =
      ap (λ (j : Judged T). at_place token.at j (λ next. outcome outer whole next tokens ending)) (same expected token.item)
      ∙ on_token token tokens ending (inner expected token.item) (reads_front tokens ending)

module _ {S V T W : Type 0} (inner : S → Item → Judged (Progress S V))
    (outer : T → Item → Judged (Progress T W)) (inside : S → T) (behind : V → T)
    (same : (expected : S) (item : Item)
    → outer (inside expected) item ≡ carried {W = W} inside behind (inner expected item)) where
  abbrev OnwardIn : V → Scan → Result (W × Scan) Stopped
  OnwardIn value rest = front_of outer (behind value) rest.tokens rest.ending

  abbrev ReadsOnIn : List Placed → Ending → Type 0
  ReadsOnIn tokens ending =
      (expected : S)
      → front_of outer (inside expected) tokens ending
      ≡ behind_inner (front_of inner expected tokens ending) OnwardIn

  on_token_in :
      (token : Placed) (tokens : List Placed) (ending : Ending) (judged : Judged (Progress S V)) → ReadsOnIn tokens ending
      → on_progress token.at (carried {W = W} inside behind judged)
      (record { tokens = tokens; ending = ending }) (λ next. front_of outer next tokens ending)
      ≡ behind_inner (on_progress token.at judged (record { tokens = tokens; ending = ending })
      (λ next. front_of inner next tokens ending)) OnwardIn
  on_token_in token tokens ending (Ok (GoesOn next)) rest = rest next
  on_token_in token tokens ending (Ok (Ends value)) rest = refl
  on_token_in token tokens ending (Err kind) rest = refl

  -- a front whose own front the inner table reads
  pub reads_inner : (tokens : List Placed) (ending : Ending) → ReadsOnIn tokens ending
  unfolding front_of
  reads_inner [] ending expected = refl
  reads_inner (token ∷ tokens) ending expected =
      ap (λ (j : Judged (Progress T W)). on_progress token.at j (record { tokens = tokens; ending = ending })
      (λ next. front_of outer next tokens ending)) (same expected token.item)
      ∙ on_token_in token tokens ending (inner expected token.item) (reads_inner tokens ending)
