-- Where the ballots of each batch are, as calls are added.
use Rattle.std.proofs.Common.{◌≡◌, ⊎_elim, ℕ, zero, suc, ◌+◌, ◌-◌, ◌<◌, ◌≤◌, ◌==◌, Bool, cond, List, [], ◌∷◌, ◌++◌}
use Rattle.std.proofs.Common.{length, replicate, get_or, set, refl, sym, ap, ◌∙◌, subst, arith, Option, Some, None}
use Rattle.std.specs.Prelude.{◌≢◌, IfSome}
use Rattle.std.specs.List.{flat_map, range_with_len}
use Rattle.std.proofs.lemmas.Bool.{cases_eq, eq-eqb, ne_eqb}
use Rattle.std.proofs.lemmas.List.{append-nil, length-append, length-set, length-replicate, get_or-set_same, get_or-set_other, get_or_default}
use Rattle.std.proofs.lemmas.List.Concat.{flat_map-append}
use Rattle.plain_ballots.specs.declared.ballot_line.BallotLine.{BallotLine}
use Rattle.batch_core.specs.declared.limits.TheConstants.{LAST_NUMBER}
use Rattle.batch_core.specs.declared.batch.Batch.{Batch}
use Rattle.batch_core.specs.declared.change.Change.{Change}
use Rattle.batch_core.specs.declared.change.Change.TheVariants.{Enter, Correct, Withdraw}
use Rattle.batch_core.specs.declared.call.Call.{Call}
use Rattle.batch_core.specs.declared.call.Call.TheVariants.{Change as Changes, Freeze, Strike}
use Rattle.batch_core.specs.declared.reply.Reply.{Reply}
use Rattle.batch_core.specs.declared.reply.Reply.TheVariants.{Entered, Corrected, Withdrawn, Frozen, Exists, Unknown, Gone, Stale, Spent, Struck, AlreadyStruck}
use Rattle.batch_core.specs.declared.entry.Entry.{Entry}
use Rattle.batch_core.specs.Book.{BookState, empty, after, batch_of, ballots_of, ballot_lines}
use Rattle.batch_core.specs.Book.{change_after, change_reply, lines_of, reply, standing, last_batch}
use Rattle.batch_core.specs.Histories.{after_all}
use Rattle.batch_core.specs.Laws.{LeadsOn}
use Rattle.batch_core.specs.Lawful.{IsInRange, IsLawful}
use Rattle.day_reader.specs.Said.{IsAnswerable}
use Rattle.day_replay.specs.Places.{ArePlaces, call_lines, entry_lines, first_lines, lines_at, place_in, placed, placed_by, placed_lines}
use Rattle.day_replay.proofs.Lists.{got_behind, got_ahead}

-- ---- as calls are added

lines_on :
    (history : List Entry) (e : Entry) (o : Option ℕ) → IfSome o (λ p. p < length history)
    → lines_at (history ++ e ∷ []) o ≡ lines_at history o
lines_on history e None within = refl
lines_on history e (Some p) within = ap entry_lines (got_ahead history (e ∷ []) p within)

within_more : (o : Option ℕ) (n m : ℕ) → n ≤ m → IfSome o (λ p. p < n) → IfSome o (λ p. p < m)
within_more None n m more within = tt
within_more (Some p) n m more within = omega (arith, more, within)

module _ (leads : LeadsOn) (history : List Entry) (places : List (Option ℕ)) (are : ArePlaces history places) (e : Entry) where
  abbrev grown : List Entry
  grown = history ++ e ∷ []

  abbrev before : BookState
  before = after_all empty history

  long : length grown ≡ length history + 1
  long = length-append history (e ∷ [])

  stays_within : (b : ℕ) → 1 ≤ b → IfSome (place_in places b) (λ p. p < length grown)
  stays_within b some = within_more (place_in places b) (length history) (length grown) (omega (arith, long)) (are.within b some)

  same_lines : (b : ℕ) → 1 ≤ b → b ≤ LAST_NUMBER → lines_of (before.batches b) ≡ lines_at grown (place_in places b)
  same_lines b some few = are.lines b some few ∙ sym (lines_on history e (place_in places b) (are.within b some))

  -- a call that is no change
  pub places_stay : (after before e.call).batches ≡ before.batches → ArePlaces grown places
  places_stay same = record {
    numbered = are.numbered;
    within = stays_within;
    lines = λ b some few.
        ap (λ (s : BookState). lines_of (s.batches b)) (leads history e)
        ∙ (ap (λ (batches : ℕ → Option Batch). lines_of (batches b)) same ∙ same_lines b some few);
  }

  module _ (c : Change) (is : e.call ≡ Changes c) (range : IsInRange (batch_of c)) where
    abbrev n : ℕ
    n = batch_of c

    abbrev kept : Option Batch
    kept = before.batches n

    abbrev now : Option Batch
    now = change_after kept c (change_reply kept c)

    after_lines :
        (b : ℕ) → lines_of ((after_all empty grown).batches b) ≡ lines_of (cond (b == n) now (before.batches b))
    after_lines b =
        ap (λ (s : BookState). lines_of (s.batches b)) (leads history e)
        ∙ ap (λ (asked : Call). lines_of ((after before asked).batches b)) is

    own : (b : ℕ) → b ≡ n → lines_of (cond (b == n) now (before.batches b)) ≡ lines_of now
    own b same = ap (λ (t : Bool). lines_of (cond t now (before.batches b))) (eq-eqb b n same)

    other : (b : ℕ) → b ≢ n → lines_of (cond (b == n) now (before.batches b)) ≡ lines_of (before.batches b)
    other b differs = ap (λ (t : Bool). lines_of (cond t now (before.batches b))) (ne_eqb b n differs)

    below : n - 1 < length places
    below = omega (arith, range.0, range.1, are.numbered)

    at_own : (o : Option ℕ) (b : ℕ) → b ≡ n → place_in (set places (n - 1) o) b ≡ o
    at_own o b same =
        ap (place_in (set places (n - 1) o)) same ∙ get_or-set_same places (n - 1) o None below

    at_other : (o : Option ℕ) (b : ℕ) → 1 ≤ b → b ≢ n → place_in (set places (n - 1) o) b ≡ place_in places b
    at_other o b some differs =
        get_or-set_other places (n - 1) (b - 1) o None (λ same. differs (omega (arith, same, some, range.0)))

    -- its batch has another place, or none
    exchanged :
        (o : Option ℕ) → IfSome o (λ p. p < length grown) → lines_of now ≡ lines_at grown o
        → ArePlaces grown (set places (n - 1) o)
    exchanged o inside lines = record {
      numbered = length-set places (n - 1) o ∙ are.numbered;
      within = λ b some.
          ⊎_elim
          (λ (same : b ≡ n). subst (λ (x : Option ℕ). IfSome x (λ p. p < length grown)) (sym (at_own o b same)) inside)
          (λ (differs : b ≢ n).
          subst (λ (x : Option ℕ). IfSome x (λ p. p < length grown)) (sym (at_other o b some differs)) (stays_within b some))
          (cases_eq b n);
      lines = λ b some few.
          after_lines b
          ∙ ⊎_elim
          (λ (same : b ≡ n). own b same ∙ (lines ∙ ap (lines_at grown) (sym (at_own o b same))))
          (λ (differs : b ≢ n).
          other b differs ∙ (same_lines b some few ∙ ap (lines_at grown) (sym (at_other o b some differs))))
          (cases_eq b n);
    }

    -- its batch has the ballots that it had
    refused : lines_of now ≡ lines_of kept → ArePlaces grown places
    refused stay = record {
      numbered = are.numbered;
      within = stays_within;
      lines = λ b some few.
          after_lines b
          ∙ ⊎_elim
          (λ (same : b ≡ n).
          own b same
          ∙ (stay ∙ (ap (λ (k : ℕ). lines_of (before.batches k)) (sym same) ∙ same_lines b some few)))
          (λ (differs : b ≢ n). other b differs ∙ same_lines b some few)
          (cases_eq b n);
    }

    own_lines : lines_at grown (Some (length history)) ≡ ballot_lines (ballots_of c)
    own_lines = ap entry_lines (got_behind history e []) ∙ ap call_lines is

    lines_by : (answer : Reply) → answer ≡ change_reply kept c → lines_of now ≡ lines_of (change_after kept c answer)
    lines_by answer gives = ap (λ (r : Reply). lines_of (change_after kept c r)) (sym gives)

    inside : length history < length grown
    inside = omega (arith, long)

    places_after :
        (answer : Reply) → answer ≡ change_reply kept c → ArePlaces grown (placed places n answer (length history))
    places_after Entered gives = exchanged (Some (length history)) inside (lines_by Entered gives ∙ sym own_lines)
    places_after (Corrected r) gives =
        exchanged (Some (length history)) inside (lines_by (Corrected r) gives ∙ sym own_lines)
    places_after (Withdrawn r) gives = exchanged None tt (lines_by (Withdrawn r) gives)
    places_after Frozen gives = refused (lines_by Frozen gives)
    places_after (Exists r) gives = refused (lines_by (Exists r) gives)
    places_after Unknown gives = refused (lines_by Unknown gives)
    places_after (Gone r) gives = refused (lines_by (Gone r) gives)
    places_after (Stale r) gives = refused (lines_by (Stale r) gives)
    places_after Spent gives = refused (lines_by Spent gives)
    places_after Struck gives = refused (lines_by Struck gives)
    places_after AlreadyStruck gives = refused (lines_by AlreadyStruck gives)

pub in_range : (m : ℕ) (c : Change) → IsLawful m c → IsInRange (batch_of c)
in_range m (Enter batch ballots) lawful = lawful.0
in_range m (Correct batch revision ballots) lawful = lawful.0
in_range m (Withdraw batch revision) lawful = lawful.0

-- a call with its answer
pub placed_on :
    (leads : LeadsOn) (history : List Entry) (places : List (Option ℕ)) → ArePlaces history places → (m caller : ℕ)
    (asked : Call) (answer : Reply) → IsAnswerable m asked → answer ≡ reply (after_all empty history) asked
    → ArePlaces (history ++ record { caller = caller; call = asked; reply = answer } ∷ [])
    (placed_by places asked answer (length history))
placed_on leads history places are m caller (Changes c) answer lawful gives =
    places_after leads history places are (record { caller = caller; call = Changes c; reply = answer }) c refl
    (in_range m c lawful) answer gives
placed_on leads history places are m caller Freeze answer lawful gives =
    places_stay leads history places are (record { caller = caller; call = Freeze; reply = answer }) refl
placed_on leads history places are m caller (Strike k) answer lawful gives =
    places_stay leads history places are (record { caller = caller; call = Strike k; reply = answer }) refl

-- ---- before the first call

no_place : (n i : ℕ) → get_or (replicate {A = Option ℕ} n None) i None ≡ None
no_place zero i = refl
no_place (suc n) zero = refl
no_place (suc n) (suc i) = no_place n i

pub no_places : ArePlaces [] (replicate {A = Option ℕ} LAST_NUMBER None)
no_places = record {
  numbered = length-replicate {A = Option ℕ} LAST_NUMBER None;
  within = λ b some. subst (λ (o : Option ℕ). IfSome o (λ p. p < 0)) (sym (no_place LAST_NUMBER (b - 1))) tt;
  lines = λ b some few. ap (lines_at []) (sym (no_place LAST_NUMBER (b - 1)));
}

-- ---- the lines at all places

alike_pieces :
    (f g : ℕ → List BallotLine) (n a : ℕ) → ((b : ℕ) → a ≤ b → b < a + n → f b ≡ g b)
    → flat_map f (range_with_len a n) ≡ flat_map g (range_with_len a n)
alike_pieces f g zero a same = refl
alike_pieces f g (suc n) a same =
    λ i. same a (omega arith) (omega arith) i
    ++ alike_pieces f g n (a + 1) (λ b low high. same b (omega (arith, low)) (omega (arith, high))) i

few_batches : last_batch ≤ LAST_NUMBER
unfolding last_batch
few_batches = omega arith

-- are those that stand
pub placed_stand :
    (history : List Entry) (places : List (Option ℕ)) → ArePlaces history places
    → placed_lines history places ≡ standing (after_all empty history)
placed_stand history places are =
    alike_pieces (λ b. lines_at history (place_in places b)) (λ b. lines_of ((after_all empty history).batches b))
    last_batch 1 (λ b low high. sym (are.lines b low (omega (arith, high, few_batches))))

pub all_batches : (n : ℕ) → n ≡ LAST_NUMBER → n ≡ last_batch
unfolding last_batch
all_batches n is = is

range_more : (a n : ℕ) → range_with_len a (suc n) ≡ range_with_len a n ++ (a + n) ∷ []
range_more a zero = let e : a ≡ a + 0 = omega arith in ap (λ (k : ℕ). k ∷ []) e
range_more a (suc n) =
    let e : a + 1 + n ≡ a + suc n = omega arith in
    ap (λ (l : List ℕ). a ∷ l) (range_more (a + 1) n ∙ ap (λ (k : ℕ). range_with_len (a + 1) n ++ k ∷ []) e)

-- one batch more
pub first_more :
    (history : List Entry) (places : List (Option ℕ)) (k : ℕ) (o : Option ℕ) → k < length places → o ≡ get_or places k o
    → first_lines history places (k + 1) ≡ first_lines history places k ++ lines_at history o
first_more history places k o below is =
    let f : ℕ → List BallotLine = λ b. lines_at history (place_in places b) in
    let next : k + 1 ≡ suc k = omega arith in
    let index : 1 + k - 1 ≡ k = omega arith in
    let here : place_in places (1 + k) ≡ o =
    ap (λ (i : ℕ). get_or places i None) index ∙ (get_or_default places k None o below ∙ sym is) in
    ap (λ (m : ℕ). flat_map f (range_with_len 1 m)) next
    ∙ (ap (flat_map f) (range_more 1 k)
    ∙ (flat_map-append f (range_with_len 1 k) ((1 + k) ∷ [])
    ∙ ap (λ (l : List BallotLine). first_lines history places k ++ l)
    (append-nil (f (1 + k)) ∙ ap (lines_at history) here)))
