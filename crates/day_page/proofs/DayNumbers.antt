-- How great the numbers of a day are.
use Rattle.std.proofs.Common.{◌≡◌, ◌∙◌, refl, ap, sym, subst, ℕ, ◌+◌, ◌<◌, ◌≤◌, ◌^◌, zero, suc, Bool, true, false, cond}
use Rattle.std.proofs.Common.{List, [], ◌∷◌, ◌++◌, arith, filter, length, length-append, map}
use Rattle.std.specs.Prelude.{All, Option, Some, None}
use Rattle.std.specs.List.{enumerate_from, flat_map, range_with_len}
use Rattle.std.proofs.lemmas.List.Elements.{All-append, All-cons, All-head, All-nil, All-tail}
use Rattle.batch_core.specs.declared.batch.Batch.{Batch}
use Rattle.batch_core.specs.declared.call.Call.{Call}
use Rattle.batch_core.specs.declared.call.Call.TheVariants.{Change as Changes, Freeze, Strike}
use Rattle.batch_core.specs.declared.change.Change.{Change}
use Rattle.batch_core.specs.declared.change.Change.TheVariants.{Correct, Enter, Withdraw}
use Rattle.batch_core.specs.declared.entry.Entry.{Entry}
use Rattle.batch_core.specs.Book.{BookState, after, empty, is_struck, last_batch, strike}
use Rattle.batch_core.specs.Histories.{after_all}
use Rattle.batch_core.specs.Lawful.{AreKept, AreLawful, IsKept, IsLawful, IsOfBatch, MayStep}
use Rattle.batch_core.specs.Laws.{EveryBatchIsNumbered}
use Rattle.day_reader.specs.Call.{is_freeze}
use Rattle.day_text.specs.declared.batch_end.BatchEnd.{BatchEnd}
use Rattle.day_text.specs.End.{batch_end, day_end, if_any}
use Rattle.day_text.specs.Form.{HasDayForm}
use Rattle.day_text.specs.Said.{IsSaidCall, IsSaidChange, IsSaidEntry}
use Rattle.day_text.specs.Values.{DayTextList, sheets_text}
use Rattle.day_lines.specs.DayHistory.{EndsWithTheClerk, clerk_freeze}
use Rattle.day_lines.specs.DayText.{freeze_places}
use Rattle.sheet_text.specs.Lines.{ended}
use Rattle.day_lines.specs.EntryText.{entry_line, entries_text}

-- a number that JSON may have
abbrev pub IsSmall : ℕ → Type 0
IsSmall n = n < 2 ^ 64

-- ---- the calls

lines_from : (n : ℕ) (history : List Entry)
    → length history ≤ length (flat_map ended (map (λ e. entry_line e.0 e.1) (enumerate_from n history)))
lines_from n [] = omega arith
lines_from n (e ∷ history) =
    let line = entry_line n e in
    let others = flat_map ended (map (λ e. entry_line e.0 e.1) (enumerate_from (n + 1) history)) in
    omega (
      arith,
      lines_from (n + 1) history,
      length-append (ended line) others,
      length-append line (10 ∷ []),
    )

-- a text has a line for each call
pub few_calls :
    (places : ℕ) (input : List ℕ) (v : DayTextList) → length input < 2 ^ 64 → HasDayForm places input v
    → IsSmall (length v.history)
few_calls places input v short form =
    omega (
      arith,
      short,
      ap length form.text,
      length-append (entries_text v.history) (sheets_text places v.sheets),
      lines_from 1 v.history,
    )

-- ---- the freezes

-- the places of the freezes, where the first call has this place
abbrev places_from : ℕ → List Entry → List ℕ
places_from n history = map (λ e. e.0) (filter (λ e. is_freeze e.1.call) (enumerate_from n history))

first_below :
    (bound n : ℕ) (e : Entry) (rest : List (ℕ × Entry)) (frozen : Bool) → n < bound
    → All (λ k. k < bound) (map (λ x. x.0) rest)
    → All (λ k. k < bound) (map (λ x. x.0) (cond frozen ((n, e) ∷ rest) rest))
first_below bound n e rest true few below =
    All-cons (λ (k : ℕ). k < bound) n (map (λ (x : ℕ × Entry). x.0) rest) few below
first_below bound n e rest false few below = below

places_below :
    (bound n : ℕ) (history : List Entry) → n + length history ≤ bound → All (λ k. k < bound) (places_from n history)
places_below bound n [] few = All-nil (λ (k : ℕ). k < bound)
places_below bound n (e ∷ history) few =
    first_below bound n e (filter (λ (x : ℕ × Entry). is_freeze x.1.call) (enumerate_from (n + 1) history))
    (is_freeze e.call) (omega (arith, few)) (places_below bound (n + 1) history (omega (arith, few)))

pub small_freezes : (history : List Entry) → IsSmall (length history) → All IsSmall (freeze_places history)
small_freezes history few = places_below (2 ^ 64) 1 history (omega (arith, few))

first_at :
    (n last : ℕ) (e : Entry) (all rest : List (ℕ × Entry)) (frozen : Bool)
    → map (λ x. x.0) all ≡ map (λ x. x.0) rest ++ last ∷ []
    → map (λ x. x.0) (cond frozen ((n, e) ∷ all) all) ≡ map (λ x. x.0) (cond frozen ((n, e) ∷ rest) rest) ++ last ∷ []
first_at n last e all rest true same = ap (λ (l : List ℕ). n ∷ l) same
first_at n last e all rest false same = same

-- the clerk's freeze after these calls is at the end
ends_at :
    (n : ℕ) (before : List Entry)
    → places_from n (before ++ clerk_freeze ∷ []) ≡ places_from n before ++ (n + length before) ∷ []
ends_at n [] = ap (λ (k : ℕ). k ∷ []) {x = n} {y = n + 0} (omega arith)
ends_at n (e ∷ before) =
    first_at n (n + suc (length before)) e
    (filter (λ (x : ℕ × Entry). is_freeze x.1.call) (enumerate_from (n + 1) (before ++ clerk_freeze ∷ [])))
    (filter (λ (x : ℕ × Entry). is_freeze x.1.call) (enumerate_from (n + 1) before)) (is_freeze e.call)
    (ends_at (n + 1) before
    ∙ ap (λ (k : ℕ). places_from (n + 1) before ++ k ∷ []) {x = n + 1 + length before} {y = n + suc (length before)}
    (omega arith))

-- The last freeze is the last call, and the others are before it.
pub record LastIsOwn (n : ℕ) (freezes : List ℕ) : Type 0 where
  pub others : List ℕ
  pub last : freezes ≡ others ++ n ∷ []
  pub before : All (λ k. k < n) others

pub last_is_own : (history : List Entry) → EndsWithTheClerk history → LastIsOwn (length history) (freeze_places history)
last_is_own history ends =
    let long : length history ≡ 1 + length ends.before =
    ap length ends.last ∙ length-append ends.before (clerk_freeze ∷ []) ∙ omega arith in
    record {
      others = places_from 1 ends.before;
      last =
          ap freeze_places ends.last ∙ ends_at 1 ends.before
          ∙ ap (λ (n : ℕ). places_from 1 ends.before ++ n ∷ []) (sym long);
      before = places_below (length history) 1 ends.before (omega (arith, long));
    }

-- ---- the batches

lawful_change : (change : Change) → IsSaidChange change → IsLawful 0 change
lawful_change (Enter batch ballots) said =
    (said.0, subst (IsOfBatch 0) (sym said.1) (refl, omega arith))
lawful_change (Correct batch revision ballots) said =
    (said.0, said.1, subst (IsOfBatch 0) (sym said.2) (refl, omega arith))
lawful_change (Withdraw batch revision) said = said

lawful_call : (call : Call) → IsSaidCall call → MayStep 0 call
lawful_call (Changes change) said = lawful_change change said
lawful_call Freeze said = tt
lawful_call (Strike candidate) said = said

lawful_calls : (history : List Entry) → All IsSaidEntry history → AreLawful 0 history
lawful_calls [] said = All-nil (λ (e : Entry). MayStep 0 e.call)
lawful_calls (e ∷ history) said =
    All-cons (λ (e : Entry). MayStep 0 e.call) e history (lawful_call e.call (All-head IsSaidEntry e history said).call)
    (lawful_calls history (All-tail IsSaidEntry e history said))

-- numbers of a batch that JSON may have
abbrev pub AreSmall : BatchEnd → Type 0
AreSmall b = IsSmall b.number × IsSmall b.revision

small_end :
    (number : ℕ) (kept : Option Batch) → IsSmall number → IsKept 0 number kept
    → All AreSmall (if_any (batch_end number kept))
small_end number None few is = All-nil AreSmall
small_end number (Some batch) few is =
    All-cons AreSmall _ [] (few, omega (arith, is.1.1)) (All-nil AreSmall)

small_ends :
    (book : BookState) (first n : ℕ) → AreKept 0 book.batches → first + n ≤ 2 ^ 64
    → All AreSmall (flat_map (λ number. if_any (batch_end number (book.batches number))) (range_with_len first n))
small_ends book first zero kept few = All-nil AreSmall
small_ends book first (suc n) kept few =
    All-append AreSmall (if_any (batch_end first (book.batches first)))
    (flat_map (λ number. if_any (batch_end number (book.batches number))) (range_with_len (first + 1) n))
    (small_end first (book.batches first) (omega (arith, few)) (kept first))
    (small_ends book (first + 1) n kept (omega (arith, few)))

pub small_batches :
    EveryBatchIsNumbered → (history : List Entry) → All IsSaidEntry history
    → All AreSmall (day_end history).batches
unfolding last_batch
small_batches are_numbered history said =
    small_ends (after_all empty history) 1 9999 (are_numbered 0 history (lawful_calls history said)) (omega arith)

-- ---- the struck candidates

struck_more :
    (struck : List ℕ) (candidate : ℕ) → All IsSmall struck → IsSmall candidate → All IsSmall (strike struck candidate)
struck_more struck candidate are is = by (is_struck struck candidate)
  where
    by : (before : Bool) → All IsSmall (cond before struck (struck ++ candidate ∷ []))
    by true = are
    by false =
        All-append IsSmall struck (candidate ∷ []) are (All-cons IsSmall candidate [] is (All-nil IsSmall))

struck_after_call :
    (book : BookState) (call : Call) → All IsSmall book.struck → IsSaidCall call
    → All IsSmall (after book call).struck
struck_after_call book (Changes change) are said = are
struck_after_call book Freeze are said = are
struck_after_call book (Strike candidate) are said =
    struck_more book.struck candidate are (omega (arith, said.1))

struck_after_all :
    (book : BookState) (history : List Entry) → All IsSmall book.struck → All IsSaidEntry history
    → All IsSmall (after_all book history).struck
struck_after_all book [] are said = are
struck_after_all book (e ∷ history) are said =
    struck_after_all (after book e.call) history
    (struck_after_call book e.call are (All-head IsSaidEntry e history said).call)
    (All-tail IsSaidEntry e history said)

pub small_struck : (history : List Entry) → All IsSaidEntry history → All IsSmall (day_end history).struck
small_struck history said = struck_after_all empty history (All-nil IsSmall) said
