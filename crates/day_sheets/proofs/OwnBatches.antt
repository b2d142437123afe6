-- What becomes of a batch is told by the calls of that batch alone.
use Rattle.std.proofs.Common.{◌≡◌, ◌≢◌, ℕ, ◌==◌, Bool, true, false, cond, List, [], ◌∷◌, filter, map}
use Rattle.std.proofs.Common.{All, refl, sym, ap, ◌∙◌, subst, ⊎_elim, ne_eqb}
use Rattle.std.specs.Prelude.{Option, Some, None}
use Rattle.std.proofs.lemmas.Bool.{eq-eqb}
use Rattle.std.proofs.lemmas.Bool.Decides.{eqb_tells}
use Rattle.std.proofs.lemmas.List.Elements.{All-head, All-tail}
use Rattle.batch_core.specs.declared.batch.Batch.{Batch}
use Rattle.batch_core.specs.declared.call.Call.{Call}
use Rattle.batch_core.specs.declared.call.Call.TheVariants.{Change as Changes, Freeze, Strike}
use Rattle.batch_core.specs.declared.change.Change.{Change}
use Rattle.batch_core.specs.declared.entry.Entry.{Entry}
use Rattle.batch_core.specs.Book.{BookState, after, batch_of, change_reply, change_after, replaced}
use Rattle.batch_core.specs.Histories.{after_all, own_calls}
use Rattle.day_lines.specs.DayHistory.{calls_of}

-- whether a call is of this batch
abbrev pub is_of : ℕ → Call → Bool
is_of batch (Changes change) = batch == batch_of change
is_of batch Freeze = false
is_of batch (Strike candidate) = false

-- the calls of this batch
abbrev pub of_batch : ℕ → List Call → List Call
of_batch batch calls = filter (is_of batch) calls

-- what is kept of a batch after a call of it, and after such calls
abbrev kept_after : Option Batch → Call → Option Batch
kept_after kept (Changes change) = change_after kept change (change_reply kept change)
kept_after kept Freeze = kept
kept_after kept (Strike candidate) = kept

abbrev pub kept_by : Option Batch → List Call → Option Batch
kept_by kept [] = kept
kept_by kept (call ∷ calls) = kept_by (kept_after kept call) calls

-- a call of a batch acts on it alone
here : (book : BookState) (batch : ℕ) (call : Call) → is_of batch call ≡ true
    → (after book call).batches batch ≡ kept_after (book.batches batch) call
here book batch Freeze is = refl
here book batch (Strike candidate) is = refl
here book batch (Changes change) is =
    ⊎_elim
    (λ (same : ((batch == batch_of change) ≡ true) × (batch ≡ batch_of change)).
    ap (λ (t : Bool). cond t (change_after (book.batches (batch_of change)) change
    (change_reply (book.batches (batch_of change)) change)) (book.batches batch)) is
    ∙ ap (λ (b : ℕ). kept_after (book.batches b) (Changes change)) (sym same.1))
    (λ (other : ((batch == batch_of change) ≡ false) × (batch ≢ batch_of change)). absurd (cc))
    (eqb_tells batch (batch_of change))

elsewhere : (book : BookState) (batch : ℕ) (call : Call) → is_of batch call ≡ false
    → (after book call).batches batch ≡ book.batches batch
elsewhere book batch Freeze is = refl
elsewhere book batch (Strike candidate) is = refl
elsewhere book batch (Changes change) is =
    ap (λ (t : Bool). cond t (change_after (book.batches (batch_of change)) change
    (change_reply (book.batches (batch_of change)) change)) (book.batches batch)) is

one_more : (batch : ℕ) (kept : Option Batch) (of : Bool) (call : Call) (rest : List Call) (then' : Option Batch)
    → (of ≡ true → then' ≡ kept_after kept call) → (of ≡ false → then' ≡ kept)
    → kept_by then' rest ≡ kept_by kept (cond of (call ∷ rest) rest)
one_more batch kept true call rest then' own other = ap (λ (k : Option Batch). kept_by k rest) (own refl)
one_more batch kept false call rest then' own other = ap (λ (k : Option Batch). kept_by k rest) (other refl)

-- what is kept of a batch in the end
pub kept : (batch : ℕ) (book : BookState) (history : List Entry)
    → (after_all book history).batches batch ≡ kept_by (book.batches batch) (of_batch batch (calls_of history))
kept batch book [] = refl
kept batch book (e ∷ es) =
    kept batch (after book e.call) es
    ∙ one_more batch (book.batches batch) (is_of batch e.call) e.call (of_batch batch (calls_of es))
    ((after book e.call).batches batch) (here book batch e.call) (elsewhere book batch e.call)

-- ---- the calls of one caller

both : (batch : ℕ) (call : Call) (of own : Bool) (all mine : List Call) → (of ≡ true → own ≡ true)
    → (of ≡ is_of batch call) → all ≡ of_batch batch mine
    → cond of (call ∷ all) all ≡ of_batch batch (cond own (call ∷ mine) mine)
both batch call true true all mine implies is rest =
    ap (λ (l : List Call). call ∷ l) rest
    ∙ ap (λ (t : Bool). cond t (call ∷ of_batch batch mine) (of_batch batch mine)) is
both batch call true false all mine implies is rest =
    let own : false ≡ true = implies refl in
    absurd (cc)
both batch call false true all mine implies is rest =
    rest ∙ ap (λ (t : Bool). cond t (call ∷ of_batch batch mine) (of_batch batch mine)) is
both batch call false false all mine implies is rest = rest

mapped :
    (own : Bool) (e : Entry) (es : List Entry)
    → calls_of (cond own (e ∷ es) es) ≡ cond own (e.call ∷ calls_of es) (calls_of es)
mapped true e es = refl
mapped false e es = refl

-- the calls of a batch are among those of one caller, where nobody else has called it
pub by_one : (batch caller : ℕ) (history : List Entry) → All (λ e. is_of batch e.call ≡ true → e.caller ≡ caller) history
    → of_batch batch (calls_of history) ≡ of_batch batch (calls_of (own_calls caller history))
by_one batch caller [] all = refl
by_one batch caller (e ∷ es) all =
    let mine = own_calls caller es in
    let P = λ (x : Entry). is_of batch x.call ≡ true → x.caller ≡ caller in
    both batch e.call (is_of batch e.call) (e.caller == caller) (of_batch batch (calls_of es)) (calls_of mine)
    (λ of. eq-eqb e.caller caller (All-head P e es all of)) refl (by_one batch caller es (All-tail P e es all))
    ∙ ap (of_batch batch) (sym (mapped (e.caller == caller) e mine))
