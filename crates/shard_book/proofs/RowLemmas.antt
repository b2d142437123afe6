-- The index of a shard after one entry more.
use Rattle.std.proofs.Common.{◌≡◌, ◌≢◌, ◌⊎◌, ℕ, zero, suc, ◌+◌, ◌≤◌, ◌==◌, Bool, true, false, cond, List, []}
use Rattle.std.proofs.Common.{◌∷◌, ◌++◌, length, refl, sym, ap, ◌∙◌, subst, ⊎_elim, inl, inr, arith, Option}
use Rattle.std.proofs.Common.{Some, None, eq-eqb, ne_eqb}
use Rattle.std.specs.Prelude.{slice_get, is_some, is_none, not, option_map, IfSome, unwrap_or}
use Rattle.std.proofs.lemmas.Bool.Decides.{eqb_tells}
use Rattle.std.proofs.lemmas.List.Elements.{All-push}
use Rattle.batch_core.specs.declared.batch.Batch.{Batch}
use Rattle.batch_core.specs.declared.change.Change.{Change}
use Rattle.batch_core.specs.declared.change.Change.TheVariants.{Enter, Correct, Withdraw}
use Rattle.batch_core.specs.declared.call.Call.TheVariants.{Change as Changes}
use Rattle.batch_core.specs.declared.reply.Reply.{Reply}
use Rattle.batch_core.specs.declared.reply.Reply.TheVariants.{Corrected, Withdrawn, Exists, Gone, Stale, Spent}
use Rattle.batch_core.specs.declared.entry.Entry.{Entry}
use Rattle.batch_core.specs.Book.{BookState, empty, reply, after, batch_of, ballots_of, ballot_lines}
use Rattle.batch_core.specs.Book.{lines_of, refusal, change_reply, change_after}
use Rattle.batch_core.specs.Lawful.{MayStep}
use Rattle.batch_core.specs.Histories.{after_all}
use Rattle.batch_core.specs.Shards.{is_of_shard}
use Rattle.batch_core.specs.Laws.{GrowsByAnAnswer}
use Rattle.shard_book.specs.declared.row.Row.{Row}
use Rattle.shard_book.specs.Rows.{call_ballots, entry_ballots, ballots_at, kept_by, IsRow, outline, row_after}
use Rattle.shard_book.specs.Rows.{index_after, standing_place, AreRows}
use Rattle.shard_book.specs.Shard.{AreOfShard}

get_last : (es : List Entry) (e : Entry) → slice_get (es ++ e ∷ []) (length es) ≡ Some e
get_last [] e = refl
get_last (x ∷ es) e = get_last es e

get_stays :
    (es : List Entry) (e : Entry) (place : ℕ) → is_some (entry_ballots (slice_get es place)) ≡ true
    → slice_get (es ++ e ∷ []) place ≡ slice_get es place
get_stays [] e place some = absurd (cc)
get_stays (x ∷ es) e zero some = refl
get_stays (x ∷ es) e (suc place) some = get_stays es e place some

ballots-stay :
    (es : List Entry) (e : Entry) (place : Option ℕ) → is_some (ballots_at es place) ≡ is_some place
    → ballots_at (es ++ e ∷ []) place ≡ ballots_at es place
ballots-stay es e None same = refl
ballots-stay es e (Some place) same = ap entry_ballots (get_stays es e place same)

kept-stay : (es : List Entry) (e : Entry) (row : Row) → IsRow es row → kept_by (es ++ e ∷ []) row ≡ kept_by es row
kept-stay es e row is = ap (λ s. record { revision = row.revision; standing = s }) (ballots-stay es e row.place is.1)

row-stays : (es : List Entry) (e : Entry) (row : Row) → IsRow es row → IsRow (es ++ e ∷ []) row
row-stays es e row is = (is.0, ap is_some (ballots-stay es e row.place is.1) ∙ is.1)

-- what a row says of its batch after an entry of another batch, or one that changes nothing
pub unchanged :
    (es : List Entry) (e : Entry) (o : Option Row) → IfSome o (IsRow es)
    → IfSome o (IsRow (es ++ e ∷ [])) × (option_map (kept_by (es ++ e ∷ [])) o ≡ option_map (kept_by es) o)
unchanged es e None is = (tt, refl)
unchanged es e (Some row) is = (row-stays es e row is, ap Some (kept-stay es e row is))

some-map : {A B : Type 0} (f : A → B) (o : Option A) → is_some (option_map f o) ≡ is_some o
some-map f None = refl
some-map f (Some x) = refl

none-alike : {A B : Type 0} (o : Option A) (p : Option B) → is_some o ≡ is_some p → is_none o ≡ is_none p
none-alike None None same = refl
none-alike None (Some y) same = absurd (cc)
none-alike (Some x) None same = absurd (cc)
none-alike (Some x) (Some y) same = refl

refusal-alike :
    (es : List Entry) (row : Row) (revision : ℕ) → IsRow es row
    → refusal (outline row) revision ≡ refusal (kept_by es row) revision
refusal-alike es row revision is =
    let same : is_none (outline row).standing ≡ is_none (ballots_at es row.place) =
    none-alike (outline row).standing (ballots_at es row.place)
    (some-map (λ (place : ℕ). record { candidates = 0; lines = [] }) row.place ∙ sym is.1) in
    ap (λ s. cond s (Some (Gone row.revision)) (cond (not (revision == row.revision))
    (Some (Stale row.revision)) (cond (row.revision == 9999) (Some Spent) None))) same

-- a row's reply is that of the batch it stands for
pub reply-alike :
    (es : List Entry) (o : Option Row) (change : Change) → IfSome o (IsRow es)
    → change_reply (option_map outline o) change ≡ change_reply (option_map (kept_by es) o) change
reply-alike es None change is = refl
reply-alike es (Some row) (Enter number ballots) is = refl
reply-alike es (Some row) (Correct number revision ballots) is =
    ap (λ r. unwrap_or r (Corrected (row.revision + 1))) (refusal-alike es row revision is)
reply-alike es (Some row) (Withdraw number revision) is =
    ap (λ r. unwrap_or r (Withdrawn (row.revision + 1))) (refusal-alike es row revision is)

-- a reply that changes nothing
abbrev Keeps : Reply → Type 0
Keeps answer =
    ((row : Row) (place : ℕ) → row_after row answer place ≡ row)
    × ((kept : Option Batch) (change : Change) → change_after kept change answer ≡ kept)

-- a refusal changes nothing, and where there is none, a further revision is in bounds
refusals :
    (batch : Batch) (revision : ℕ)
    → ((answer : Reply) × (refusal batch revision ≡ Some answer) × Keeps answer)
    ⊎ ((refusal batch revision ≡ None) × (batch.revision ≢ 9999))
refusals batch revision =
    by_tests (is_none batch.standing) (not (revision == batch.revision)) (eqb_tells batch.revision 9999)
  where
    by_tests :
        (gone stale : Bool)
        → (((batch.revision == 9999) ≡ true) × (batch.revision ≡ 9999))
        ⊎ (((batch.revision == 9999) ≡ false) × (batch.revision ≢ 9999))
        → ((answer : Reply)
        × (cond gone (Some (Gone batch.revision)) (cond stale (Some (Stale batch.revision))
        (cond (batch.revision == 9999) (Some Spent) None)) ≡ Some answer)
        × Keeps answer)
        ⊎
        ((cond gone (Some (Gone batch.revision)) (cond stale (Some (Stale batch.revision))
        (cond (batch.revision == 9999) (Some Spent) None)) ≡ None)
        × (batch.revision ≢ 9999))
    by_tests true stale tells = inl (Gone batch.revision, refl, ((λ row place. refl), (λ kept change. refl)))
    by_tests false true tells = inl (Stale batch.revision, refl, ((λ row place. refl), (λ kept change. refl)))
    by_tests false false tells = ⊎_elim
        (λ (h : ((batch.revision == 9999) ≡ true) × (batch.revision ≡ 9999)).
        inl (Spent, ap (λ b. cond b (Some Spent) None) h.0, ((λ row place. refl), (λ kept change. refl))))
        (λ (h : ((batch.revision == 9999) ≡ false) × (batch.revision ≢ 9999)).
        inr (ap (λ b. cond b (Some Spent) None) h.0, h.1))
        tells

-- the row is right after its batch's change
abbrev RightAfter : List Entry → Entry → Option Row → Change → Reply → Type 0
RightAfter es e o change answer =
    IfSome (index_after o answer (length es)) (IsRow (es ++ e ∷ []))
    × (option_map (kept_by (es ++ e ∷ [])) (index_after o answer (length es))
    ≡ change_after (option_map (kept_by es) o) change answer)

kept_right :
    (es : List Entry) (e : Entry) (row : Row) (change : Change) (answer : Reply) → Keeps answer → IsRow es row
    → RightAfter es e (Some row) change answer
kept_right es e row change answer keeps is =
    let same = unchanged es e (Some row) is in (
      subst (λ r. IsRow (es ++ e ∷ []) r) (sym (keeps.0 row (length es))) same.0,
      ap (λ r. Some (kept_by (es ++ e ∷ []) r)) (keeps.0 row (length es))
          ∙ (same.1 ∙ sym (keeps.1 (Some (kept_by es row)) change)),
    )

last_ballots :
    (es : List Entry) (e : Entry) (change : Change) → e.call ≡ Changes change
    → ballots_at (es ++ e ∷ []) (Some (length es)) ≡ ballots_of change
last_ballots es e change is = ap entry_ballots (get_last es e) ∙ ap call_ballots is

right :
    (es : List Entry) (e : Entry) (o : Option Row) (change : Change) (answer : Reply)
    → e.call ≡ Changes change → IfSome o (IsRow es) → answer ≡ change_reply (option_map (kept_by es) o) change
    → RightAfter es e o change answer
right es e None (Enter number ballots) answer is fits answered =
    subst (λ r. RightAfter es e None (Enter number ballots) r) (sym answered) (
      (lit, ap is_some (last_ballots es e (Enter number ballots) is)),
      ap (λ s. Some (record { revision = 1; standing = s })) (last_ballots es e (Enter number ballots) is),
    )
  where
    lit : 1 ≤ 9999
    lit = omega arith
right es e None (Correct number revision ballots) answer is fits answered =
    subst (λ r. RightAfter es e None (Correct number revision ballots) r) (sym answered) (tt, refl)
right es e None (Withdraw number revision) answer is fits answered =
    subst (λ r. RightAfter es e None (Withdraw number revision) r) (sym answered) (tt, refl)
right es e (Some row) (Enter number ballots) answer is fits answered =
    subst (λ r. RightAfter es e (Some row) (Enter number ballots) r) (sym answered)
    (kept_right es e row (Enter number ballots) (Exists row.revision) ((λ r place. refl), (λ kept change. refl)) fits)
right es e (Some row) (Correct number revision ballots) answer is fits answered =
    subst (λ r. RightAfter es e (Some row) (Correct number revision ballots) r) (sym answered) (⊎_elim
    (λ (h : (x : Reply) × (refusal (kept_by es row) revision ≡ Some x) × Keeps x).
    subst (λ o. RightAfter es e (Some row) (Correct number revision ballots)
    (unwrap_or o (Corrected (row.revision + 1)))) (sym h.1)
    (kept_right es e row (Correct number revision ballots) h.0 h.2 fits))
    (λ (h : (refusal (kept_by es row) revision ≡ None) × (row.revision ≢ 9999)).
    let next : row.revision + 1 ≤ 9999 = let ne = h.1 in let le = fits.0 in omega arith in
    let last = last_ballots es e (Correct number revision ballots) is in
    subst (λ o. RightAfter es e (Some row) (Correct number revision ballots)
    (unwrap_or o (Corrected (row.revision + 1)))) (sym h.0)
    ((next, ap is_some last), ap (λ s. Some (record { revision = row.revision + 1; standing = s })) last))
    (refusals (kept_by es row) revision))
right es e (Some row) (Withdraw number revision) answer is fits answered =
    subst (λ r. RightAfter es e (Some row) (Withdraw number revision) r) (sym answered) (⊎_elim
    (λ (h : (x : Reply) × (refusal (kept_by es row) revision ≡ Some x) × Keeps x).
    subst (λ o. RightAfter es e (Some row) (Withdraw number revision)
    (unwrap_or o (Withdrawn (row.revision + 1)))) (sym h.1)
    (kept_right es e row (Withdraw number revision) h.0 h.2 fits))
    (λ (h : (refusal (kept_by es row) revision ≡ None) × (row.revision ≢ 9999)).
    let next : row.revision + 1 ≤ 9999 = let ne = h.1 in let le = fits.0 in omega arith in
    subst (λ o. RightAfter es e (Some row) (Withdraw number revision)
    (unwrap_or o (Withdrawn (row.revision + 1)))) (sym h.0) ((next, refl), refl))
    (refusals (kept_by es row) revision))

-- the index after one entry more
pub rows_more :
    (es : List Entry) (e : Entry) (change : Change) (index next : ℕ → Option Row) (book : BookState)
    → e.call ≡ Changes change → AreRows es index book
    → e.reply ≡ change_reply (option_map outline (index (batch_of change))) change
    → ((b : ℕ) → next b ≡ cond (batch_of change == b) (index_after (index (batch_of change)) e.reply (length es)) (index b))
    → AreRows (es ++ e ∷ []) next (after book (Changes change))
rows_more es e change index next book is rows answered updates b =
    let k = batch_of change in
    let here = rows k in
    let replied : e.reply ≡ change_reply (option_map (kept_by es) (index k)) change =
    answered ∙ reply-alike es (index k) change here.0 in
    let same_reply :
    change_reply (option_map (kept_by es) (index k)) change ≡ change_reply (book.batches k) change =
    ap (λ kept. change_reply kept change) here.1 in
    ⊎_elim
    (λ (h : ((k == b) ≡ true) × (k ≡ b)).
    let now : next b ≡ index_after (index k) e.reply (length es) =
    updates b ∙ ap (λ t. cond t (index_after (index k) e.reply (length es)) (index b)) h.0 in
    let ok = right es e (index k) change e.reply is here.0 replied in
    let book_now :
    change_after (option_map (kept_by es) (index k)) change e.reply
    ≡ (after book (Changes change)).batches b =
    (λ i. change_after (here.1 i) change ((replied ∙ same_reply) i))
    ∙ sym (ap (λ t. cond t (change_after (book.batches k) change (change_reply (book.batches k) change))
    (book.batches b)) (eq-eqb b k (sym h.1))) in (
      subst (λ o. IfSome o (IsRow (es ++ e ∷ []))) (sym now) ok.0,
      ap (option_map (kept_by (es ++ e ∷ []))) now ∙ (ok.1 ∙ book_now),
    ))
    (λ (h : ((k == b) ≡ false) × (k ≢ b)).
    let now : next b ≡ index b = updates b ∙ ap (λ t. cond t (index_after (index k) e.reply (length es)) (index b)) h.0 in
    let ok = unchanged es e (index b) (rows b).0 in
    let book_now : book.batches b ≡ (after book (Changes change)).batches b =
    sym (ap (λ t. cond t (change_after (book.batches k) change (change_reply (book.batches k) change))
    (book.batches b)) (ne_eqb b k (λ e. h.1 (sym e)))) in (
      subst (λ o. IfSome o (IsRow (es ++ e ∷ []))) (sym now) ok.0,
      ap (option_map (kept_by (es ++ e ∷ []))) now ∙ (ok.1 ∙ ((rows b).1 ∙ book_now)),
    ))
    (eqb_tells k b)

-- the reply that the plain book gives
pub replied :
    (es : List Entry) (change : Change) (answer : Reply) (index : ℕ → Option Row) (book : BookState)
    → AreRows es index book → answer ≡ change_reply (option_map outline (index (batch_of change))) change
    → answer ≡ reply book (Changes change)
replied es change answer index book rows answered =
    answered
    ∙ (reply-alike es (index (batch_of change)) change (rows (batch_of change)).0
    ∙ ap (λ kept. change_reply kept change) (rows (batch_of change)).1)

-- the entries stay those of the shard
pub of_shard_more :
    GrowsByAnAnswer → (candidates shards shard : ℕ) (es : List Entry) (e : Entry)
    → AreOfShard candidates shards shard es → e.reply ≡ reply (after_all empty es) e.call
    → is_of_shard shards shard e.call ≡ true → MayStep candidates e.call
    → AreOfShard candidates shards shard (es ++ e ∷ [])
of_shard_more grows candidates shards shard es e are is own lawful = record {
  legal = grows es e are.legal is;
  changes = All-push (λ (f : Entry). is_of_shard shards shard f.call ≡ true) es e are.changes own;
  lawful = All-push (λ (f : Entry). MayStep candidates f.call) es e are.lawful lawful;
}

-- the lines of a batch are those of the entry that its row points to
pub row_lines :
    (es : List Entry) (index : ℕ → Option Row) (book : BookState) → AreRows es index book → (k : ℕ)
    → ballot_lines (ballots_at es (standing_place (index k))) ≡ lines_of (book.batches k)
row_lines es index book rows k = of_row (index k) ∙ ap lines_of (rows k).1
  where
    of_row : (o : Option Row) → ballot_lines (ballots_at es (standing_place o)) ≡ lines_of (option_map (kept_by es) o)
    of_row None = refl
    of_row (Some row) = refl

pub place_lines :
    (es : List Entry) (index : ℕ → Option Row) (book : BookState) → AreRows es index book
    → (k batch : ℕ) (place : Option ℕ) → batch ≡ k → place ≡ standing_place (index batch)
    → ballot_lines (ballots_at es place) ≡ lines_of (book.batches k)
place_lines es index book rows k batch place here is =
    ap (λ p. ballot_lines (ballots_at es p)) is
    ∙ (row_lines es index book rows batch ∙ ap (λ b. lines_of (book.batches b)) here)
