-- How many batches stand, call by call.
use Rattle.std.proofs.Common.{◌≡◌, ◌≢◌, ◌⊎◌, ℕ, zero, suc, ◌+◌, ◌<◌, ◌≤◌, ◌==◌, Bool, true, false, cond, not}
use Rattle.std.proofs.Common.{[], ◌∷◌, count_by, refl, sym, ap, ◌∙◌, subst, inl, inr, ⊎_elim, arith, ne_eqb}
use Rattle.std.specs.Prelude.{Option, Some, None, is_none, unwrap_or}
use Rattle.std.specs.List.{range_with_len}
use Rattle.std.proofs.lemmas.Bool.{eq-eqb}
use Rattle.std.proofs.lemmas.Bool.Decides.{eqb_tells}
use Rattle.std.proofs.lemmas.List.Sums.{sum_by-append, count_by-le-length}
use Rattle.std.proofs.lemmas.List.FromFn.{length-range_with_len}
use Rattle.plain_ballots.specs.Ballots.{BallotList}
use Rattle.batch_core.specs.declared.batch.Batch.{Batch}
use Rattle.batch_core.specs.declared.change.Change.{Change}
use Rattle.batch_core.specs.declared.change.Change.TheVariants.{Enter, Correct, Withdraw}
use Rattle.batch_core.specs.declared.call.Call.{Call}
use Rattle.batch_core.specs.declared.call.Call.TheVariants.{Change as Changes, Freeze, Strike}
use Rattle.batch_core.specs.declared.reply.Reply.{Reply}
use Rattle.batch_core.specs.declared.reply.Reply.TheVariants.{Entered, Corrected, Withdrawn, Gone, Stale}
use Rattle.batch_core.specs.declared.reply.Reply.TheVariants.{Spent, Struck, AlreadyStruck}
use Rattle.batch_core.specs.Book.{BookState, empty, after, batch_of, change_reply, change_after, is_struck}
use Rattle.batch_core.specs.Book.{last_batch, reply}
use Rattle.day_sheets.specs.Standing.{HasNumber, come, gone}
use Rattle.day_sheets.specs.Summary.{stands, standing_batches}

-- ---- numbers in a range

abbrev bit : Bool → ℕ
bit b = cond b 1 0

count_first :
    (f : ℕ → Bool) (a n : ℕ)
    → count_by f (range_with_len a (suc n)) ≡ bit (f a) + count_by f (range_with_len (a + 1) n)
count_first f a n =
    let both : count_by f (range_with_len a (suc n)) ≡ 0 + bit (f a) + count_by f (range_with_len (a + 1) n) =
    sum_by-append (λ (b : ℕ). cond (f b) 1 0) (a ∷ []) (range_with_len (a + 1) n) in
    omega (arith, both)

-- tests that differ before a range alone count the same in it
same_behind :
    (f g : ℕ → Bool) (k : ℕ) → ((b : ℕ) → b ≢ k → g b ≡ f b) → (n a : ℕ) → k < a
    → count_by g (range_with_len a n) ≡ count_by f (range_with_len a n)
same_behind f g k else zero a above = refl
same_behind f g k else (suc n) a above =
    let here = ap bit (else a (λ e. omega (arith, e, above))) in
    let rest = same_behind f g k else n (a + 1) (omega (arith, above)) in
    omega (arith, count_first f a n, count_first g a n, here, rest)

-- of tests that differ at one number the counts differ as there
one_differs : (f g : ℕ → Bool) (k : ℕ) → ((b : ℕ) → b ≢ k → g b ≡ f b) → (n a : ℕ) → a ≤ k → k < a + n
    → count_by g (range_with_len a n) + bit (f k) ≡ count_by f (range_with_len a n) + bit (g k)
one_differs f g k else zero a least below = absurd (omega (arith, least, below))
one_differs f g k else (suc n) a least below =
    ⊎_elim
    (λ (is : ((a == k) ≡ true) × (a ≡ k)).
    let rest = same_behind f g k else n (a + 1) (omega (arith, is.1)) in
    let old = ap (λ (b : ℕ). bit (f b)) is.1 in
    let new = ap (λ (b : ℕ). bit (g b)) is.1 in
    omega (arith, count_first f a n, count_first g a n, old, new, rest))
    (λ (is : ((a == k) ≡ false) × (a ≢ k)).
    let here = ap bit (else a is.1) in
    let other = is.1 in
    let later : a + 1 ≤ k = omega (arith, least, other) in
    let rest = one_differs f g k else n (a + 1) later (omega (arith, below)) in
    omega (arith, count_first f a n, count_first g a n, here, rest))
    (eqb_tells a k)

-- ---- one change

-- what a change makes of its batch, by its reply
abbrev Keeps : Option Batch → Change → Reply → Type 0
Keeps kept change r = bit (stands (change_after kept change r)) + gone r ≡ bit (stands kept) + come r

corrects_if : (batch : Batch) (number revision : ℕ) (ballots : BallotList) (none stale spent : Bool)
    → (none ≡ false → stands (Some batch) ≡ true)
    → Keeps (Some batch) (Correct number revision ballots)
    (unwrap_or (cond none (Some (Gone batch.revision))
    (cond stale (Some (Stale batch.revision)) (cond spent (Some Spent) None)))
    (Corrected (batch.revision + 1)))
corrects_if batch number revision ballots true stale spent some = refl
corrects_if batch number revision ballots false true spent some = refl
corrects_if batch number revision ballots false false true some = refl
corrects_if batch number revision ballots false false false some = ap (λ (b : Bool). bit b + 0) (sym (some refl))

withdraws_if : (batch : Batch) (number revision : ℕ) (none stale spent : Bool)
    → (none ≡ false → stands (Some batch) ≡ true)
    → Keeps (Some batch) (Withdraw number revision)
    (unwrap_or (cond none (Some (Gone batch.revision))
    (cond stale (Some (Stale batch.revision)) (cond spent (Some Spent) None)))
    (Withdrawn (batch.revision + 1)))
withdraws_if batch number revision true stale spent some = refl
withdraws_if batch number revision false true spent some = refl
withdraws_if batch number revision false false true some = refl
withdraws_if batch number revision false false false some = ap (λ (b : Bool). bit b + 0) (sym (some refl))

stands_if :
    (standing : Option BallotList) (revision : ℕ) → is_none standing ≡ false
    → stands (Some (record { revision = revision; standing = standing })) ≡ true
stands_if None revision some = absurd (cc)
stands_if (Some ballots) revision some = refl

keeps : (kept : Option Batch) (change : Change) → Keeps kept change (change_reply kept change)
keeps None (Enter number ballots) = refl
keeps None (Correct number revision ballots) = refl
keeps None (Withdraw number revision) = refl
keeps (Some batch) (Enter number ballots) = refl
keeps (Some batch) (Correct number revision ballots) =
    corrects_if batch number revision ballots (is_none batch.standing) (not (revision == batch.revision))
    (batch.revision == 9999) (stands_if batch.standing batch.revision)
keeps (Some batch) (Withdraw number revision) =
    withdraws_if batch number revision (is_none batch.standing) (not (revision == batch.revision))
    (batch.revision == 9999) (stands_if batch.standing batch.revision)

last : last_batch ≡ 9999
unfolding last_batch
last = refl

numbered : (k : ℕ) → k ≤ 9999 → k < 1 + last_batch
numbered k most =
    let is = last in
    omega (arith, most, is)

changes : (book : BookState) (change : Change) → HasNumber (Changes change)
    → standing_batches (after book (Changes change)) + gone (change_reply (book.batches (batch_of change)) change)
    ≡ standing_batches book + come (change_reply (book.batches (batch_of change)) change)
changes book change number =
    let k = batch_of change in
    let kept = book.batches k in
    let answer = change_reply kept change in
    let then' = change_after kept change answer in
    let new : ℕ → Bool = λ b. stands ((after book (Changes change)).batches b) in
    let elsewhere : (b : ℕ) → b ≢ k → new b ≡ stands (book.batches b) =
    λ b other. ap stands (ap (λ (t : Bool). cond t then' (book.batches b)) (ne_eqb b k other)) in
    let here : new k ≡ stands then' = ap stands (ap (λ (t : Bool). cond t then' kept) (eq-eqb k k refl)) in
    let differs = one_differs (λ b. stands (book.batches b)) new k elsewhere last_batch 1 number.0 (numbered k number.1) in
    let is = ap bit here in
    let step = keeps kept change in
    omega (arith, differs, is, step)

strikes_none :
    (already : Bool)
    → (come (cond already AlreadyStruck Struck) ≡ 0) × (gone (cond already AlreadyStruck Struck) ≡ 0)
strikes_none true = (refl, refl)
strikes_none false = (refl, refl)

-- One call more: a batch comes to stand, or one goes, or neither.
pub stands_then : (book : BookState) (call : Call) → HasNumber call
    → standing_batches (after book call) + gone (reply book call) ≡ standing_batches book + come (reply book call)
stands_then book (Changes change) number = changes book change number
stands_then book Freeze number = refl
stands_then book (Strike candidate) number =
    let none = strikes_none (is_struck book.struck candidate) in
    let came = none.0 in
    let went = none.1 in
    omega (arith, came, went)

-- no call does both
never_both : (r : Reply) → (gone r ≡ 0) ⊎ (come r ≡ 0)
never_both (Withdrawn revision) = inr refl
never_both Entered = inl refl
never_both other = inl refl

-- a batch that goes stood before
pub some_go : (book : BookState) (call : Call) → HasNumber call → gone (reply book call) ≤ standing_batches book
some_go book call number =
    let step = stands_then book call number in
    ⊎_elim
    (λ (none : gone (reply book call) ≡ 0). omega (arith, none))
    (λ (none : come (reply book call) ≡ 0). omega (arith, none, step))
    (never_both (reply book call))

none_in : (n a : ℕ) → count_by (λ b. false) (range_with_len a n) ≡ 0
none_in zero a = refl
none_in (suc n) a =
    let rest = none_in n (a + 1) in
    omega (arith, count_first (λ b. false) a n, rest)

-- nothing is in the empty book
pub none_stand : standing_batches empty ≡ 0
none_stand = none_in last_batch 1

-- no more batches stand than there are numbers
pub few_stand : (book : BookState) → standing_batches book ≤ 9999
few_stand book =
    subst (λ (n : ℕ). standing_batches book ≤ n) (length-range_with_len 1 last_batch ∙ last)
    (count_by-le-length (λ b. stands (book.batches b)) (range_with_len 1 last_batch))
