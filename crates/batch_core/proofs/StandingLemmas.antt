-- What stands after one change.
use Rattle.std.proofs.Common.{◌≡◌, ◌≢◌, ℕ, zero, suc, ◌+◌, ◌<◌, ◌≤◌, ◌==◌, true, false, cond, List, ◌++◌}
use Rattle.std.proofs.Common.{refl, sym, ap, ◌∙◌, subst, ⊎_elim, arith, ne_eqb, append_assoc}
use Rattle.std.specs.Prelude.{IsPermutation}
use Rattle.std.specs.List.{flat_map, range_with_len}
use Rattle.std.proofs.lemmas.Bool.Decides.{eqb_tells}
use Rattle.std.proofs.lemmas.List.Sorted.{IsPermutation-trans, IsPermutation-append_comm, IsPermutation-append_right}
use Rattle.batch_core.specs.declared.change.Change.{Change}
use Rattle.batch_core.specs.declared.call.Call.TheVariants.{Change as Changes}
use Rattle.batch_core.specs.Book.{BookState, after, batch_of, change_reply, change_after, lines_of, standing, last_batch}
use Rattle.batch_core.specs.Lawful.{IsInRange}

module _ {X : Type 0} where
  -- pieces that are the same from place a on
  pub same_pieces :
      (f g : ℕ → List X) (k : ℕ) → ((b : ℕ) → b ≢ k → g b ≡ f b) → (n a : ℕ) → k < a
      → flat_map g (range_with_len a n) ≡ flat_map f (range_with_len a n)
  same_pieces f g k else zero a lt = refl
  same_pieces f g k else (suc n) a lt = λ i. else a (λ e. omega arith) i ++ same_pieces f g k else n (a + 1) (omega arith) i

  -- one piece replaced_at by another
  pub one_replaced :
      (f g : ℕ → List X) (k : ℕ) → ((b : ℕ) → b ≢ k → g b ≡ f b) → (n a : ℕ) → a ≤ k → k < a + n
      → IsPermutation (flat_map g (range_with_len a n) ++ f k) (flat_map f (range_with_len a n) ++ g k)
  one_replaced f g k else zero a le lt = absurd (omega arith)
  one_replaced f g k else (suc n) a le lt = ⊎_elim
      (λ (h : ((a == k) ≡ true) × (a ≡ k)).
      let e = h.1 in
      let after = flat_map f (range_with_len (a + 1) n) in
      let same : flat_map g (range_with_len (a + 1) n) ≡ after = same_pieces f g k else n (a + 1) (omega arith) in
      let turned : IsPermutation ((g k ++ after) ++ f k) (f k ++ (g k ++ after)) =
      IsPermutation-append_comm (g k ++ after) (f k) in
      let ends : IsPermutation (f k ++ (g k ++ after)) (f k ++ (after ++ g k)) =
      IsPermutation-append_right (f k) (g k ++ after) (after ++ g k)
      (IsPermutation-append_comm (g k) after) in
      let whole : IsPermutation ((g k ++ after) ++ f k) ((f k ++ after) ++ g k) =
      subst (λ l. IsPermutation ((g k ++ after) ++ f k) l) (sym (append_assoc (f k) after (g k)))
      (IsPermutation-trans ((g k ++ after) ++ f k) (f k ++ (g k ++ after)) (f k ++ (after ++ g k)) turned
      ends) in
      let left : (g k ++ after) ++ f k ≡ (g a ++ flat_map g (range_with_len (a + 1) n)) ++ f k =
      λ i. (ap g (sym e) i ++ sym same i) ++ f k in
      let right : (f k ++ after) ++ g k ≡ (f a ++ after) ++ g k = λ i. (ap f (sym e) i ++ after) ++ g k in
      subst (λ l. IsPermutation l ((f a ++ after) ++ g k)) left
      (subst (λ l. IsPermutation ((g k ++ after) ++ f k) l) right whole))
      (λ (h : ((a == k) ≡ false) × (a ≢ k)).
      let ne = h.1 in
      let gs = flat_map g (range_with_len (a + 1) n) in
      let fs = flat_map f (range_with_len (a + 1) n) in
      let more : IsPermutation (f a ++ (gs ++ f k)) (f a ++ (fs ++ g k)) =
      IsPermutation-append_right (f a) (gs ++ f k) (fs ++ g k)
      (one_replaced f g k else n (a + 1) (omega arith) (omega arith)) in
      let left : f a ++ (gs ++ f k) ≡ (g a ++ gs) ++ f k =
      sym (append_assoc (f a) gs (f k)) ∙ (λ i. (sym (else a ne) i ++ gs) ++ f k) in
      subst (λ l. IsPermutation l ((f a ++ fs) ++ g k)) left
      (subst (λ l. IsPermutation (f a ++ (gs ++ f k)) l) (sym (append_assoc (f a) fs (g k))) more))
      (eqb_tells a k)

numbered : (k : ℕ) → IsInRange k → k < 1 + last_batch
unfolding last_batch
numbered k range = omega (arith, range.1)

-- what stands after a change: the batch's lines before it are out, and its lines after it are in
pub standing_change : (book : BookState) (change : Change) → IsInRange (batch_of change)
    → IsPermutation (standing (after book (Changes change)) ++ lines_of (book.batches (batch_of change)))
    (standing book ++ lines_of ((after book (Changes change)).batches (batch_of change)))
standing_change book change range =
    let k = batch_of change in
    one_replaced (λ b. lines_of (book.batches b)) (λ b. lines_of ((after book (Changes change)).batches b)) k
    (λ b ne. ap lines_of (ap (λ t. cond t
    (change_after (book.batches k) change (change_reply (book.batches k) change)) (book.batches b))
    (ne_eqb b k ne)))
    last_batch 1 range.0 (numbered (batch_of change) range)
