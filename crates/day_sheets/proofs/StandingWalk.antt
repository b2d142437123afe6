-- How many batches stand after the first calls of a history, and what is left of it.
use Rattle.std.proofs.Common.{◌≡◌, ℕ, ◌+◌, ◌<◌, ◌≤◌, List, ◌∷◌, length, drop, get_or, refl, sym, ap, ◌∙◌, subst, arith}
use Rattle.std.proofs.lemmas.List.{drop_more}
use Rattle.std.proofs.lemmas.List.Elements.{All-head, All-tail}
use Rattle.batch_core.specs.declared.entry.Entry.{Entry}
use Rattle.batch_core.specs.Book.{BookState, empty, after}
use Rattle.batch_core.specs.Histories.{after_all, IsAnsweredBy, IsLegal}
use Rattle.batch_core.specs.declared.reply.Reply.{Reply}
use Rattle.day_sheets.specs.Standing.{HasNumber, HaveNumbers, come, gone}
use Rattle.day_sheets.specs.Summary.{standing_batches}
use Rattle.day_sheets.proofs.StandingBatches.{stands_then, some_go, few_stand, none_stand}

-- so many batches stand in the book that the first calls led to, and these calls are left
pub record HasWalked (history left : List Entry) (standing : ℕ) : Type 0 where
  pub book : BookState
  pub counted : standing ≡ standing_batches book
  pub answered : IsAnsweredBy book left
  pub numbers : HaveNumbers left
  pub onward : after_all book left ≡ after_all empty history

module _ {history left rest : List Entry} {standing : ℕ} {e : Entry}
    (so_far : HasWalked history left standing) (is : left ≡ e ∷ rest) where
  here : IsAnsweredBy so_far.book (e ∷ rest)
  here = subst (IsAnsweredBy so_far.book) is so_far.answered

  number : HasNumber e.call
  number = All-head (λ (x : Entry). HasNumber x.call) e rest (subst HaveNumbers is so_far.numbers)

  -- the batch that goes is one of those that stand
  pub may_go : gone e.reply ≤ standing
  may_go =
      subst (λ (n : ℕ). gone e.reply ≤ n) (sym so_far.counted)
      (subst (λ (r : Reply). gone r ≤ standing_batches so_far.book) (sym here.0) (some_go so_far.book e.call number))

  pub walked_on : (then' : ℕ) → then' + gone e.reply ≡ standing + come e.reply → HasWalked history rest then'
  walked_on then' step =
      let counts : standing_batches (after so_far.book e.call) + gone e.reply ≡ standing_batches so_far.book + come e.reply =
      subst (λ (r : Reply). standing_batches (after so_far.book e.call) + gone r
      ≡ standing_batches so_far.book + come r) (sym here.0) (stands_then so_far.book e.call number) in
      let before = so_far.counted in
      record {
        book = after so_far.book e.call;
        counted = omega (arith, step, counts, before);
        answered = here.1;
        numbers = All-tail (λ (x : Entry). HasNumber x.call) e rest (subst HaveNumbers is so_far.numbers);
        onward = ap (after_all so_far.book) (sym is) ∙ so_far.onward;
      }

pub walk_begins : (history : List Entry) → IsLegal history → HaveNumbers history → HasWalked history history 0
walk_begins history legal numbers = record {
  book = empty;
  counted = sym none_stand;
  answered = legal;
  numbers = numbers;
  onward = refl;
}

pub few : {history left : List Entry} {standing : ℕ} → HasWalked history left standing → standing ≤ 9999
few so_far = subst (λ (n : ℕ). n ≤ 9999) (sym so_far.counted) (few_stand so_far.book)

-- the next of the calls that are left
pub next_call :
    (history : List Entry) (i : ℕ) (e : Entry) → i < length history → e ≡ get_or history i e
    → drop i history ≡ e ∷ drop (i + 1) history
next_call history i e inside is = drop_more history i e inside ∙ ap (λ (x : Entry). x ∷ drop (i + 1) history) (sym is)
