-- A book's batches as a function of their numbers.
use Rattle.std.proofs.Common.{◌≡◌, ℕ, ◌==◌, cond, List, Option, Some, sym, ap, ◌∙◌, arith}
use Rattle.std.specs.BTreeMap.{is_at}
use Rattle.std.specs.Ordering.{nat_cmp}
use Rattle.std.proofs.lemmas.Bool.Decides.{nat_tests}
use Rattle.batch_core.specs.declared.batch.Batch.{Batch}
use Rattle.batch_core.specs.declared.change.Change.{Change}
use Rattle.batch_core.specs.declared.reply.Reply.{Reply}
use Rattle.batch_core.specs.Book.{by_number, replaced, changed, batch_of, change_reply, change_after}

pub at-is : (k b : ℕ) → is_at (nat_cmp k) b ≡ (b == k)
at-is k b = grind (arith, nat_tests)

-- a list of batches in which one was replaced
replaced_at :
    (old new : List (ℕ × Batch)) (k : ℕ) (w : Option Batch)
    → ((b : ℕ) → by_number new b ≡ cond (is_at (nat_cmp k) b) w (by_number old b))
    → by_number new ≡ replaced (by_number old) k w
replaced_at old new k w h i b = (h b ∙ ap (λ t. cond t w (by_number old b)) (at-is k b)) i

-- a list of batches after a change of one that was entered
pub changed_is :
    (old new : List (ℕ × Batch)) (change : Change) (kept w : Batch) (answer : Reply)
    → by_number old (batch_of change) ≡ Some kept
    → answer ≡ change_reply (Some kept) change → Some w ≡ change_after (Some kept) change answer
    → ((b : ℕ) → by_number new b ≡ cond (is_at (nat_cmp (batch_of change)) b) (Some w) (by_number old b))
    → by_number new ≡ changed (by_number old) change
changed_is old new change kept w answer at answered is h =
    replaced_at old new (batch_of change) (Some w) h
    ∙ ap (replaced (by_number old) (batch_of change)) (is
    ∙ (ap (change_after (Some kept) change) answered
    ∙ ap (λ o. change_after o change (change_reply o change)) (sym at)))
