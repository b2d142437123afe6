use Rattle.std.proofs.Common.{◌≡◌, ℕ, List, Some, rules, ap, ◌∙◌, subst, cond}
use Rattle.std.specs.Prelude.{OnOk, IsSome, is_some}
use Rattle.std.specs.BTreeMap.{is_at}
use Rattle.std.specs.Ordering.{nat_cmp}
use Rattle.batch_core.specs.declared.batch.Batch.{Batch}
use Rattle.batch_core.specs.Book.{by_number, changed, batch_of, BookList}
use Rattle.batch_core.proofs.BookLemmas.{changed_is}
use Rattle.batch_core.proofs.book.Book.change.Goals as goal

-- the batch is replaced_at in place
pub returns-in-Some-clause-state : goal.returns-in-Some-clause-state
returns-in-Some-clause-state c =
    let here : c.self.inside.batches.entries ≡ c.args.self.now.batches = ap (λ (b : BookList). b.batches) c.self.view_is in
    let found : by_number c.self.inside.batches.entries c.batch-batch.result ≡ Some c.in-Some.kept.now = search rules in
    let some : IsSome (by_number c.self.inside.batches.entries c.batch-batch.result) = ap (λ o. is_some o) found in
    let at : (b : ℕ) → by_number (c.get_mut.follows.lender c.change.new.self).entries b ≡ cond
    (is_at (nat_cmp c.batch-batch.result) b) (Some c.change.new.self)
    (by_number c.self.inside.batches.entries b)
    = ((c.get_mut.follows.holds c.change.new.self).3 some).0 in
    let number : c.batch-batch.result ≡ batch_of c.args.change = c.batch-batch.ensures in
    let at' =
    subst (λ (k : ℕ). (b : ℕ)
    → by_number (c.get_mut.follows.lender c.change.new.self).entries b
    ≡ cond (is_at (nat_cmp k) b) (Some c.change.new.self)
    (by_number c.self.inside.batches.entries b)) number at in
    let found' = subst (λ (k : ℕ). by_number c.self.inside.batches.entries k ≡ Some c.in-Some.kept.now) number found in
    let next =
    changed_is c.self.inside.batches.entries (c.get_mut.follows.lender c.change.new.self).entries
    c.args.change c.in-Some.kept.now c.change.new.self c.change.result found' c.change.ensures.answered
    c.change.ensures.kept at' in
    subst (λ (old : List (ℕ × Batch)). by_number (c.get_mut.follows.lender c.change.new.self).entries
    ≡ changed (by_number old) c.args.change) here next

-- the batch is entered, or nothing changes
pub returns-in-None-clause-state : goal.returns-in-None-clause-state
returns-in-None-clause-state c =
    let same : c.get_mut.follows.lender-at-none.entries ≡ c.args.self.now.batches =
    ap (λ m. m.entries) c.get_mut.follows.holds-at-none
    ∙ ap (λ (b : BookList). b.batches) c.self.view_is in
    subst (λ (old : List (ℕ × Batch)). OnOk c.change_absent.result
    (by_number c.change_absent.new.self.batches ≡ changed (by_number old) c.args.change)) same
    c.change_absent.ensures.state
