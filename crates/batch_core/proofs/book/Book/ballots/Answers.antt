use Rattle.std.proofs.Common.{◌≡◌, ℕ, List, ◌++◌, sym, ap, ◌∙◌, subst}
use Rattle.std.specs.Map.{values_of}
use Rattle.std.proofs.lemmas.List.Elements.{All-head, All-tail}
use Rattle.plain_ballots.specs.Ballots.{BallotList}
use Rattle.batch_core.specs.declared.batch.Batch.{Batch}
use Rattle.batch_core.specs.Book.{BookList, by_number, standing, state_of}
use Rattle.batch_core.specs.Lawful.{AreKept, AreOfBatch}
use Rattle.batch_core.proofs.OrderLemmas.{all_lines, AreOfBatches, by_values, all_fit, room_for, lines_more}
use Rattle.batch_core.proofs.book.Book.ballots.Goals as goal

pub loop-batch-init : goal.loop-batch-init
loop-batch-init c =
    let es = c.self.inside.batches.entries in
    let items : c.into_iter-batch-iterator.result ≡ values_of es =
    c.into_iter-batch-iterator.ensures.into_iter_gives ∙ c.values-batch-items.ensures.rest in
    let number : c.self.inside.candidates ≡ c.args.self.now.candidates =
    ap (λ (b : BookList). b.candidates) c.self.view_is in
    let all : AreOfBatches c.self.inside.candidates (values_of es) =
    all_fit c.self.inside.candidates es c.values-batch-items.ensures.ordered c.self.invariant in (
      ap (λ (b : BallotList). b.candidates) c.new-ballots.ensures ∙ number,
      (λ i. (ap (λ (b : BallotList). b.lines) c.new-ballots.ensures i) ++ all_lines (items i))
          ∙ (by_values c.self.inside.candidates c.self.inside.struck.items es
          c.values-batch-items.ensures.ordered c.self.invariant
          ∙ ap (λ (b : BookList). standing (state_of b)) c.self.view_is),
      subst (λ (n : ℕ). AreOfBatches n c.into_iter-batch-iterator.result) number
          (subst (AreOfBatches c.self.inside.candidates) (sym items) all),
    )

pub append-requires-clause-batch : goal.append-requires-clause-batch
append-requires-clause-batch c =
    let left = subst (AreOfBatches c.args.self.now.candidates) c.in-Some.ensures.steps c.loop-batch.invariant.2 in
    subst (λ (n : ℕ). AreOfBatch n c.in-Some.batch.now.standing) (sym c.loop-batch.invariant.0)
    (All-head (λ (b : Batch). AreOfBatch c.args.self.now.candidates b.standing) c.in-Some.batch.now
    c.next.new.self left)

pub append-requires-clause-room : goal.append-requires-clause-room
append-requires-clause-room c =
    let kept = subst (λ (b : BookList). AreKept b.candidates (by_number b.batches)) c.self.view_is c.self.invariant in
    let so_far =
    subst (λ (l : List Batch). c.loop-batch.ballots.lines ++ all_lines l
    ≡ standing (state_of c.args.self.now)) c.in-Some.ensures.steps c.loop-batch.invariant.1 in
    room_for c.args.self.now.candidates (state_of c.args.self.now) c.loop-batch.ballots.lines
    c.in-Some.batch.now c.next.new.self kept so_far

pub loop-batch-preserved : goal.loop-batch-preserved
loop-batch-preserved c =
    let so_far =
    subst (λ (l : List Batch). c.loop-batch.ballots.lines ++ all_lines l
    ≡ standing (state_of c.args.self.now)) c.in-Some.ensures.steps c.loop-batch.invariant.1 in
    let left = subst (AreOfBatches c.args.self.now.candidates) c.in-Some.ensures.steps c.loop-batch.invariant.2 in (
      c.append.ensures.candidates ∙ c.loop-batch.invariant.0,
      lines_more c.loop-batch.ballots.lines c.append.new.ballots.lines c.in-Some.batch.now c.next.new.self
          (standing (state_of c.args.self.now)) so_far c.in_ok-append.ensures.lines,
      All-tail (λ (b : Batch). AreOfBatch c.args.self.now.candidates b.standing) c.in-Some.batch.now c.next.new.self left,
    )
