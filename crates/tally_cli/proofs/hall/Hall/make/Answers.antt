use Rattle.std.proofs.Common.{rules, ◌≡◌, ◌∙◌, ℕ, ◌-◌, set, refl, sym, ap, subst, Some}
use Rattle.shard_book.specs.Shard.{ShardState}
use Rattle.tally_board.specs.Desk.{Desk}
use Rattle.tally_board.specs.Moves.{totals_after}
use Rattle.tally_cli.specs.declared.hall.Hall.{Hall}
use Rattle.tally_cli.specs.Shown.{AreExchanged, CanExchange, IsLeft, kept_for}
use Rattle.tally_cli.proofs.Results.{on_ok}
use Rattle.tally_cli.proofs.ShownSteps.{Laws, IsEntered, may_exchange, accepted, refused}
use Rattle.tally_cli.proofs.hall.Hall.make.Goals as goal

pub show-requires-clause-exchange : goal.show-requires-clause-exchange
show-requires-clause-exchange g c =
    let hall : Hall = c.args.self.now in
    let laws : Laws = record {
      grows = c.a_book_answers_a_history.ensures.legal;
      leads = c.a_book_answers_a_history.ensures.book;
      stands = c.a_book_answers_a_history.ensures.standing;
      replaced = c.lawful_calls_leave_lawful_batches.ensures.replaced;
      few = c.lawful_calls_leave_lawful_batches.ensures.few;
    } in
    let new : Hall = record { book = c.enter.new.book; scribe = hall.scribe; kept = hall.kept } in
    let entered : IsEntered hall new c.args.team c.args.change.now c.in_ok-reply.reply = record {
      lawful = c.requires.lawful;
      candidates = c.enter.ensures.candidates;
      shard = c.enter.ensures.shard;
      shards = c.enter.ensures.shards;
      answered = c.in_ok-reply.ensures.answered;
      entries = c.in_ok-reply.ensures.entries;
    } in
    let left : IsLeft c.args.change.now c.in_ok-reply.reply (Some c.in-Some.ballots) =
    subst (IsLeft c.args.change.now c.in_ok-reply.reply) c.in-Some.is c.in_ok-ballots.ensures.left in
    subst (λ (z : ℕ × ℕ). CanExchange z.0 (totals_after z.0 hall.scribe.published)
    (kept_for z.0 hall.kept.items z.1).lines c.in-Some.ballots.lines)
    (λ i. (sym c.requires.shown.candidates i, sym c.batch.ensures i))
    (may_exchange laws hall new c.args.team c.args.change.now c.in_ok-reply.reply c.in-Some.ballots
    c.requires.shown entered left)

pub returns-in-Some-clause-shown : goal.returns-in-Some-clause-shown
returns-in-Some-clause-shown g c =
    let hall : Hall = c.args.self.now in
    let laws : Laws = record {
      grows = c.a_book_answers_a_history.ensures.legal;
      leads = c.a_book_answers_a_history.ensures.book;
      stands = c.a_book_answers_a_history.ensures.standing;
      replaced = c.lawful_calls_leave_lawful_batches.ensures.replaced;
      few = c.lawful_calls_leave_lawful_batches.ensures.few;
    } in
    let book = c.show.ensures.book in
    let entered : IsEntered hall c.show.new.self c.args.team c.args.change.now c.in_ok-reply.reply = record {
      lawful = c.requires.lawful;
      candidates = ap (λ (b : ShardState). b.candidates) book ∙ c.enter.ensures.candidates;
      shard = ap (λ (b : ShardState). b.shard) book ∙ c.enter.ensures.shard;
      shards = ap (λ (b : ShardState). b.shards) book ∙ c.enter.ensures.shards;
      answered = c.in_ok-reply.ensures.answered;
      entries = ap (λ (b : ShardState). b.entries) book ∙ c.in_ok-reply.ensures.entries;
    } in
    let left : IsLeft c.args.change.now c.in_ok-reply.reply (Some c.in-Some.ballots) =
    subst (IsLeft c.args.change.now c.in_ok-reply.reply) c.in-Some.is c.in_ok-ballots.ensures.left in
    let candidates : c.in-Some.ballots.candidates ≡ hall.book.candidates = search rules in
    on_ok c.show.result _ _ _ _
    (λ kept board totals.
    accepted laws hall c.show.new.self c.args.team c.args.change.now c.in_ok-reply.reply c.in-Some.ballots
    c.requires.shown entered left candidates
    (kept ∙ ap (λ (k : ℕ). set hall.kept.items (k - 1) c.in-Some.ballots) c.batch.ensures)
    (ap (λ (d : Desk). d.candidates) board) (ap (λ (d : Desk). d.pending) board ∙ c.requires.shown.pending)
    (subst (λ (z : ℕ × ℕ). AreExchanged z.0 (totals_after z.0 hall.scribe.published)
    (kept_for z.0 hall.kept.items z.1).lines c.in-Some.ballots.lines
    (totals_after z.0 c.show.new.self.scribe.published))
    (λ i. (c.requires.shown.candidates i, c.batch.ensures i)) totals))
    c.show.ensures.kept c.show.ensures.scribe c.show.ensures.totals

pub returns-in-None-clause-shown : goal.returns-in-None-clause-shown
returns-in-None-clause-shown g c =
    let hall : Hall = c.args.self.now in
    let laws : Laws = record {
      grows = c.a_book_answers_a_history.ensures.legal;
      leads = c.a_book_answers_a_history.ensures.book;
      stands = c.a_book_answers_a_history.ensures.standing;
      replaced = c.lawful_calls_leave_lawful_batches.ensures.replaced;
      few = c.lawful_calls_leave_lawful_batches.ensures.few;
    } in
    let new : Hall = record { book = c.enter.new.book; scribe = hall.scribe; kept = hall.kept } in
    let entered : IsEntered hall new c.args.team c.args.change.now c.in_ok-reply.reply = record {
      lawful = c.requires.lawful;
      candidates = c.enter.ensures.candidates;
      shard = c.enter.ensures.shard;
      shards = c.enter.ensures.shards;
      answered = c.in_ok-reply.ensures.answered;
      entries = c.in_ok-reply.ensures.entries;
    } in
    refused laws hall new c.args.team c.args.change.now c.in_ok-reply.reply c.requires.shown entered
    (subst (IsLeft c.args.change.now c.in_ok-reply.reply) c.in-None.is c.in_ok-ballots.ensures.left) refl refl
