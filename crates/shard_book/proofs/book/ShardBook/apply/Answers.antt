use Rattle.std.proofs.Common.{◌≡◌, ℕ, ◌==◌, true, cond, List, ◌++◌, ◌∷◌, [], length, sym, ap, ◌∙◌, subst, eq-eqb, refl}
use Rattle.std.specs.Prelude.{nat_eq}
use Rattle.std.specs.List.Sorted.{IsPermutation}
use Rattle.indexmap.specs.IndexMap.{get}
use Rattle.plain_ballots.specs.declared.ballot_line.BallotLine.{BallotLine}
use Rattle.plain_ballots.specs.Ballots.{plain}
use Rattle.batch_core.specs.declared.entry.Entry.{Entry}
use Rattle.batch_core.specs.declared.call.Call.TheVariants.{Change as Changes}
use Rattle.batch_core.specs.Book.{BookState, empty, reply, batch_of, ballot_lines, standing}
use Rattle.batch_core.specs.Histories.{after_all}
use Rattle.batch_core.specs.Lawful.{IsLawful}
use Rattle.batch_core.specs.Shards.{shard_of, is_of_shard}
use Rattle.ranking_trie.specs.BallotBag.{Holds}
use Rattle.shard_book.specs.Rows.{AreRows, index_after, ballots_at}
use Rattle.shard_book.specs.Shard.{AreOfShard, ShardState}
use Rattle.shard_book.proofs.EntryLemmas.{entry_of, trie_then, few_then}
use Rattle.shard_book.proofs.RowLemmas.{rows_more, replied, of_shard_more, place_lines}
use Rattle.shard_book.proofs.StandingLemmas.{holds_batch, in_range}
use Rattle.shard_book.proofs.book.ShardBook.apply.Given.{Over}
use Rattle.shard_book.proofs.book.ShardBook.apply.Goals as goal

pub follow-requires-clause-held : goal.follow-requires-clause-held
follow-requires-clause-held g c done =
    let old = c.self.inside.entries.items in
    let lines =
    place_lines old (get nat_eq c.self.inside.index) (after_all empty old) c.self.invariant.1
    (batch_of c.args.change) c.batch.result c.standing_place-place.result c.batch.ensures
    c.standing_place-place.ensures in
    subst (λ (l : List BallotLine). Holds c.self.inside.trie.ballots (plain l)) (sym lines)
    (holds_batch c.lawful_calls_leave_lawful_batches.ensures.replaced c.lines_stand_for_ballots.ensures.joined
    c.lines_stand_for_ballots.ensures.order (after_all empty old) (batch_of c.args.change)
    c.self.inside.trie.ballots
    (in_range c.args.self.now.candidates c.args.change c.requires.lawful) c.self.invariant.3)

pub follow-requires-clause-few : goal.follow-requires-clause-few
follow-requires-clause-few g c done =
    let old = c.self.inside.entries.items in
    let change = c.args.change in
    let index = get nat_eq c.self.inside.index in
    let lines =
    place_lines old index (after_all empty old) c.self.invariant.1 (batch_of change) c.batch.result
    c.standing_place-place.result c.batch.ensures c.standing_place-place.ensures in
    let candidates : c.self.inside.candidates ≡ c.args.self.now.candidates =
    ap (λ (b : ShardState). b.candidates) c.self.view_is in
    few_then c.lawful_calls_leave_lawful_batches.ensures.replaced
    c.lawful_calls_leave_lawful_batches.ensures.few c.a_book_answers_a_history.ensures.standing
    c.a_book_answers_a_history.ensures.book c.lines_stand_for_ballots.ensures.count
    c.self.inside.candidates old c.args.caller change c.answer-reply.result
    (ballot_lines (ballots_at old c.standing_place-place.result)) c.self.inside.trie.ballots
    (in_range c.args.self.now.candidates change c.requires.lawful) c.self.invariant.0.lawful
    (subst (λ (n : ℕ). IsLawful n change) (sym candidates) c.requires.lawful)
    (replied old change c.answer-reply.result index (after_all empty old) c.self.invariant.1
    c.answer-reply.ensures.answered) lines c.self.invariant.3 done

-- the trie has what stands after the new entry
stand :
    (g : Over) (c : goal.After-push_reserved g)
    → IsPermutation c.follow.new.trie.ballots
    (plain (standing (after_all empty c.push_reserved.new.self.items)))
stand g c =
    let old = c.self.inside.entries.items in
    let change = c.args.change in
    let index = get nat_eq c.self.inside.index in
    let answer : c.answer-reply.result ≡ reply (after_all empty old) (Changes change) =
    replied old change c.answer-reply.result index (after_all empty old) c.self.invariant.1
    c.answer-reply.ensures.answered in
    let lines =
    place_lines old index (after_all empty old) c.self.invariant.1 (batch_of change) c.batch.result
    c.standing_place-place.result c.batch.ensures c.standing_place-place.ensures in
    subst (λ (l : List Entry). IsPermutation c.follow.new.trie.ballots (plain (standing (after_all empty l))))
    (sym c.push_reserved.ensures.items)
    (trie_then c.lawful_calls_leave_lawful_batches.ensures.replaced c.lines_stand_for_ballots.ensures.joined
    c.lines_stand_for_ballots.ensures.order c.a_book_answers_a_history.ensures.book old c.args.caller change
    c.answer-reply.result (ballot_lines (ballots_at old c.standing_place-place.result))
    c.self.inside.trie.ballots c.follow.new.trie.ballots
    (in_range c.args.self.now.candidates change c.requires.lawful) answer lines c.self.invariant.3
    c.follow.ensures.exchanged)

pub invariant_of-self : goal.invariant_of-self
invariant_of-self g c =
    let old = c.self.inside.entries.items in
    let change = c.args.change in
    let index = get nat_eq c.self.inside.index in
    let e : Entry = entry_of c.args.caller change c.answer-reply.result in
    let new : c.push_reserved.new.self.items ≡ old ++ e ∷ [] = c.push_reserved.ensures.items in
    let place : c.len.result ≡ length old = c.len.ensures in
    let updates :
    (b : ℕ)
    → get nat_eq c.answer-reply.new.index b
    ≡ cond (batch_of change == b)
    (index_after (index (batch_of change)) c.answer-reply.result (length old)) (index b) =
    subst (λ (n : ℕ). (b : ℕ)
    → get nat_eq c.answer-reply.new.index b
    ≡ cond (batch_of change == b) (index_after (index (batch_of change)) c.answer-reply.result n)
    (index b)) place c.answer-reply.ensures.index in
    let rows =
    rows_more old e change index (get nat_eq c.answer-reply.new.index) (after_all empty old) refl
    c.self.invariant.1 c.answer-reply.ensures.answered updates in
    let answer : e.reply ≡ reply (after_all empty old) e.call =
    replied old change c.answer-reply.result index (after_all empty old) c.self.invariant.1
    c.answer-reply.ensures.answered in
    let shards : c.self.inside.shards ≡ c.args.self.now.shards = ap (λ (b : ShardState). b.shards) c.self.view_is in
    let shard : c.self.inside.shard ≡ c.args.self.now.shard = ap (λ (b : ShardState). b.shard) c.self.view_is in
    let at : shard_of (batch_of change) c.self.inside.shards ≡ c.self.inside.shard =
    ap (shard_of (batch_of change)) shards ∙ (c.requires.shard ∙ sym shard) in
    let own : is_of_shard c.self.inside.shards c.self.inside.shard e.call ≡ true =
    eq-eqb (shard_of (batch_of change) c.self.inside.shards) c.self.inside.shard at in
    let candidates : c.self.inside.candidates ≡ c.args.self.now.candidates =
    ap (λ (b : ShardState). b.candidates) c.self.view_is in
    let lawful : IsLawful c.self.inside.candidates change =
    subst (λ (n : ℕ). IsLawful n change) (sym candidates) c.requires.lawful in
    let of_shard =
    of_shard_more c.a_book_answers_a_history.ensures.legal c.self.inside.candidates c.self.inside.shards
    c.self.inside.shard old e c.self.invariant.0 answer own lawful in (
      subst
          (λ (l : List Entry). AreOfShard c.self.inside.candidates c.self.inside.shards c.self.inside.shard l)
          (sym new) of_shard,
      subst (λ (l : List Entry). AreRows l (get nat_eq c.answer-reply.new.index) (after_all empty l)) (sym new)
          (subst (λ (b : BookState). AreRows (old ++ e ∷ []) (get nat_eq c.answer-reply.new.index) b)
          (sym (c.a_book_answers_a_history.ensures.book old e)) rows),
      c.follow.ensures.candidates ∙ c.self.invariant.2,
      stand g c,
    )

pub returns-clause-ballots : goal.returns-clause-ballots
returns-clause-ballots g c = stand g c
