-- Calls answered one after another.
use Rattle.std.proofs.Common.{◌≡◌, ℕ, ◌≤◌, List, [], ◌∷◌, ◌++◌, sym, ap, ◌∙◌, subst}
use Rattle.std.specs.Prelude.{All}
use Rattle.std.proofs.lemmas.List.Elements.{All-push}
use Rattle.plain_ballots.specs.declared.limits.TheConstants.{MOST_CANDIDATES}
use Rattle.batch_core.specs.declared.call.Call.{Call}
use Rattle.batch_core.specs.declared.reply.Reply.{Reply}
use Rattle.batch_core.specs.declared.entry.Entry.{Entry}
use Rattle.batch_core.specs.Book.{BookList, BookState, empty, after, reply, state_of}
use Rattle.batch_core.specs.Histories.{after_all}
use Rattle.batch_core.specs.Laws.{LeadsOn}
use Rattle.day_reader.specs.Said.{IsAnswerable}
use Rattle.day_replay.specs.Bare.{bare_call, bare_book}
use Rattle.day_replay.specs.Replay.{answered, IsReplay}
use Rattle.day_replay.proofs.BareBooks.{reply_alike, after_alike}

abbrev pub answer_of : (caller : ℕ) → Call → Reply → Entry
answer_of caller asked answer = record { caller = caller; call = asked; reply = answer }

-- the bare book's answer is that of the calls that have led to it
pub right_answer :
    (book : BookList) (history : List Entry) (caller : ℕ) (asked : Call) (answer : Reply)
    → state_of book ≡ bare_book (after_all empty history) → answer ≡ reply (state_of book) (bare_call asked)
    → answer_of caller asked answer ≡ answered history caller asked
right_answer book history caller asked answer led is =
    ap (answer_of caller asked)
    (is
    ∙ (ap (λ (b : BookState). reply b (bare_call asked)) led ∙ reply_alike (after_all empty history) asked))

-- one call more
pub stepped :
    (leads : LeadsOn) (book new : BookList) (history : List Entry) (caller : ℕ) (asked : Call) (answer : Reply)
    → IsReplay book history → new.candidates ≡ book.candidates → state_of new ≡ after (state_of book) (bare_call asked)
    → IsAnswerable book.candidates asked → IsReplay new (history ++ answer_of caller asked answer ∷ [])
stepped leads book new history caller asked answer is same steps here = record {
  candidates = subst (λ (n : ℕ). (1 ≤ n) × (n ≤ MOST_CANDIDATES)) (sym same) is.candidates;
  led =
      steps
      ∙ (ap (λ (b : BookState). after b (bare_call asked)) is.led
      ∙ (after_alike (after_all empty history) asked ∙ ap bare_book (sym (leads history e))));
  answerable =
      subst (λ (n : ℕ). All (λ (x : Entry). IsAnswerable n x.call) (history ++ e ∷ [])) (sym same)
      (All-push (λ (x : Entry). IsAnswerable book.candidates x.call) history e is.answerable here);
}
  where
    e : Entry
    e = answer_of caller asked answer
