use Rattle.std.proofs.Common.{ℕ, [], List, ◌∷◌, ◌++◌, sym, ap, ◌∙◌, subst}
use Rattle.batch_core.specs.declared.entry.Entry.{Entry}
use Rattle.batch_core.specs.Book.{after, reply, state_of}
use Rattle.day_reader.specs.Said.{IsAnswerable}
use Rattle.day_replay.specs.Replay.{IsReplay, ReplayState, answered}
use Rattle.day_replay.proofs.Replaying.{answer_of, right_answer, stepped}
use Rattle.day_replay.proofs.replay.Replay.answer.Goals as goal

pub invariant_of-self-2 : goal.invariant_of-self-2
invariant_of-self-2 c =
    let book = c.self.inside.book in
    let history = c.self.inside.entries.items in
    let e = answer_of c.args.caller c.args.asked c.in_ok-reply.reply in
    subst (λ (h : List Entry). IsReplay c.step.new.self h)
    (sym (c.push_reserved.ensures.items ∙ ap (λ (l : List Entry). l ++ e ∷ []) c.reserve.ensures.items))
    (stepped c.a_book_answers_a_history.ensures.book book c.step.new.self history c.args.caller c.args.asked
    c.in_ok-reply.reply c.self.invariant c.step.ensures.candidates
    (c.in_ok-reply.ensures.state ∙ ap (after (state_of book)) c.bare_call.ensures)
    (subst (λ (n : ℕ). IsAnswerable n c.args.asked) (sym (ap (λ (z : ReplayState). z.candidates) c.self.view_is))
    c.requires))

pub returns : goal.returns
returns c =
    let book = c.self.inside.book in
    let history = c.self.inside.entries.items in
    let e = answer_of c.args.caller c.args.asked c.in_ok-reply.reply in
    record {
      candidates = c.step.ensures.candidates ∙ ap (λ (z : ReplayState). z.candidates) c.self.view_is;
      history =
          c.push_reserved.ensures.items
          ∙ (ap (λ (l : List Entry). l ++ e ∷ []) c.reserve.ensures.items
          ∙ (ap (λ (x : Entry). history ++ x ∷ [])
          (right_answer book history c.args.caller c.args.asked c.in_ok-reply.reply c.self.invariant.led
          (c.in_ok-reply.ensures.answered ∙ ap (reply (state_of book)) c.bare_call.ensures))
          ∙ ap (λ (h : List Entry). h ++ answered h c.args.caller c.args.asked ∷ [])
          (ap (λ (z : ReplayState). z.history) c.self.view_is)));
    }
