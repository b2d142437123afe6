use Rattle.std.proofs.Common.{◌≡◌, ℕ, List, [], ◌∷◌, ◌++◌, sym, ap, ◌∙◌, subst}
use Rattle.std.specs.Prelude.{All}
use Rattle.std.proofs.lemmas.List.{append_assoc}
use Rattle.batch_core.specs.declared.call.Call.{Call}
use Rattle.batch_core.specs.declared.entry.Entry.{Entry}
use Rattle.day_reader.specs.Said.{IsAnswerable}
use Rattle.day_lines.specs.DayHistory.{clerk_freeze, IsHistoryOf}
use Rattle.day_replay.specs.Calls.{IsUnderWay, left_of}
use Rattle.day_replay.specs.Replay.{ReplayState}
use Rattle.day_replay.proofs.Nearest.{nearest}
use Rattle.day_replay.proofs.Putting.{of_a_team}
use Rattle.day_replay.proofs.Way.{begins, ends}
use Rattle.day_replay.proofs.following.follow.Goals as goal

pub follow_lines-requires-clause-answerable : goal.follow_lines-requires-clause-answerable
follow_lines-requires-clause-answerable c team from =
    let calls : List Call = left_of c.in_ok-left.left.teams.items team in
    subst (λ (n : ℕ). All (IsAnswerable n) calls) (sym (ap (λ (r : ReplayState). r.candidates) c.new-replay.ensures))
    (subst (All (IsAnswerable c.args.candidates)) (sym (c.in_ok-left.ensures.calls team from))
    (of_a_team (IsAnswerable c.args.candidates) c.args.scripts team c.requires.scripts.calls))

pub returns-clause-history : goal.returns-clause-history
returns-clause-history c =
    let start : IsUnderWay c.args.scripts c.in_ok-left.left.teams.items c.new-replay.result.history =
    subst (IsUnderWay c.args.scripts c.in_ok-left.left.teams.items) (sym (ap (λ (r : ReplayState). r.history) c.new-replay.ensures))
    (begins c.args.scripts c.in_ok-left.left.teams.items c.in_ok-left.ensures.calls) in
    let way = c.in_ok-make_the_rest.ensures.way c.args.scripts (c.in_ok-follow_lines.ensures.way c.args.scripts start) in
    subst (IsHistoryOf c.args.scripts) (sym (c.finish.ensures.history ∙ c.in_ok-answer.ensures.history))
    (ends c.a_book_answers_a_history.ensures.legal c.args.scripts c.make_the_rest.new.left.teams.items
    c.make_the_rest.new.replay.history way c.in_ok-make_the_rest.ensures.none)

pub returns-clause-nearest : goal.returns-clause-nearest
returns-clause-nearest c =
    let start : IsUnderWay c.args.scripts c.in_ok-left.left.teams.items c.new-replay.result.history =
    subst (IsUnderWay c.args.scripts c.in_ok-left.left.teams.items) (sym (ap (λ (r : ReplayState). r.history) c.new-replay.ensures))
    (begins c.args.scripts c.in_ok-left.left.teams.items c.in_ok-left.ensures.calls) in
    let way = c.in_ok-follow_lines.ensures.way c.args.scripts start in
    let rest = c.in_ok-make_the_rest.ensures.more in
    let front = c.follow_lines.new.replay.history in
    let goes : c.finish.result ≡ front ++ (rest.0 ++ clerk_freeze ∷ []) =
    c.finish.ensures.history
    ∙ (c.in_ok-answer.ensures.history
    ∙ (ap (λ (l : List Entry). l ++ clerk_freeze ∷ []) rest.1 ∙ append_assoc front rest.0 (clerk_freeze ∷ []))) in
    nearest c.args.scripts c.requires.scripts.numbers c.a_legal_history_has_the_books_replies.ensures c.args.text.now
    c.follow_lines.new.left.teams.items c.finish.result front (rest.0 ++ clerk_freeze ∷ []) (returns-clause-history c) goes way
    c.in_ok-follow_lines.ensures.followed
