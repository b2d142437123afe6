use Rattle.std.proofs.Common.{List, [], ◌∷◌, ◌++◌, ap, ◌∙◌}
use Rattle.std.proofs.lemmas.List.{append_assoc}
use Rattle.batch_core.specs.declared.entry.Entry.{Entry}
use Rattle.day_replay.proofs.following.make_the_rest.Goals as goal

pub calls-preserved : goal.calls-preserved
calls-preserved c =
    let so_far = c.calls.invariant in
    let made = c.in_ok-make.ensures in
    let one = made.one in
    record {
      candidates = made.candidates ∙ so_far.candidates;
      teams = made.teams;
      answerable = made.answerable;
      way = λ scripts way. made.way scripts (so_far.way scripts way);
      more = (
        so_far.more.0 ++ one.0 ∷ [],
        one.2 ∙ (ap (λ (l : List Entry). l ++ one.0 ∷ []) so_far.more.1
            ∙ append_assoc c.args.replay.now.history so_far.more.0 (one.0 ∷ [])),
      );
    }
