use Rattle.std.proofs.Common.{◌∙◌, ap, List, ◌++◌, map, get_or}
use Rattle.batch_core.specs.declared.call.Call.{Call}
use Rattle.day_reader.specs.declared.script.Script.{Script}
use Rattle.tally_cli.specs.Changes.{asked, changes_by}
use Rattle.tally_cli.proofs.Lists.{flat_more}
use Rattle.tally_cli.proofs.scripts.play.Goals as goal

pub loop-script-preserved : goal.loop-script-preserved
loop-script-preserved g c =
    let so_far = map asked c.loop-script.hall.book.entries in
    let item : Script = get_or c.args.scripts.now c.loop-script.script-index c.script-item.result in
    record {
      candidates = c.in_ok-play_script.ensures.candidates ∙ c.loop-script.invariant.candidates;
      shown = c.in_ok-play_script.ensures.shown;
      entries =
          c.in_ok-play_script.ensures.entries
          ∙ (ap (λ (calls : List Call). so_far ++ changes_by c.script-item.result.team calls) c.items.ensures
          ∙ (ap (λ (s : Script). so_far ++ changes_by s.team s.calls) c.script-item.is
          ∙ (ap (λ es. es ++ changes_by item.team item.calls) c.loop-script.invariant.entries
          ∙ flat_more (λ (s : Script). changes_by s.team s.calls) (map asked c.args.hall.now.book.entries)
          c.args.scripts.now c.loop-script.script-index c.script-item.result c.loop-script-test.true)));
    }
