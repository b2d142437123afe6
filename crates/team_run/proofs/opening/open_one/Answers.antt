use Rattle.std.proofs.Common.{false, List, refl, ap}
use Rattle.batch_core.specs.declared.call.Call.{Call}
use Rattle.day_reader.specs.declared.script.Script.{Script}
use Rattle.shard_office.specs.Passes.{PassState}
use Rattle.team_run.proofs.opening.open_one.Goals as goal

abbrev script : List Call → PassState → Script
script calls pass = record { team = pass.caller; calls = calls }

pub returns-clause-team : goal.returns-clause-team
returns-clause-team c = (
  record { pass = c.in_ok-pass.pass; left = c.args.script.calls; versions = c.new.result; refused = false },
  c.push_reserved.ensures.items,
  record {
    office_is = ap (λ (p : PassState). p.office) c.in_ok-pass.ensures.made;
    own_is = c.in_ok-pass.ensures.own;
    versions = c.new.ensures.items;
    answerable = c.requires.answerable;
    not_refused = refl;
  },
  ap (script c.args.script.calls) c.in_ok-pass.ensures.made,
)
