use Rattle.std.proofs.Common.{◌≡◌, ◌++◌, map, take}
use Rattle.tally_cli.specs.Changes.{asked, changes_by}
use Rattle.tally_cli.specs.Shown.{IsShown}
use Rattle.tally_cli.proofs.scripts.play_script.Given as goal

abbrev pub invariant-loop-call : goal.invariant-loop-call
invariant-loop-call g l = record {
  candidates : l.hall.book.candidates ≡ l.fn.hall.book.candidates;
  shown : IsShown l.hall;
  entries : map asked l.hall.book.entries
      ≡ map asked l.fn.hall.book.entries ++ changes_by l.team (take l.call-index l.calls);
}
