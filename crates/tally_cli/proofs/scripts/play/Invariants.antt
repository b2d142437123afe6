use Rattle.std.proofs.Common.{◌≡◌, ◌++◌, map, take}
use Rattle.tally_cli.specs.Changes.{asked, changes_of}
use Rattle.tally_cli.specs.Shown.{IsShown}
use Rattle.tally_cli.proofs.scripts.play.Given as goal

abbrev pub invariant-loop-script : goal.invariant-loop-script
invariant-loop-script g l = record {
  candidates : l.hall.book.candidates ≡ l.fn.hall.book.candidates;
  shown : IsShown l.hall;
  entries : map asked l.hall.book.entries ≡ map asked l.fn.hall.book.entries ++ changes_of (take l.script-index l.scripts);
}
