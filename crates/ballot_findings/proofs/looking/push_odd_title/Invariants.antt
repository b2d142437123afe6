use Rattle.std.proofs.Common.{◌≡◌, ◌++◌, take}
use Rattle.std.specs.List.{flat_map}
use Rattle.ballot_findings.specs.Lines.{odd_title_lines}
use Rattle.ballot_findings.proofs.looking.push_odd_title.Given as goal

abbrev pub invariant-loop-oddity : goal.invariant-loop-oddity
invariant-loop-oddity l =
    l.text
    ≡ l.initial.text ++ flat_map (odd_title_lines l.fn.file.input l.fn.file.roll) (take l.oddity-index l.oddities)
