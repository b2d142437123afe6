use Rattle.std.proofs.Common.{◌≡◌, take}
use Rattle.sheet_page.specs.Picture.{full_of}
use Rattle.sheet_page.proofs.widths.full_of.Given as goal

abbrev pub invariant-loop-row : goal.invariant-loop-row
invariant-loop-row g l = l.full ≡ full_of (take l.row-index l.fn.rows)
