use Rattle.std.proofs.Common.{◌≡◌, take}
use Rattle.sheet_page.specs.Picture.{greatest}
use Rattle.sheet_page.proofs.widths.greatest.Given as goal

abbrev pub invariant-loop-amount : goal.invariant-loop-amount
invariant-loop-amount g l = l.most ≡ greatest (take l.amount-index l.fn.amounts)
