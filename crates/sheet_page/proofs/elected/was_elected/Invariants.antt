use Rattle.std.proofs.Common.{◌≡◌, false, take}
use Rattle.std.specs.List.{list_any}
use Rattle.lot_order.specs.Flags.{mark_at}
use Rattle.sheet_page.proofs.elected.was_elected.Given as goal

abbrev pub invariant-loop-row : goal.invariant-loop-row
invariant-loop-row g l = list_any (λ row. mark_at row.elected l.p) (take l.row-index l.fn.rows) ≡ false
