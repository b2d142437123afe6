-- Marks past the end.
use Rattle.std.proofs.Common.{◌≡◌, ℕ, ◌≤◌, List, Bool, false, length}
use Rattle.std.proofs.lemmas.List.{get_or_past}
use Rattle.lot_order.specs.Flags.{mark_at}

pub unmarked : (marks : List Bool) (p : ℕ) → length marks ≤ p → mark_at marks p ≡ false
unmarked marks p past = get_or_past marks p false past
