use Rattle.std.proofs.Common.{◌≡◌, ℕ, ◌<◌, ◌≤◌, length, slice_index}
use Rattle.fixed_place.specs.Rounding.{scale}
use Rattle.lot_order.specs.Flags.{mark_at}
use Rattle.meek_rule.specs.KeepValues.{next_keep, is_capped}
use Rattle.meek_rule.proofs.keep_values.update_keeps.Given as goal

abbrev pub invariant-loop-p : goal.invariant-loop-p
invariant-loop-p g l =
    let s = scale g.row.P in
    record {
      same_length : length l.keeps ≡ length l.fn.keeps;
      same_marks : length l.marks ≡ length l.fn.marks;
      done : (q : ℕ) → q < l.p → slice_index l.keeps q ≡ next_keep s l.states l.fn.keeps l.votes l.quota q;
      ahead : (q : ℕ) → l.p ≤ q → slice_index l.keeps q ≡ slice_index l.fn.keeps q;
      capped : (q : ℕ) → q < l.p → mark_at l.marks q ≡ is_capped s l.states l.fn.keeps l.votes l.quota q;
    }
