use Rattle.std.proofs.Common.{◌+◌, arith, length-take}
use Rattle.sheet_check.proofs.Ends.{end_fits}
use Rattle.sheet_check.proofs.split.split.Goals as goal

pub slice_bounds-result-end : goal.slice_bounds-result-end
slice_bounds-result-end c =
    let input = c.args.input.now in
    omega (arith, end_fits input c.loop-at.at c.if-has_end_at.ensures, length-take (c.loop-at.at + 4) input)
