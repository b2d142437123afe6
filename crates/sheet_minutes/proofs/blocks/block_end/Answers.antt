use Rattle.std.proofs.Common.{◌≡◌, ◌∙◌, sym, arith, ◌+◌, ◌-◌, length}
use Rattle.sheet_minutes.specs.Rounds.{rounds_in}
use Rattle.sheet_minutes.proofs.Ends.{behind_full, count_end, count_none, full_block}
use Rattle.sheet_minutes.proofs.blocks.block_end.Goals.{then-ends_round+else-count-size, else-ends_round}
use Rattle.sheet_minutes.proofs.blocks.block_end.Goals as goal

pub returns-then-count-size-clause-block : goal.returns-then-count-size-clause-block
returns-then-count-size-clause-block g c =
    let rows = c.args.rows.now in
    let i = c.loop-i.i in
    let ends = sym c.ends_round.ensures ∙ c.if-ends_round.true in
    let more = count_end rows c.args.first i c.loop-i.invariant.from ends in
    let full : length (rounds_in rows c.args.first (i + 1 - c.args.first)) ≡ c.args.size = omega (arith, more) in
    full_block rows c.args.first (i + 1) c.args.size (omega arith) (omega arith) full

pub returns-then-count-size-clause-rest : goal.returns-then-count-size-clause-rest
returns-then-count-size-clause-rest g c =
    let rows = c.args.rows.now in
    let i = c.loop-i.i in
    let ends = sym c.ends_round.ensures ∙ c.if-ends_round.true in
    let more = count_end rows c.args.first i c.loop-i.invariant.from ends in
    let full : length (rounds_in rows c.args.first (i + 1 - c.args.first)) ≡ c.args.size = omega (arith, more) in
    behind_full rows c.args.first (i + 1) c.args.size (omega arith) (omega arith) full

pub loop-i-preserved : goal.loop-i-preserved
loop-i-preserved g c =
    let rows = c.args.rows.now in
    let i = c.loop-i.i in
    elim c.if-ends_round.branch [
      | then-ends_round+else-count-size w ↦
          let more = count_end rows c.args.first i c.loop-i.invariant.from (sym c.ends_round.ensures ∙ w.if-ends_round.true) in
          record {
            from = omega arith;
            counted = omega (arith, more, w.count-is, c.loop-i.invariant.counted);
            open_yet = omega (arith, w.count-is, c.loop-i.invariant.open_yet, w.if-count-size.false);
          }
      | else-ends_round w ↦
          let same = count_none rows c.args.first i c.loop-i.invariant.from (sym c.ends_round.ensures ∙ w.if-ends_round.false) in
          record {
            from = omega arith;
            counted = omega (arith, same, w.count-is, c.loop-i.invariant.counted);
            open_yet = omega (arith, w.count-is, c.loop-i.invariant.open_yet);
          }
    ]
