use Rattle.std.proofs.Common.{◌∙◌, ℕ, ◌<◌, List, [], ◌∷◌, length, get_or, set, take, sum_by, ap, sym, arith}
use Rattle.std.proofs.lemmas.List.{take_more}
use Rattle.std.proofs.lemmas.List.Edits.{map_over_more}
use Rattle.std.proofs.lemmas.List.Sums.{sum_by-append, sum_by-cons, sum_by_more_le}
use Rattle.plain_ballots.specs.declared.ballot_line.BallotLine.{BallotLine}
use Rattle.blt_writer.specs.Merge.{had, left}
use Rattle.blt_writer.proofs.LeastLemmas.{item_is}
use Rattle.blt_writer.proofs.MergeLemmas.{all_had_le}
use Rattle.blt_writer.proofs.merge.take_all.Goals as goal

pub overflow_add-count : goal.overflow_add-count
overflow_add-count c =
    let r = c.args.ranking.now in
    let lists = c.args.cursors.now in
    let i : ℕ = c.loop-cursor.cursor-index in
    let x = c.cursor-item.result in
    let inside : i < length lists = omega arith in
    let is = item_is (left r) lists c.loop-cursor.cursors i x inside c.loop-cursor.invariant.taken c.cursor-item.is in
    let count = c.take-count.ensures.count ∙ ap (had r) (sym c.cursor-item.is ∙ is) in
    omega (
      arith,
      count,
      sum_by_more_le (had r) lists i x inside,
      all_had_le r lists,
      c.loop-cursor.invariant.counted,
      c.requires.few,
    )

pub loop-cursor-preserved : goal.loop-cursor-preserved
loop-cursor-preserved c =
    let r = c.args.ranking.now in
    let lists = c.args.cursors.now in
    let i : ℕ = c.loop-cursor.cursor-index in
    let x = c.cursor-item.result in
    let inv = c.loop-cursor.invariant in
    let inside : i < length lists = omega arith in
    let is = item_is (left r) lists c.loop-cursor.cursors i x inside inv.taken c.cursor-item.is in
    let count = c.take-count.ensures.count ∙ ap (had r) (sym c.cursor-item.is ∙ is) in
    record {
      taken =
          ap (λ (l : List BallotLine). set c.loop-cursor.cursors i l)
          (c.take-count.ensures.left ∙ ap (left r) (sym c.cursor-item.is))
          ∙ map_over_more (left r) lists c.loop-cursor.cursors i x inside inv.taken c.cursor-item.is;
      counted =
          omega (
            arith,
            inv.counted,
            count,
            ap (sum_by (had r)) (take_more lists i x inside),
            sum_by-append (had r) (take i lists) (get_or lists i x ∷ []),
            sum_by-cons (had r) (get_or lists i x) [],
          );
    }
