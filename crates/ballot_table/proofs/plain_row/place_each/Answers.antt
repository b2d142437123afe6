use Rattle.std.proofs.Common.{List, ◌≡◌, ◌+◌, ◌≤◌, ◌==◌, Bool, true, false, cond, not, set, take, get_or}
use Rattle.std.proofs.Common.{refl, ◌∙◌, sym, ap, subst, arith}
use Rattle.std.proofs.lemmas.List.{length-take, take_more}
use mir.Val.{bool_byte}
use Rattle.table_text.specs.declared.cell.Cell.{Cell}
use Rattle.ballot_table.specs.PlainRows.{IsPlaced}
use Rattle.ballot_table.proofs.Placing.{none_placed, one_placed}
use Rattle.ballot_table.proofs.plain_row.place_each.Goals as goal

pub loop-at-init : goal.loop-at-init
loop-at-init c = record { placed = none_placed c.args.placed.now c.told-placed c.requires; few = omega arith }

worth : (b : Bool) → (bool_byte b ≡ cond b 1 0) × (bool_byte b ≤ 1)
worth true = (refl, omega arith)
worth false = (refl, omega arith)

pub loop-at-preserved : goal.loop-at-preserved
loop-at-preserved c =
    let cells = c.args.cells.now in
    let at = c.loop-at.at in
    let so_far = c.loop-at.invariant in
    let none : Cell = record { at = 0; stop = 0; number = 0 } in
    let cell : Cell = get_or cells at none in
    let long = length-take at cells in
    let is : c.from-ranked.result ≡ bool_byte (not (cell.number == 0)) = c.from-ranked.ensures in
    let most = worth (not (cell.number == 0)) in
    let few = so_far.few in
    record {
      placed =
          subst
          (λ (cs : List Cell). IsPlaced cs (set c.loop-at.placed cell.number (at + 1))
          (c.loop-at.ranked + c.from-ranked.result))
          (sym (take_more cells at none c.loop-at-test.true))
          (one_placed (take at cells) c.loop-at.placed c.loop-at.ranked cell (at + 1) so_far.placed
          c.if-rank-ge-RANKS.false (omega (arith, long, c.loop-at-test.true)) (c.loop-at.ranked + c.from-ranked.result)
          (ap (λ n. c.loop-at.ranked + n) (is ∙ most.0)));
      few = omega (arith, few, is, most.1);
    }
