use Rattle.std.proofs.Common.{◌∙◌, ap, sym, arith, length}
use Rattle.sheet_reader.specs.Values.{SheetList}
use Rattle.sheet_words.specs.Sentences.{takes_seat}
use Rattle.sheet_words.proofs.Places.{count_yes, count_no, count_past}
use Rattle.sheet_words.proofs.end.seats_taken.Goals.{then-takes_seat, else-takes_seat}
use Rattle.sheet_words.proofs.end.seats_taken.Goals as goal

pub loop-p-preserved : goal.loop-p-preserved
loop-p-preserved g c =
    let size = ap (λ (v : SheetList). length v.names) c.values.view_is in
    let n = length c.args.values.now.names in
    let test = takes_seat c.args.values.now in
    elim c.if-takes_seat.branch [
      | then-takes_seat w ↦
          let here = count_yes test c.loop-p.p n (omega (arith, size)) (sym c.takes_seat.ensures ∙ w.if-takes_seat.true) in
          (omega (arith, here, w.count-is, c.loop-p.invariant.0), omega (arith, w.count-is, c.loop-p.invariant.1))
      | else-takes_seat w ↦
          let here = count_no test c.loop-p.p n (omega (arith, size)) (sym c.takes_seat.ensures ∙ w.if-takes_seat.false) in
          (omega (arith, here, w.count-is, c.loop-p.invariant.0), omega (arith, w.count-is, c.loop-p.invariant.1))
    ]

pub returns : goal.returns
returns g c =
    let size = ap (λ (v : SheetList). length v.names) c.values.view_is in
    let past = count_past (takes_seat c.args.values.now) c.loop-p.p (length c.args.values.now.names) (omega (arith, size)) in
    omega (arith, past, c.loop-p.invariant.0)
