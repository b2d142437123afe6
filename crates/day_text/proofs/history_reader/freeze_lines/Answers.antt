use Rattle.std.proofs.Common.{Vec, Global, ℕ, true, false, sym, ◌∙◌, ap, arith}
use Rattle.std.proofs.lemmas.List.{append-nil, take_all}
use Rattle.day_text.proofs.Freezes.{freezes_from, one_freeze}
use Rattle.day_text.proofs.history_reader.freeze_lines.Goals as goal
use Rattle.day_text.proofs.history_reader.freeze_lines.Goals.{then-is_freeze+in-Ok, else-is_freeze}

pub loop-at-preserved : goal.loop-at-preserved
loop-at-preserved c =
    elim c.if-is_freeze.branch [
      | then-is_freeze+in-Ok w ↦
          one_freeze c.args.history.now.items c.loop-at.at c.get.result.now c.loop-at.places.items _ true
          (omega (arith, c.loop-at-test.true, c.len-at-end.ensures)) c.get.ensures c.loop-at.invariant
          (sym w.if-is_freeze.true ∙ c.is_freeze.ensures) (ap (λ (v : Vec ℕ Global). v.items) w.places-is ∙ w.in-Ok.ensures.items)
      | else-is_freeze w ↦
          one_freeze c.args.history.now.items c.loop-at.at c.get.result.now c.loop-at.places.items _ false
          (omega (arith, c.loop-at-test.true, c.len-at-end.ensures)) c.get.ensures c.loop-at.invariant
          (sym w.if-is_freeze.false ∙ c.is_freeze.ensures) (ap (λ (v : Vec ℕ Global). v.items) w.places-is ∙ sym (append-nil c.loop-at.places.items))
    ]

pub loop-at-init : goal.loop-at-init
loop-at-init c = c.new-places.ensures.items

pub returns : goal.returns
returns c =
    let all = take_all c.loop-at.at c.args.history.now.items (omega (arith, c.loop-at-test.false, c.len-at-end.ensures)) in
    record { places = c.loop-at.invariant ∙ ap (freezes_from 1) all; stop = tt }

pub get-requires : goal.get-requires
get-requires c = omega (arith, c.loop-at-test.true, c.len-at-end.ensures)
