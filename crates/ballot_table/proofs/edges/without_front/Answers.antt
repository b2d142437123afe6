use Rattle.std.proofs.Common.{◌≡◌, ◌-◌, arith, ap, sym, ◌∙◌, length, drop}
use Rattle.std.specs.List.{prefix_len}
use Rattle.std.proofs.lemmas.List.{length-drop, take_all}
use Rattle.std.proofs.lemmas.List.Sums.{prefix_len-drop_all, prefix_len-drop_no, prefix_len-drop_yes}
use Rattle.ballot_table.specs.Texts.{is_edge}
use Rattle.ballot_table.proofs.edges.without_front.Goals as goal
use Rattle.ballot_table.proofs.edges.without_front.Goals.{then-loop-at-test+else-is_edge, else-loop-at-test}

pub loop-at-preserved : goal.loop-at-preserved
loop-at-preserved c =
    let before = c.loop-at.invariant.before in
    let inside = c.loop-at-test.true in
    let more =
    prefix_len-drop_yes is_edge c.args.bytes.now c.loop-at.at 0 inside (sym c.is_edge.ensures ∙ c.if-is_edge.true) in
    record { inside = omega arith; before = omega (arith, before, more) }

pub returns : goal.returns
returns c =
    let bytes = c.args.bytes.now in
    let at = c.loop-at.at in
    let before = c.loop-at.invariant.before in
    let long = length-drop at bytes in
    let front : prefix_len is_edge bytes ≡ at =
    elim c.loop-at-test.branch [
      | then-loop-at-test+else-is_edge w ↦
          let none = prefix_len-drop_no is_edge bytes at 0 w.loop-at-test.true (sym w.is_edge.ensures ∙ w.if-is_edge.false) in
          omega (arith, before, none)
      | else-loop-at-test w ↦
          let none = prefix_len-drop_all is_edge bytes at w.loop-at-test.false in omega (arith, before, none)
    ] in
    take_all (length bytes - at) (drop at bytes) (omega (arith, long)) ∙ ap (λ n. drop n bytes) (sym front)
