use Rattle.std.proofs.Common.{◌≡◌, ◌∙◌, ap, ℕ, ◌+◌, suc, List, [], ◌∷◌, ◌++◌, arith}
use Rattle.std.specs.List.{range_with_len}
use Rattle.lot_draw.proofs.Left.{range-push}
use Rattle.lot_draw.proofs.draw.everybody.Goals as goal

pub loop-before-preserved : goal.loop-before-preserved
loop-before-preserved c =
    let k : ℕ = c.loop-before.before in
    let number : k + 1 ≡ 1 + k = omega arith in
    let next : suc k ≡ k + 1 = omega arith in
    c.in_ok-push.ensures.items
    ∙ ap (λ (l : List ℕ). l ++ (k + 1) ∷ []) c.loop-before.invariant
    ∙ ap (λ (q : ℕ). range_with_len 1 k ++ q ∷ []) number
    ∙ range-push 1 k
    ∙ ap (range_with_len 1) next
