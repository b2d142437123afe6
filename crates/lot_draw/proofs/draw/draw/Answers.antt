use Rattle.std.proofs.Common.{◌≡◌, ◌∙◌, sym, ap, subst, ℕ, ◌-◌, ◌<◌, List, [], ◌∷◌, ◌++◌, length, get_or, arith}
use Rattle.std.proofs.lemmas.List.{get_or_default}
use Rattle.lot_draw.specs.Draw.{drawn_place}
use Rattle.lot_draw.proofs.Draws.{IsDrawnSoFar, so_far-nobody, so_far-more, draw-whole}
use Rattle.lot_draw.proofs.draw.draw.Goals as goal

pub loop-drawn-init : goal.loop-drawn-init
loop-drawn-init c =
    let seed = c.args.seed.now in
    let n = c.args.candidates in
    let nobody = c.in_ok-order.ensures.items in
    record {
      so_far =
          subst (λ (order : List ℕ). IsDrawnSoFar seed n order c.in_ok-left.left.items) (sym nobody)
          (subst (λ (left : List ℕ). IsDrawnSoFar seed n [] left) (sym c.in_ok-left.ensures) (so_far-nobody seed n));
      count = ap length nobody;
    }

pub loop-drawn-preserved : goal.loop-drawn-preserved
loop-drawn-preserved c =
    let seed = c.args.seed.now in
    let n = c.args.candidates in
    let order = c.loop-drawn.order.items in
    let left = c.loop-drawn.left.items in
    let p : ℕ = c.place_among-place.result in
    let so_far = c.loop-drawn.invariant.so_far in
    let count = c.loop-drawn.invariant.count in
    let below : p < length left = omega (arith, c.place_among-place.ensures.below, so_far.as_many, count) in
    let is : p ≡ drawn_place seed (n - length order) =
    c.place_among-place.ensures.place ∙ ap (λ (k : ℕ). drawn_place seed (n - k)) (sym count) in
    let candidate = c.remove-candidate.ensures.value ∙ sym (get_or_default left p 0 c.remove-candidate.result below) in
    record {
      so_far =
          subst (λ (o : List ℕ). IsDrawnSoFar seed n o c.remove-candidate.new.self.items)
          (sym (c.in_ok-push.ensures.items ∙ ap (λ (x : ℕ). order ++ x ∷ []) candidate))
          (subst (λ (l : List ℕ). IsDrawnSoFar seed n (order ++ get_or left p 0 ∷ []) l)
          (sym c.remove-candidate.ensures.items)
          (so_far-more seed n order left p so_far is below));
      count = omega (arith, c.in_ok-push.ensures.len, count);
    }

pub returns : goal.returns
returns c = draw-whole _ _ _ _ c.loop-drawn.invariant.so_far (omega (arith, c.loop-drawn.invariant.count))
