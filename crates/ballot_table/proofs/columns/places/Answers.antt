use Rattle.std.proofs.Common.{◌≡◌, ℕ, ◌+◌, ◌<◌, eqb, map, length, drop, get_or, arith, sym, ap, ◌∙◌}
use Rattle.std.specs.List.{position_or_len, range_with_len}
use Rattle.std.proofs.lemmas.List.{ext_get_or}
use Rattle.std.proofs.lemmas.List.FromFn.{get_or-map-range_with_len, length-map-range_with_len}
use Rattle.ballot_table.proofs.columns.places.Goals as goal

pub returns : goal.returns
returns c =
    let ranks = c.args.ranks.now in
    let n = length ranks in
    let at = c.loop-at.at in
    let places = c.loop-at.places.items in
    let place = λ (rank : ℕ). position_or_len (λ other. eqb other rank) ranks in
    let none : at ≡ 0 = let end = c.loop-at-test.false in omega (arith, end) in
    let long = length-map-range_with_len place 1 n in
    ext_get_or 0 places (map place (range_with_len 1 n))
    (c.loop-at.invariant.size ∙ sym long)
    (λ k inside.
    let within : k < n = let size = c.loop-at.invariant.size in omega (arith, inside, size) in
    let each = c.loop-at.invariant.each k within in
    let dropped : position_or_len (λ other. eqb other (k + 1)) (drop at ranks) ≡ place (k + 1) =
    ap (λ (i : ℕ). position_or_len (λ other. eqb other (k + 1)) (drop i ranks)) none in
    let there : get_or places k 0 ≡ place (k + 1) = omega (arith, each, dropped, none) in
    there
    ∙ sym (get_or-map-range_with_len place 1 n k (k + 1) 0 within (omega arith)))
