use Rattle.std.proofs.Common.{◌∙◌, ◌++◌, [], ◌∷◌, List, ℕ, ap}
use Rattle.std.specs.Prelude.{codes, decimal}
use Rattle.fixed_place.specs.Text.{text_of}
use Rattle.meek_rule.specs.Row.{Row}
use Rattle.sheet_text.specs.Lines.{number_line}
use Rattle.count_promise.specs.Left.{defeated}
use Rattle.count_promise.proofs.Pushes.{pushed, pushed_last}
use Rattle.count_promise.proofs.lines.push_greatest_of.Goals as goal

pub returns : goal.returns
returns c =
    let old : List ℕ = c.args.text.now in
    let row : Row = c.args.row.now in
    let one : List ℕ = codes "greatest surplus at a defeat " in
    let two : List ℕ = one ++ text_of 9 row.surplus in
    let three : List ℕ = two ++ codes " " in
    let four : List ℕ = three ++ number_line row in
    let five : List ℕ = four ++ codes " candidate " in
    let units = ap (λ (u : ℕ). c.push_bytes.new.self ++ text_of 9 u) c.surplus_of.ensures.value in
    let loser =
    ap (λ (k : ℕ). c.push_bytes-3.new.self ++ decimal k)
    (c.defeated.ensures ∙ ap (λ (r : Row). defeated r.step) c.row.view_is) in
    let first = c.in_ok-push_bytes.ensures in
    let second = pushed old one (text_of 9 row.surplus) _ _ first (c.in_ok-push_units.ensures ∙ units) in
    let third = pushed old two (codes " ") _ _ second c.in_ok-push_bytes-2.ensures in
    let fourth = pushed old three (number_line row) _ _ third c.in_ok-push_number.ensures in
    let fifth = pushed old four (codes " candidate ") _ _ fourth c.in_ok-push_bytes-3.ensures in
    let sixth = pushed old five (decimal (defeated row.step)) _ _ fifth (c.in_ok-push_count.ensures ∙ loser) in
    pushed_last old (five ++ decimal (defeated row.step)) (10 ∷ []) _ _ c.push_bytes-4.result sixth c.push_bytes-4.ensures
