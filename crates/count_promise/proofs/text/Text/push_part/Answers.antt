use Rattle.std.proofs.Common.{◌≡◌, ◌∙◌, ◌∷◌, ◌++◌, ℕ, List, ap, arith, drop, length, subst}
use Rattle.std.specs.Prelude.{OnOk}
use Rattle.fixed_place.specs.Text.{text_of, last_digits}
use Rattle.count_promise.proofs.Parts.{part_text}
use Rattle.count_promise.proofs.text.Text.push_part.Goals as goal

pub behind_first-requires : goal.behind_first-requires
behind_first-requires c =
    let text : c.bytes.result.now ≡ text_of 9 c.args.units =
    c.bytes.ensures.value
    ∙ (c.push_amount.ensures
    ∙ (ap (λ (l : List ℕ). l ++ text_of 9 c.from_units.result) c.new-line.ensures ∙ ap (λ (k : ℕ).
    text_of 9 k) c.from_units.ensures)) in
    omega (arith, ap length text, ap length (part_text c.args.units c.requires))

pub returns : goal.returns
returns c =
    let text : c.bytes.result.now ≡ text_of 9 c.args.units =
    c.bytes.ensures.value
    ∙ (c.push_amount.ensures
    ∙ (ap (λ (l : List ℕ). l ++ text_of 9 c.from_units.result) c.new-line.ensures ∙ ap (λ (k : ℕ).
    text_of 9 k) c.from_units.ensures)) in
    let part : c.behind_first.result.now ≡ 46 ∷ last_digits 9 c.args.units =
    c.behind_first.ensures ∙ ap (λ (l : List ℕ). drop 1 l) (text ∙ part_text c.args.units c.requires) in
    subst (λ (l : List ℕ). OnOk c.push_bytes.result (c.push_bytes.new.self ≡ c.args.self.now ++ l)) part c.push_bytes.ensures
