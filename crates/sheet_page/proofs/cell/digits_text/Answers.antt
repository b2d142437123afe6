use Rattle.std.proofs.Common.{◌≡◌, ◌∙◌, ◌∷◌, ◌++◌, ℕ, List, ap, arith, drop, length}
use Rattle.fixed_place.specs.Text.{text_of, last_digits}
use Rattle.line_text.proofs.Lengths.{length-text_of, scale-most}
use Rattle.sheet_page.proofs.Parts.{part_text}
use Rattle.sheet_page.proofs.cell.digits_text.Goals as goal

pub behind_first-requires : goal.behind_first-requires
behind_first-requires g c =
    let text : c.bytes.result.now ≡ text_of g.row.P c.args.units =
    c.bytes.ensures.value ∙ (c.amount_text-text.ensures.text ∙ ap (λ (k : ℕ). text_of g.row.P k) c.from_units.ensures) in
    omega (arith, ap length text, ap length (part_text g.row.P c.args.units c.requires.part))

pub returns-clause-digits : goal.returns-clause-digits
returns-clause-digits g c =
    let text : c.bytes.result.now ≡ text_of g.row.P c.args.units =
    c.bytes.ensures.value ∙ (c.amount_text-text.ensures.text ∙ ap (λ (k : ℕ). text_of g.row.P k) c.from_units.ensures) in
    let digits : c.behind_first.result.now ≡ 46 ∷ last_digits g.row.P c.args.units =
    c.behind_first.ensures ∙ ap (λ (l : List ℕ). drop 1 l) (text ∙ part_text g.row.P c.args.units c.requires.part) in
    c.push_bytes.ensures ∙ ap (λ (l : List ℕ). l ++ c.behind_first.result.now) c.new-line.ensures ∙ digits

pub returns-clause-few : goal.returns-clause-few
returns-clause-few g c =
    let text : c.bytes.result.now ≡ text_of g.row.P c.args.units =
    c.bytes.ensures.value ∙ (c.amount_text-text.ensures.text ∙ ap (λ (k : ℕ). text_of g.row.P k) c.from_units.ensures) in
    let digits : c.behind_first.result.now ≡ 46 ∷ last_digits g.row.P c.args.units =
    c.behind_first.ensures ∙ ap (λ (l : List ℕ). drop 1 l) (text ∙ part_text g.row.P c.args.units c.requires.part) in
    let line = c.push_bytes.ensures ∙ ap (λ (l : List ℕ). l ++ c.behind_first.result.now) c.new-line.ensures ∙ digits in
    let long = length-text_of g.row.P c.args.units c.requires.places.1 (omega (arith, c.requires.part, scale-most g.row.P)) in
    omega (arith, long, ap length (part_text g.row.P c.args.units c.requires.part), ap length line)
