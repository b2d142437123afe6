use Rattle.std.proofs.Common.{◌∙◌, ap, sym, Bool, ℕ, List}
use Rattle.std.specs.Prelude.{if◌then◌else◌, nat_eq}
use Rattle.fixed_place.specs.Text.{text_of}
use Rattle.page_tree.specs.Print.{printed}
use Rattle.page_tree.specs.Trees.{Nothing}
use Rattle.sheet_page.specs.Bars.{rest_count, rest_votes}
use Rattle.sheet_page.specs.Picture.{rest_text}
use Rattle.sheet_page.proofs.Pens.{nothing, renamed}
use Rattle.sheet_page.proofs.picture.write_rest.Goals as goal

pub returns-then-is_nothing : goal.returns-then-is_nothing
returns-then-is_nothing g c =
    let row = c.args.row.now in
    let none = ap (λ (n : ℕ). nat_eq n 0) (sym c.rest_count-count.ensures) ∙ sym c.is_nothing.ensures ∙ c.if-is_nothing.true in
    renamed (sym (ap (λ (b : Bool). printed (if b then Nothing else rest_text (rest_count row) (text_of g.row.P (rest_votes row)))) none))
    (nothing _ _)

pub returns : goal.returns
returns g c =
    let row = c.args.row.now in
    let some = ap (λ (n : ℕ). nat_eq n 0) (sym c.rest_count-count.ensures) ∙ sym c.is_nothing.ensures ∙ c.if-is_nothing.false in
    let votes = c.bytes.ensures.value ∙ c.units_text-votes.ensures ∙ ap (λ (n : ℕ). text_of g.row.P n) c.rest_votes.ensures.sum in
    renamed (ap (λ (l : List ℕ). printed (rest_text c.rest_count-count.result l)) votes
    ∙ ap (λ (n : ℕ). printed (rest_text n (text_of g.row.P (rest_votes row)))) c.rest_count-count.ensures
    ∙ sym (ap (λ (b : Bool). printed (if b then Nothing else rest_text (rest_count row) (text_of g.row.P (rest_votes row)))) some))
    c.write_rest_text.ensures
