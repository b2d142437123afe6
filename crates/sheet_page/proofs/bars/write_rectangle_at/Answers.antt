use Rattle.std.proofs.Common.{◌≡◌, ◌∙◌, ◌+◌, ◌*◌, ℕ, List, ap, refl}
use Rattle.std.specs.Prelude.{slice_index}
use Rattle.meek_rule.specs.Row.{Row}
use Rattle.page_tree.specs.Print.{printed}
use Rattle.sheet_text.specs.Lines.{state_word}
use Rattle.sheet_page.specs.Picture.{rectangle, scaled}
use Rattle.sheet_page.proofs.Pens.{renamed}
use Rattle.sheet_page.proofs.bars.write_rectangle_at.Goals as goal

rectangle_is :
    (bars length others longer : ℕ) (state word : List ℕ) → bars ≡ others → length ≡ longer → state ≡ word
    → printed (rectangle (bars * 36 + 21) length state) ≡ printed (rectangle (others * 36 + 21) longer word)
rectangle_is bars length others longer state word is_bars is_length is_state = rw (is_bars, is_length, is_state) refl

pub returns : goal.returns
returns g c =
    let vote = c.get-2.ensures ∙ ap (λ (r : Row). slice_index r.votes c.args.p) c.row.view_is in
    renamed
    (rectangle_is _ _ _ _ _ _ c.bars_before.ensures.count (c.scaled-length.ensures ∙ ap (scaled c.args.full) vote)
    (c.state_word-state.ensures ∙ ap state_word c.get.ensures.state)) c.write_rectangle.ensures
