use Rattle.std.proofs.Common.{◌≡◌, ◌∙◌, ◌+◌, ◌*◌, ℕ, List, [], ap, refl, subst, sym}
use Rattle.std.specs.Prelude.{Some, slice_get, slice_index}
use Rattle.std.proofs.lemmas.Option.{get_or_from_slice_get}
use Rattle.meek_rule.specs.Row.{Row}
use Rattle.page_tree.specs.Print.{printed}
use Rattle.sheet_reader.specs.Values.{SheetList}
use Rattle.sheet_text.specs.Lines.{state_word}
use Rattle.sheet_page.specs.Picture.{label}
use Rattle.sheet_page.proofs.Pens.{renamed}
use Rattle.sheet_page.proofs.bars.write_label_at.Goals as goal

label_is :
    (places number bars vote others amount : ℕ) (name state called word : List ℕ)
    → bars ≡ others → name ≡ called → state ≡ word → vote ≡ amount
    → printed (label places (bars * 36 + 16) name number state vote) ≡ printed (label places (others * 36 + 16) called number word amount)
label_is places number bars vote others amount name state called word is_bars is_name is_state is_vote =
    rw (is_bars, is_name, is_state, is_vote) refl

pub returns : goal.returns
returns g c =
    let v = c.args.values.now in
    let p = c.args.p in
    let at = subst (λ (w : SheetList). slice_get w.names p ≡ Some c.get-2.result.now) c.values.view_is c.get-2.ensures in
    renamed
    (label_is g.row.P (p + 1) _ _ _ _ _ _ _ _ c.bars_before.ensures.count
    (c.bytes-name.ensures.value ∙ sym (get_or_from_slice_get v.names p c.get-2.result.now [] at))
    (c.state_word-state.ensures ∙ ap state_word c.get.ensures.state)
    (c.get-3.ensures ∙ ap (λ (r : Row). slice_index r.votes p) c.row.view_is)) c.write_label.ensures
