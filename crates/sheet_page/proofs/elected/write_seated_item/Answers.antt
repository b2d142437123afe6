use Rattle.std.proofs.Common.{◌≡◌, ◌∙◌, ◌+◌, ℕ, Bool, List, [], ap, subst, sym}
use Rattle.std.specs.Prelude.{Some, if◌then◌else◌, slice_get}
use Rattle.std.proofs.lemmas.Option.{get_or_from_slice_get}
use Rattle.page_tree.specs.Print.{printed}
use Rattle.page_tree.specs.Trees.{Nothing}
use Rattle.sheet_reader.specs.Values.{SheetList}
use Rattle.sheet_page.specs.Html.{at_end}
use Rattle.sheet_page.specs.Values.{name_at}
use Rattle.sheet_page.proofs.Pens.{renamed}
use Rattle.sheet_page.proofs.elected.write_seated_item.Goals as goal

pub returns-then-is_seated : goal.returns-then-is_seated
returns-then-is_seated g c =
    let v = c.args.values.now in
    let p = c.args.p in
    let at = subst (λ (w : SheetList). slice_get w.names p ≡ Some c.get.result.now) c.values.view_is c.get.ensures in
    let name = c.bytes.ensures.value ∙ sym (get_or_from_slice_get v.names p c.get.result.now [] at) in
    let seated = sym c.is_seated.ensures ∙ c.if-is_seated.true in
    renamed (ap (λ (l : List ℕ). printed (at_end l (p + 1))) name
    ∙ sym (ap (λ (b : Bool). printed (if b then at_end (name_at v p) (p + 1) else Nothing)) seated)) c.write_at_end.ensures
