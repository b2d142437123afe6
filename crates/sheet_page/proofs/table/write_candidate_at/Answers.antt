use Rattle.std.proofs.Common.{◌≡◌, ◌∙◌, ◌+◌, ℕ, List, [], ap, subst, sym}
use Rattle.std.specs.Prelude.{Some, slice_get}
use Rattle.std.proofs.lemmas.Option.{get_or_from_slice_get}
use Rattle.page_tree.specs.Print.{printed}
use Rattle.sheet_reader.specs.Values.{SheetList}
use Rattle.sheet_page.specs.RoundTable.{candidate_head}
use Rattle.sheet_page.proofs.Pens.{renamed}
use Rattle.sheet_page.proofs.table.write_candidate_at.Goals as goal

pub returns : goal.returns
returns g c =
    let v = c.args.values.now in
    let p = c.args.p in
    let at = subst (λ (w : SheetList). slice_get w.names p ≡ Some c.get.result.now) c.values.view_is c.get.ensures in
    let name = c.bytes.ensures.value ∙ sym (get_or_from_slice_get v.names p c.get.result.now [] at) in
    renamed (ap (λ (l : List ℕ). printed (candidate_head l (p + 1))) name) c.write_candidate.ensures
