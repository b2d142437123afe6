use Rattle.std.proofs.Common.{◌∙◌, ap, sym, [], ◌∷◌, append-nil}
use Rattle.std.specs.Prelude.{codes}
use Rattle.sheet_reader.specs.Values.{SheetList}
use Rattle.page_tree.specs.Print.{printed}
use Rattle.sheet_page.specs.Trees.{void, at}
use Rattle.sheet_page.specs.Html.{window_title, style_part}
use Rattle.sheet_page.proofs.Printing.{wrapped}
use Rattle.sheet_page.proofs.Pens.{later, renamed}
use Rattle.sheet_page.proofs.html.write_head.Goals as goal

pub returns : goal.returns
returns g c =
    let charset = at (codes "charset") (codes "utf-8") ∷ [] in
    let viewport = at (codes "name") (codes "viewport") ∷ at (codes "content") (codes "width=device-width") ∷ [] in
    let title = c.bytes.ensures.value ∙ ap (λ (v : SheetList). v.title) c.values.view_is in
    renamed (wrapped (codes "head") [] (void (codes "meta") charset ∷ void (codes "meta") viewport
    ∷ window_title c.args.values.now.title ∷ style_part ∷ []))
    (later c.open.ensures (later (renamed (sym (append-nil _)) c.start.ensures)
    (later (renamed (sym (append-nil _)) c.start-2.ensures)
    (later (renamed (ap (λ l. printed (window_title l)) title) c.write_window_title.ensures)
    (later c.write_style.ensures c.close.ensures)))))
