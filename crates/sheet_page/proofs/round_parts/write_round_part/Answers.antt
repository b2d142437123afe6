use Rattle.std.proofs.Common.{arith, ◌≡◌, ◌∙◌, ap, sym, subst, [], ◌∷◌, List}
use Rattle.std.specs.Prelude.{codes, Some, slice_get}
use Rattle.std.proofs.lemmas.Option.{get_or_from_slice_get}
use Rattle.candidate_roll.specs.declared.state.State.{State}
use Rattle.meek_rule.specs.Row.{Row, blank}
use Rattle.page_tree.specs.Print.{printed}
use Rattle.sheet_reader.specs.Values.{SheetList}
use Rattle.sheet_minutes.specs.Rounds.{row_at}
use Rattle.sheet_page.specs.Html.{round_title}
use Rattle.sheet_page.specs.Links.{part_attributes, part_name}
use Rattle.sheet_page.specs.Iterations.{folded}
use Rattle.sheet_page.specs.Picture.{round_picture}
use Rattle.sheet_page.specs.RoundEnds.{settled, settled_at}
use Rattle.sheet_page.specs.Told.{round_sentences}
use Rattle.sheet_page.proofs.Printing.{wrapped}
use Rattle.sheet_page.proofs.Pens.{later, renamed}
use Rattle.sheet_page.proofs.RowsAt.{printable_at}
use Rattle.sheet_page.proofs.round_parts.write_round_part.Goals as goal

pub returns : goal.returns
returns g c =
    let v = c.args.values.now in
    let full = c.args.full in
    let last = c.args.last in
    let at =
    subst (λ (w : SheetList). slice_get w.rows last ≡ Some c.get-row.result.now) c.values.view_is c.get-row.ensures in
    let row = get_or_from_slice_get v.rows last c.get-row.result.now (blank 0) at in
    let title = ap (λ (r : Row). printed (round_title r.round)) (c.row.view_is ∙ sym row) in
    let picture = ap (λ (r : Row). printed (round_picture g.row.P v full (settled r c.states_behind.result.now))) (sym row)
    ∙ ap (λ (s : List State). printed (round_picture g.row.P v full (settled (row_at v.rows last) s))) c.states_behind.ensures.states in
    renamed (wrapped (codes "section") (part_attributes (part_name c.args.names last)) (round_title (row_at v.rows last).round ∷ round_sentences g.row.P v last
    ∷ round_picture g.row.P v full (settled_at v last) ∷ folded g.row.P v last ∷ []))
    (later c.write_start.ensures (later (renamed title c.write_title.ensures) (later c.write_round_sentences.ensures
    (later (renamed picture c.write_round_picture.ensures) (later c.write_folded.ensures c.close.ensures)))))

pub write_round_picture-requires : goal.write_round_picture-requires
write_round_picture-requires g c =
    let v = c.args.values.now in
    let at = subst (λ (w : SheetList). slice_get w.rows c.args.last ≡ Some c.get-row.result.now) c.values.view_is c.get-row.ensures in
    let row = get_or_from_slice_get v.rows c.args.last c.get-row.result.now (blank 0) at in (
      omega arith,
      (
        omega arith,
        (
          omega arith,
          (
            c.requires.printable,
            ((printable_at g.row.P v c.args.last _ c.requires.printable c.requires.place row).of_all, c.states_behind.ensures.all),
          ),
        ),
      ),
    )
