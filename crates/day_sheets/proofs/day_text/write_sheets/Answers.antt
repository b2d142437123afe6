use Rattle.std.proofs.Common.{rules, ◌≡◌, ◌⊎◌, List, [], ◌∷◌, inl, inr, ⊎_elim, sym, ap, ◌∙◌, subst}
use Rattle.std.specs.Slice.Iter.{iter_rest}
use Rattle.std.specs.Vec.Iter.{into_iter_items}
use Rattle.std.specs.Iterator.Adapters.{zip_first, zip_second}
use Rattle.std.specs.Prelude.{All}
use Rattle.std.proofs.lemmas.List.{nil_from_length}
use Rattle.std.proofs.lemmas.List.Elements.{All-head}
use Rattle.day_sheets.specs.DueSheets.{sheets_at}
use Rattle.day_sheets.proofs.DueTexts.{HasOwn, writing_more, writing_stopped, writing_all, no_counts}
use Rattle.day_sheets.proofs.day_text.write_sheets.Goals as goal

pub loop-at-preserved : goal.loop-at-preserved
loop-at-preserved g c = (
  (tt, tt),
  tt,
  writing_more g.row.P (sheets_at c.args.places.now c.args.counts.items) _ _
      (record { at = c.in-Some.at.now; due = c.in-Some.count }) c.loop-at.invariant.2
      (λ i. sheets_at (c.in-Some.ensures.steps.0 i) (c.in-Some.ensures.steps.1.0 i))
      c.in_ok-write_due.ensures,
)

pub returns-in_err-write_due : goal.returns-in_err-write_due
returns-in_err-write_due g c =
    writing_stopped g.row.P (sheets_at c.args.places.now c.args.counts.items) _ _
    (record { at = c.in-Some.at.now; due = c.in-Some.count }) c.from_residual.result
    c.from_residual.ensures.0 c.loop-at.invariant.2
    (λ i. sheets_at (c.in-Some.ensures.steps.0 i) (c.in-Some.ensures.steps.1.0 i)) c.in_err-write_due.ensures

pub returns : goal.returns
returns g c =
    let places = iter_rest (zip_first c.loop-at.at-iterator) in
    let counts = into_iter_items (zip_second c.loop-at.at-iterator) in
    let none : sheets_at places counts ≡ [] =
    ⊎_elim
    (λ first. ap (λ (l : List _). sheets_at l counts) (nil_from_length places first.1.0))
    (λ second. ap (sheets_at places) (nil_from_length counts (sym (zip_second c.loop-at.at-iterator).rest.ok.0 ∙ second.1.0)) ∙ no_counts places)
    c.in-None.ensures.steps in
    writing_all g.row.P (sheets_at c.args.places.now c.args.counts.items) _ c.loop-at.invariant.2 none

pub write_due-requires : goal.write_due-requires
write_due-requires g c = (
  search rules,
  All-head (HasOwn g.row.P) _ _
      (subst (All (HasOwn g.row.P))
      (λ i. sheets_at (c.in-Some.ensures.steps.0 i) (c.in-Some.ensures.steps.1.0 i)) c.loop-at.invariant.2.sheets),
)
