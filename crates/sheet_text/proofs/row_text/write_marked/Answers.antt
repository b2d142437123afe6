use Rattle.std.proofs.Common.{◌≡◌, false, sym, ◌∙◌}
use Rattle.std.specs.List.{list_any}
use Rattle.sheet_text.proofs.WritingLemmas.{wrote_nothing}
use Rattle.sheet_text.proofs.row_text.write_marked.Goals as goal

pub returns-then-not-is_any : goal.returns-then-not-is_any
returns-then-not-is_any g c =
    let nobody : list_any (λ mark. mark) c.args.marks.now ≡ false = sym c.is_any.ensures ∙ c.if-not-is_any.true in
    rw nobody (wrote_nothing _ _ _)
