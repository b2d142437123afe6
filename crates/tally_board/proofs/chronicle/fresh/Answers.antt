use Rattle.std.proofs.Common.{ap, sym, ◌∙◌}
use Rattle.tally_board.proofs.LawLemmas.{opens}
use Rattle.tally_board.proofs.chronicle.fresh.Goals as goal

pub compare_exchange-requires : goal.compare_exchange-requires
compare_exchange-requires c =
    let h = c.requires in
    let offer = c.plain-offer.ensures in
    let pen = c.no_pen-pen.ensures in
    let again = ap (λ s. s.book) c.again-seen.ensures in (
      ap (λ w. w.tracked) h,
      again ∙ sym (ap (λ w. w.book) h),
      pen.0 ∙ (again ∙ sym (ap (λ w. w.book) h)),
      offer.0,
      rw (ap (λ w. w.key) h, pen.1, offer.3) (opens c.again-seen.result.log c.plain-offer.result.ask),
    )
