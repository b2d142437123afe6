use Rattle.std.proofs.Common.{◌++◌, ◌∷◌, [], ap, sym, ◌∙◌}
use Rattle.tally_board.specs.Lines.{moves_from}
use Rattle.tally_board.specs.Marks.{key_of}
use Rattle.tally_board.proofs.LawLemmas.{spends}
use Rattle.tally_board.proofs.LineLemmas.{pushed}
use Rattle.tally_board.proofs.Counts.{counts}
use Rattle.tally_board.proofs.chronicle.Chronicle.push.Goals as goal

pub compare_exchange-self-inside-requires : goal.compare_exchange-self-inside-requires
compare_exchange-self-inside-requires c =
    let was = c.self.invariant in
    let h = was.0 in
    let offer = c.plain-offer.ensures in (
      ap (λ w. w.tracked) h,
      sym (ap (λ w. w.book) h),
      was.1 ∙ sym (ap (λ w. w.book) h),
      offer.0,
      rw (ap (λ w. w.key) h, offer.3) (spends c.self.inside.seen.log c.self.inside.pen.nib c.plain-offer.result.ask was.2),
    )

pub invariant_of-self : goal.invariant_of-self
invariant_of-self c =
    let was = c.self.invariant in
    let first = key_of c.self.inside.home in
    let said = c.compare_exchange-self-inside.ensures in
    let ask = c.plain-offer.ensures.1 in
    let more = pushed first _ c.self.inside.seen.log c.compare_exchange-self-inside.new.seen.log _ _ was.3 said.7 in (
      was.0 ∙ ap (λ b. Rattle.tally_board.specs.Law.head_of b) (sym said.0),
      c.fresh.ensures.book ∙ sym said.0,
      c.fresh.ensures.right,
      sym (more.1 ∙ ap (λ l. l.next) ask),
      counts c.self.inside.count _ c.self.inside.last _ _ c.args.step was.4
          c.saturating_add-self-inside.ensures
          (more.0 ∙ ap (λ l. moves_from first c.self.inside.seen.log ++ l.step ∷ []) ask),
    )

pub returns : goal.returns
returns c =
    let was = c.self.invariant in
    let first = key_of c.self.inside.home in
    let said = c.compare_exchange-self-inside.ensures in
    let ask = c.plain-offer.ensures.1 in
    let more = pushed first _ c.self.inside.seen.log c.compare_exchange-self-inside.new.seen.log _ _ was.3 said.7 in
    let all = more.0 ∙ ap (λ l. moves_from first c.self.inside.seen.log ++ l.step ∷ []) ask in
    (λ i. record { board = record { book = said.0 i; first = first }; moves = all i })
    ∙ ap (λ t. record { board = t.board; moves = t.moves ++ c.args.step ∷ [] }) c.self.view_is
