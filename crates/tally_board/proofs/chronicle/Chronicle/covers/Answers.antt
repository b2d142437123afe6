use Rattle.std.proofs.Common.{ap, sym, ◌∙◌, subst}
use mathlib.Core.List.{IsPrefix}
use Rattle.tally_board.proofs.LawLemmas.{holds}
use Rattle.tally_board.proofs.LineLemmas.{prefix_more}
use Rattle.tally_board.proofs.NoteLemmas.{note_begins}
use Rattle.tally_board.specs.Lines.{IsUnspent}
use Rattle.tally_board.specs.Marks.{key_of}
use Rattle.tally_board.proofs.chronicle.Chronicle.covers.Goals as goal

pub compare_exchange-requires : goal.compare_exchange-requires
compare_exchange-requires c =
    let was = c.self.invariant in
    let h = was.0 in
    let offer = c.plain-offer.ensures in
    let book = c.learn.ensures.0 ∙ ap (λ s. s.book) c.again-both.ensures in (
      ap (λ w. w.tracked) h,
      book ∙ sym (ap (λ w. w.book) h),
      was.1 ∙ sym (ap (λ w. w.book) h),
      offer.0,
      rw (ap (λ w. w.key) h, offer.3) (holds c.learn.new.self.log c.self.inside.pen.nib c.plain-offer.result.ask was.2),
    )

pub returns-clause-begins : goal.returns-clause-begins
returns-clause-begins c =
    let was = c.self.invariant in
    let seen = c.self.inside.seen in
    let said = c.compare_exchange.ensures.7 in
    let mine : IsPrefix seen.log c.learn.new.self.log =
    subst (λ l. IsPrefix l c.learn.new.self.log) (ap (λ s. s.log) c.again-both.ensures) c.learn.ensures.2 in
    let zs = c.compare_exchange.new.seen.log in
    note_begins c.note.inside c.args.note.now c.args.self.now seen.book (key_of c.self.inside.home) seen.log zs
    c.note.view_is c.self.view_is c.requires
    (prefix_more c.note.inside.seen.log c.learn.new.self.log zs c.learn.ensures.3 said.1)
    (prefix_more seen.log c.learn.new.self.log zs mine said.1)
    (subst (λ k. IsUnspent k zs) was.3 said.2)
