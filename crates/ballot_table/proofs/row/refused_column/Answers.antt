use Rattle.std.proofs.Common.{◌-◌, ℕ, get_or, ap, sym, ◌∙◌, inl, inr}
use Rattle.ballot_table.specs.declared.held.Held.{Held}
use Rattle.ballot_table.specs.declared.held.Held.TheVariants.{Nobody}
use Rattle.ballot_table.specs.declared.layout.Layout.{Layout}
use Rattle.ballot_table.specs.Held.{held_refused}
use Rattle.ballot_table.specs.JudgedRows.{refused_at}
use Rattle.ballot_table.specs.Refusals.{place_of, is_candidate, is_rank}
use Rattle.ballot_table.proofs.row.refused_column.Goals as goal

pub returns-in-Ranks : goal.returns-in-Ranks
returns-in-Ranks c =
    let columns = c.args.columns.now in
    let held = c.args.cells.now.holders.held in
    let here = c.at.ensures ∙ ap (λ (r : ℕ). get_or held (r - 1) Nobody) c.rank_at-rank.ensures in
    let who = c.refused.ensures ∙ ap (λ (h : Held). held_refused c.args.why h) here in
    c.place_of_candidate.ensures ∙ ap (λ (n : ℕ). place_of (is_candidate n) columns) who
    ∙ sym (ap (λ (l : Layout). refused_at l columns c.args.cells.now c.args.place c.args.why) c.in-Ranks.is)

pub returns-in-Choices : goal.returns-in-Choices
returns-in-Choices c =
    let columns = c.args.columns.now in
    let here = c.place_of_rank.ensures ∙ ap (λ (n : ℕ). place_of (is_rank n) columns) c.rank_at-rank.ensures in
    let by = λ (l : Layout). refused_at l columns c.args.cells.now c.args.place c.args.why in
    elim c.in-Choices.is [
      | inl choices ↦ here ∙ sym (ap by choices)
      | inr list ↦ here ∙ sym (ap by list)
    ]
