use Rattle.std.proofs.Common.{◌≡◌, ◌+◌, ◌∷◌, ◌++◌, [], List, ℕ, Option, arith, get_or, sym, ap, ◌∙◌, take}
use Rattle.std.specs.List.{cons_option}
use Rattle.std.proofs.lemmas.Grind.{common_steps}
use Rattle.std.proofs.lemmas.List.{take_more, append-nil}
use Rattle.std.proofs.lemmas.List.Elements.{filter_map-append}
use Rattle.ballot_table.specs.declared.column.Column.TheVariants.{Weight}
use Rattle.ballot_table.specs.Rows.{column_rank, ranks_at}
use Rattle.ballot_table.proofs.columns.ranks_at.Goals as goal
use Rattle.ballot_table.proofs.columns.ranks_at.Goals.{in-Some+else-is_err, in_default}

pub loop-column-preserved : goal.loop-column-preserved
loop-column-preserved c =
    let columns = c.args.columns.now in
    let at = c.loop-column.column-index in
    let before = c.loop-column.invariant in
    let column = get_or columns at Weight in
    let next : ranks_at (take (at + 1) columns) ≡ ranks_at (take at columns) ++ cons_option (column_rank column) [] =
    ap ranks_at (take_more columns at Weight c.loop-column-test.true) ∙ filter_map-append column_rank (take at columns) (column ∷ []) in
    elim c.match-column_rank.branch [
      | in-Some+else-is_err w ↦
          let pushed : w.push.new.self.items ≡ c.loop-column.ranks.items ++ w.in-Some.rank ∷ [] = grind (arith, common_steps) in
          ap (λ v. v.items) w.ranks-is ∙ pushed ∙ ap (λ (rs : List ℕ). rs ++ w.in-Some.rank ∷ []) before
          ∙ sym (next ∙ ap (λ (o : Option ℕ). ranks_at (take at columns) ++ cons_option o []) (sym c.column_rank.ensures ∙ w.in-Some.is))
      | in_default w ↦
          ap (λ v. v.items) w.ranks-is ∙ before
          ∙ sym (next ∙ ap (λ (o : Option ℕ). ranks_at (take at columns) ++ cons_option o []) (sym c.column_rank.ensures ∙ w.in_default.is)
          ∙ append-nil (ranks_at (take at columns)))
    ]
