use Rattle.std.proofs.Common.{◌≡◌, ◌∙◌, ◌+◌, ℕ, List, ap, refl}
use Rattle.std.specs.Prelude.{slice_index}
use Rattle.candidate_roll.specs.State.{state_at}
use Rattle.meek_rule.specs.Row.{Row}
use Rattle.page_tree.specs.Print.{printed}
use Rattle.sheet_page.specs.Iterations.{keep_note, standing, state_note}
use Rattle.sheet_page.proofs.Pens.{renamed}
use Rattle.sheet_page.proofs.iterations.write_standing_of.Goals as goal

standing_is :
    (places number : ℕ) (state note keep kept : List ℕ) (vote amount : ℕ) → state ≡ note → keep ≡ kept → vote ≡ amount
    → printed (standing places number state keep vote) ≡ printed (standing places number note kept amount)
standing_is places number state note keep kept vote amount is_state is_keep is_vote = rw (is_state, is_keep, is_vote) refl

pub returns : goal.returns
returns g c =
    let p = c.args.p in
    let state = c.get.ensures.state ∙ ap (λ (r : Row). state_at r.states p) c.row.view_is in
    let keep = c.kept_of_one.ensures ∙ c.get-2.ensures ∙ ap (λ (r : Row). slice_index r.keeps p) c.row.view_is in
    renamed
    (standing_is g.row.P (p + 1) _ _ _ _ _ _ (c.state_note-state.ensures ∙ ap state_note state)
    (c.bytes.ensures.value ∙ c.keep_note-keep.ensures ∙ ap (keep_note g.row.P) keep)
    (c.get-3.ensures ∙ ap (λ (r : Row). slice_index r.votes p) c.row.view_is)) c.write_standing.ensures
