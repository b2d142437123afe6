use Rattle.std.proofs.Common.{rules, ◌≡◌, ◌∙◌, ap, ◌+◌, List, ℕ}
use Rattle.lot_order.specs.Flags.{mark_at}
use Rattle.sheet_page.specs.Json.{truth, won_json, lost_json}
use Rattle.sheet_page.specs.Values.{defeats}
use Rattle.sheet_page.proofs.Pens.{later, renamed}
use Rattle.sheet_page.proofs.json.write_standing.Goals as goal

pub returns : goal.returns
returns g c =
    let p = c.args.p in
    let row = c.args.row.now in
    let elected : c.truth-elected.result.now ≡ truth (mark_at row.elected p) = search rules in
    let capped : c.truth-capped.result.now ≡ truth (mark_at row.capped p) = search rules in
    let tied : c.truth-tied.result.now ≡ truth (mark_at row.tied p) = search rules in
    let defeated : c.truth-defeated.result.now ≡ truth (defeats row.step (p + 1)) = search rules in
    let won =
    ap (λ (l : List ℕ). won_json l c.truth-capped.result.now) elected
    ∙ ap (λ (l : List ℕ). won_json (truth (mark_at row.elected p)) l) capped in
    let lost =
    ap (λ (l : List ℕ). lost_json l c.truth-defeated.result.now) tied
    ∙ ap (λ (l : List ℕ). lost_json (truth (mark_at row.tied p)) l) defeated in
    later c.write_vote.ensures (later (renamed won c.write_won.ensures) (renamed lost c.write_lost.ensures))
