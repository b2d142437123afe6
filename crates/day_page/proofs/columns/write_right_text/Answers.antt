use Rattle.std.proofs.Common.{◌≡◌, ap, arith, ℕ, ◌-◌, length, replicate}
use Rattle.sheet_page.proofs.Pens.{later, renamed}
use Rattle.day_page.proofs.columns.write_right_text.Goals as goal

pub returns : goal.returns
returns g c =
    let gap : c.saturating_sub.result ≡ c.args.width - length c.args.text.now = omega arith in
    later (renamed (ap (λ (n : ℕ). replicate n 32) gap) c.write_spaces.ensures) c.piece.ensures
