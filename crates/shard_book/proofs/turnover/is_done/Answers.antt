use Rattle.std.proofs.Common.{◌≡◌, ℕ, false, refl, sym}
use Rattle.batch_core.specs.declared.reply.Reply.{Reply}
use Rattle.batch_core.specs.declared.reply.Reply.TheVariants.{Entered, Corrected, Withdrawn}
use Rattle.shard_book.specs.Turnover.{is_done}
use Rattle.shard_book.proofs.turnover.is_done.Goals as goal

not_done :
    (answer : Reply) → (answer ≡ Entered → ⊥) → ((r : ℕ) → answer ≡ Corrected r → ⊥)
    → ((r : ℕ) → answer ≡ Withdrawn r → ⊥) → is_done answer ≡ false
not_done Entered not_entered not_corrected not_withdrawn = absurd (not_entered refl)
not_done (Corrected r) not_entered not_corrected not_withdrawn = absurd (not_corrected r refl)
not_done (Withdrawn r) not_entered not_corrected not_withdrawn = absurd (not_withdrawn r refl)
not_done _ not_entered not_corrected not_withdrawn = refl

pub returns-in_default : goal.returns-in_default
returns-in_default c =
    sym (not_done c.args.reply c.in_default.not-Entered c.in_default.not-Corrected c.in_default.not-Withdrawn)
