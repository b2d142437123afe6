-- What follows for a result from what is known of it.
use Rattle.std.proofs.Common.{◌≡◌, ◌∙◌, ℕ, List, length, sym, subst}
use Rattle.std.specs.Prelude.{Result, Ok, Err, OnOk, IfOk}
use Rattle.plain_ballots.specs.Ballots.{plain}
use Rattle.batch_core.specs.declared.entry.Entry.{Entry}
use Rattle.batch_core.specs.Histories.{standing_after}
use Rattle.day_reader.specs.declared.script.Script.{Script}
use Rattle.tally_cli.specs.Changes.{IsHistoryOf}
use Rattle.tally_cli.specs.First.{first}
use Rattle.tally_cli.specs.Owed.{total_lines}

pub on_ok : {T E : Type 0} (r : Result T E) (P Q R S : Type 0) → (P → Q → R → S) → OnOk r P → OnOk r Q → OnOk r R → OnOk r S
on_ok (Ok x) P Q R S f p q t = f p q t
on_ok (Err e) P Q R S f p q t = tt

-- a text is owed for the history whose lines it has
pub text_owed :
    {T E : Type 0} (text made : Result T E) (items : T → List ℕ) (scripts : List Script) (n : ℕ)
    (lines : List ℕ) (history : List Entry) → text ≡ made → IfOk made (λ t. items t ≡ lines)
    → IsHistoryOf scripts history → lines ≡ total_lines n (first (plain (standing_after history (length history))))
    → IfOk text (λ t. (h : List Entry) × IsHistoryOf scripts h
    × (items t ≡ total_lines n (first (plain (standing_after h (length h))))))
text_owed text (Ok t) items scripts n lines history same is changes owed =
    subst (λ r. IfOk r (λ t. (h : List Entry) × IsHistoryOf scripts h
    × (items t ≡ total_lines n (first (plain (standing_after h (length h))))))) (sym same)
    (history, changes, is ∙ owed)
text_owed text (Err e) items scripts n lines history same is changes owed =
    subst (λ r. IfOk r (λ t. (h : List Entry) × IsHistoryOf scripts h
    × (items t ≡ total_lines n (first (plain (standing_after h (length h))))))) (sym same) tt

-- nothing is to show of an error
pub if_err : {T E : Type 0} (r : Result T E) (e : E) (P : T → Type 0) → r ≡ Err e → IfOk r P
if_err (Ok x) e P same = absurd (cc)
if_err (Err d) e P same = tt
