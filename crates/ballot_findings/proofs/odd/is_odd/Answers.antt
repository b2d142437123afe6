use Rattle.std.proofs.Common.{◌∙◌, ap, sym, Bool, List, ℕ}
use Rattle.std.specs.Prelude.{if◌then◌else◌}
use Rattle.std.specs.Str.{chars}
use Rattle.std.proofs.lemmas.Str.{is_utf8-from_IsUtf8}
use Rattle.ballot_findings.specs.Oddities.{has_oddity, is_of_bytes}
use Rattle.ballot_findings.proofs.Texts.{no_text}
use Rattle.ballot_findings.proofs.odd.is_odd.Goals as goal

pub returns-in-Ok : goal.returns-in-Ok
returns-in-Ok c =
    let bytes = c.args.bytes.now in
    let oddity = c.args.oddity in
    c.has_oddity.ensures
    ∙ (ap (λ (bs : List ℕ). has_oddity oddity (chars bs)) c.in-Ok.ensures.cases.0
    ∙ ap (λ (b : Bool). if b then has_oddity oddity (chars bytes) else is_of_bytes oddity)
    (sym (is_utf8-from_IsUtf8 bytes c.in-Ok.ensures.cases.1)))

pub returns-in-Err : goal.returns-in-Err
returns-in-Err c =
    let bytes = c.args.bytes.now in
    let oddity = c.args.oddity in
    c.is_of_bytes.ensures
    ∙ ap (λ (b : Bool). if b then has_oddity oddity (chars bytes) else is_of_bytes oddity)
    (sym (no_text bytes c.in-Err.ensures.cases.0))
