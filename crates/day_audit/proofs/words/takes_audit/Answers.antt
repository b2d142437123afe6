use Rattle.std.proofs.Common.{◌≡◌, length, map, sym, ap, ◌∙◌, arith, string_bytes}
use Rattle.std.proofs.lemmas.List.{length-map}
use Rattle.day_audit.proofs.WordLemmas.{refused_asked}
use Rattle.day_audit.proofs.words.takes_audit.Goals as goal

pub returns-in-Err : goal.returns-in-Err
returns-in-Err c =
    let words = map string_bytes c.args.words.now in
    let some : ¬ (length c.args.words.now ≡ 0) = grind (arith, c.is_empty.ensures, c.if-is_empty.false) in
    refused_asked words c.in-Err.stop
    (λ none. some (sym (length-map c.args.words.now string_bytes) ∙ ap length none)) c.in-Err.ensures
